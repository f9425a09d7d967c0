-- Texts put one behind another.
use Rattle.std.proofs.Common.{◌≡◌, ℕ, List, ◌++◌, IfOk, Result, sym, ap, ◌∙◌}
use Rattle.std.proofs.lemmas.Result.{IfOk-weaker}
use Rattle.text.specs.declared.NoMemory.{NoMemory}
use Rattle.text.specs.declared.Text.{Text}
use Rattle.text.specs.Shown.{shown}

-- what was put for g was put for its equal f, as an arm of a `match` has it
pub at_arm : {A : Type 0} (spell : A → List ℕ) (r : Result Text NoMemory) (x : List ℕ) (f g : A) → f ≡ g → IfOk r (λ t. shown t ≡ x ++ spell g) → IfOk r (λ t. shown t ≡ x ++ spell f)
at_arm spell r x f g is h = IfOk-weaker r _ _ (λ t e. e ∙ ap (λ y. x ++ spell y) (sym is)) h
