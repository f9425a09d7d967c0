-- What reading owes to writing.
use Rattle.std.specs.Prelude.{◌≡◌, ℕ, ◌+◌, List, [], ◌∷◌, ◌++◌, length, Some, None, Ok, Err, Option, Result, ◌≢◌}
use Rattle.std.specs.List.{concat}
use Rattle.token.specs.declared.fault.Position.{Position}
use Rattle.token.specs.Tokens.{pieces}
use Rattle.form.specs.declared.forms.Form.{Form}
use Rattle.form.specs.Format.{written, FormFits}
use Rattle.grammar.specs.declared.fault.FormFault.{FormFault}
use Rattle.grammar.specs.declared.fault.FormFault.TheVariants.{Unexpected}
use Rattle.grammar.specs.Grammar.{misplaced}

-- The answer r to the text s is a form exactly where s is what writing that form gives.
pub record Exact (s : List ℕ) (r : Result Form FormFault) : Type 0 where
  pub text : (f : Form) → r ≡ Ok f → s ≡ written f
  pub fits : (f : Form) → r ≡ Ok f → FormFits f
  pub only : (f : Form) → FormFits f → s ≡ written f → r ≡ Ok f

abbrev pub first_token : List (List ℕ) → Option (List ℕ)
first_token [] = None
first_token (p ∷ ps) = Some p

-- the fault of the next of these tokens, or of their end
abbrev pub fault_at : Position → List (List ℕ) → FormFault
fault_at at [] = Unexpected at
fault_at at (p ∷ ps) = misplaced at p

-- A fault of the text s, in the format's words. The tokens before it begin some written form,
-- and no written form that begins with them goes on as s does.
pub record Leftmost (at : ℕ) (s : List ℕ) (e : FormFault) : Type 0 where
  pub before : List (List ℕ)
  pub after : List (List ℕ)
  pub cut : pieces s ≡ before ++ after
  pub place : e ≡ fault_at (record { line = at; byte = 1 + length (concat before) }) after
  pub begun : Form
  pub held : FormFits begun
  pub rest : List (List ℕ)
  pub begins : pieces (written begun) ≡ before ++ rest
  pub nowhere : (f : Form) (more : List (List ℕ)) → FormFits f → pieces (written f) ≡ before ++ more → first_token more ≢ first_token after

abbrev pub Faults : ℕ → List ℕ → Result Form FormFault → Type 0
Faults at s r = (e : FormFault) → r ≡ Err e → Leftmost at s e
