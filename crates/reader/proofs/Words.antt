-- A token that is none of some words.
use Rattle.std.proofs.Common.{◌≡◌, ℕ, Bool, true, false, ◌||◌, List, [], ◌∷◌, refl, ap, ◌∙◌}
use Rattle.std.proofs.lemmas.Slice.Eq.{bytes_eq-Decides}
use Rattle.std.specs.Str.{bytes_eq}
use Rattle.grammar.specs.Grammar.{known}

abbrev pub Unlike : List ℕ → List (List ℕ) → Type 0
Unlike p [] = Unit {0}
Unlike p (w ∷ ws) = (p ≡ w → ⊥) × Unlike p ws

other : (p w : List ℕ) (b : Bool) → bytes_eq p w ≡ b → (p ≡ w → ⊥) → bytes_eq p w ≡ false
other p w true e h = absurd (h ((bytes_eq-Decides p w).0 e))
other p w false e h = e

pub not_known : (p : List ℕ) (ws : List (List ℕ)) → Unlike p ws → known ws p ≡ false
not_known p [] h = refl
not_known p (w ∷ ws) h = ap (λ b. b || known ws p) (other p w (bytes_eq p w) refl h.0) ∙ not_known p ws h.1
