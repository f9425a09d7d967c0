-- Choosing the lowest of a row.
use Rattle.std.proofs.Common.{◌≡◌, ℕ, Bool, true, false, cond, ◌&&◌, ltb, is_some, Some, None, Option, refl}
use Rattle.protocol.specs.declared.votes.Ballot.{Ballot}

pub none_chosen : (b : Bool) (o : Option Ballot) → o ≡ None → cond b o None ≡ None
none_chosen true o e = e
none_chosen false o e = refl

pub chosen_at : (s m : ℕ) (o : Option Ballot) → cond (ltb s m) o None ≡ cond (is_some o && ltb s m) o None
chosen_at s m None = none_chosen (ltb s m) None refl
chosen_at s m (Some b) = refl
