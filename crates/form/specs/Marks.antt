-- The marks of a line form, which clauses see as a list.
use Rattle.std.specs.Prelude.{ℕ, Bool, cond, List, [], ◌∷◌, ◌++◌, length, nat_lt}

abbrev pub room_for : List ℕ → Bool
room_for ms = nat_lt (length ms) 16

abbrev pub added : List ℕ → ℕ → List ℕ
added ms m = cond (room_for ms) (ms ++ m ∷ []) ms
