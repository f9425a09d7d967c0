-- What a process heard from one sender.
use Rattle.std.specs.Prelude.{ℕ, Bool, false, Option, Some, None, ◌==◌}

-- it heard something, and that is body b
abbrev pub has : Option ℕ → ℕ → Bool
has None b = false
has (Some c) b = c == b
