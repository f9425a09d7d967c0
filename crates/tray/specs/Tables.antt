-- The messages in the places of a table.
use Rattle.std.specs.Prelude.{ℕ, Bool, false, not, List, [], ◌∷◌, ◌++◌, take, is_some, Some, None, Option}
use Rattle.protocol.specs.declared.messages.Message.{Message}
use Rattle.protocol.specs.Bags.{addressed}

abbrev pub in_place : Option Message → List Message
in_place None = []
in_place (Some m) = m ∷ []

abbrev pub is_free : Option Message → Bool
is_free o = not (is_some o)

abbrev pub is_for : ℕ → Option Message → Bool
is_for process None = false
is_for process (Some m) = addressed process m

unfoldable pub messages : List (Option Message) → List Message
messages [] = []
messages (p ∷ ps) = in_place p ++ messages ps

-- what a table of 8 places keeps
abbrev pub kept : List (Option Message) → List Message
kept ps = messages (take 8 ps)
