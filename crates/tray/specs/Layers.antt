-- What waits in a table together with what waits below.
use Rattle.std.specs.Prelude.{ℕ, ◌+◌, ◌≤◌, List, [], ◌∷◌, ◌++◌, length, take, Some, None, Option}
use Rattle.std.proofs.Common.{arith, length-append, length-take}
use Rattle.protocol.specs.declared.messages.Message.{Message}
use Rattle.tray.specs.Tables.{messages, kept}

-- a place has one message at most
messages_le : (ps : List (Option Message)) → length (messages ps) ≤ length ps
unfolding messages
messages_le [] = omega arith
messages_le (None ∷ ps) = let e = messages_le ps in omega arith
messages_le (Some m ∷ ps) = let e = messages_le ps in omega arith

pub kept_le : (ps : List (Option Message)) → length (kept ps) ≤ 8
kept_le ps = omega (arith, messages_le (take 8 ps), length-take 8 ps)

pub both_fit : (ps : List (Option Message)) (below : List Message) (capacity : ℕ) → length below ≤ capacity → length (kept ps ++ below) ≤ 8 + capacity
both_fit ps below capacity h = omega (arith, length-append (kept ps) below, kept_le ps)
