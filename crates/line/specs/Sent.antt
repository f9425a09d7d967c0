-- What sending does to a carrier.
use Rattle.std.specs.Prelude.{◌≡◌, ℕ, ◌+◌, ◌≤◌, List, ◌++◌, length}
use Rattle.protocol.specs.Bags.{Same}
use Rattle.protocol.specs.declared.messages.Message.{Message}
use Rattle.carrier.specs.Posting.{Posts}

-- beside the messages that wait there is room for k more
abbrev pub HasRoom : ℕ → ℕ → List Message → Type 0
HasRoom k capacity ws = length ws + k ≤ capacity

-- the messages were posted in this order, and wait with the others
pub record Sent {C : Type 0} (waiting : C → List Message) (capacity : C → ℕ) (posting : C → Message → C → Type 0) (before : C) (ms : List Message) (after : C) : Type 0 where
  pub kept : capacity after ≡ capacity before
  pub same : Same (waiting after) (ms ++ waiting before)
  pub posts : Posts posting before ms after
