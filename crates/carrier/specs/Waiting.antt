-- What waits in a carrier, and what posting and taking do to it.
use Rattle.std.specs.Prelude.{◌≡◌, ℕ, ◌-◌, ◌<◌, ◌≤◌, min, List, ◌∷◌, length, Ok, Err, Result}
use Rattle.protocol.specs.declared.messages.Message.{Message}
use Rattle.protocol.specs.declared.refusals.Refusal.{Refusal}
use Rattle.protocol.specs.declared.refusals.Refusal.TheVariants.{NothingWaiting, NoRoom}
use Rattle.protocol.specs.Bags.{Same, waiting_for}

-- numbers of messages are answered up to 2^32 - 1
abbrev pub capped : ℕ → ℕ
capped n = min n 4294967295

-- how many more there is room for
abbrev pub free_in : ℕ → List Message → ℕ
free_in capacity ms = capacity - length ms

-- the message waits with the others
pub record Added (m : Message) (capacity : ℕ) (before after : List Message) : Type 0 where
  pub room : length before < capacity
  pub same : Same after (m ∷ before)

-- there was no room, and nothing changed
pub record NoneFree (e : Refusal) (capacity : ℕ) (before after : List Message) : Type 0 where
  pub why : e ≡ NoRoom
  pub full : capacity ≤ length before
  pub same : after ≡ before

-- what posting answers, and what then waits
abbrev pub Posted : Result (Unit {0}) Refusal → Message → ℕ → List Message → List Message → Type 0
Posted (Ok _) m capacity before after = Added m capacity before after
Posted (Err e) m capacity before after = NoneFree e capacity before after

-- the message waited for the process, and the others still wait
pub record Removed (m : Message) (process : ℕ) (before after : List Message) : Type 0 where
  pub addressee : m.addressee ≡ process
  pub same : Same before (m ∷ after)

-- nothing waited for the process, and nothing changed
pub record Missing (e : Refusal) (process : ℕ) (before after : List Message) : Type 0 where
  pub why : e ≡ NothingWaiting
  pub none : waiting_for process before ≡ 0
  pub same : after ≡ before

-- what taking answers, and what then waits
abbrev pub Taken : Result Message Refusal → ℕ → List Message → List Message → Type 0
Taken (Ok m) process before after = Removed m process before after
Taken (Err e) process before after = Missing e process before after
