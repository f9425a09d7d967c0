-- A run that withstands a faulty process.
use Rattle.std.specs.Prelude.{◌≡◌, ℕ, ◌<◌, true, List}
use Rattle.protocol.specs.Messages.{message}
use Rattle.protocol.specs.declared.messages.Message.{Message}
use Rattle.protocol.specs.declared.messages.Step.TheVariants.{Echo}
use Rattle.protocol.specs.declared.messages.Subject.TheVariants.{Item}
use Rattle.plan.specs.Kinds.{Line}
use Rattle.memory.specs.Contents.{Held}
use Rattle.rules.specs.Turns.{faulty, Coin}
use Rattle.rules.specs.Runs.{Event, forged, delivered, Told, Accepted}
use Rattle.rules.specs.Promises.{Correct, Happening}

-- message m was forged
abbrev pub Forging : Message → Event → Type 0
Forging m (forged k posted) = k ≡ m
Forging m _ = ⊥

-- message m arrived
abbrev pub Arriving : Message → Event → Type 0
Arriving m (delivered i pick k posted accepted) = k ≡ m
Arriving m _ = ⊥

-- process 3 says to process 1 that it echoes another body than process 0 announces
abbrev pub false_echo : Message
false_echo = message 3 1 Echo (Item 0 0) 7

-- What can come about among n processes of which t may be faulty. Process 3 is faulty, and those
-- before it are correct. It lied to process 1 about the item that process 0 announced, and all
-- correct ones have accepted what was announced. Beside that, all came about as without a lie.
pub record Withstood (n t : ℕ) (line : Line) (capacity : ℕ) (coin : Coin) (es : List Event) (h : Held) : Type 0 where
  pub processes : line.plan.n ≡ n
  pub tolerated : line.plan.t ≡ t
  pub liar : faulty line 3 ≡ true
  pub correct : (i : ℕ) → i < 3 → Correct line i
  pub lied : Told (Forging false_echo) es
  pub arrived : Told (Arriving false_echo) es
  pub accepted : (i : ℕ) → Correct line i → Accepted es i (Item 0 0) 5
  pub happening : Happening line capacity coin es h
