-- What the first tests of a call answer.
use Rattle.std.specs.Prelude.{◌≡◌, ℕ, ◌<◌, ◌≤◌, true, false, List, Some, None, Ok, Err, Option, Result}
use Rattle.protocol.specs.declared.messages.Message.{Message}
use Rattle.protocol.specs.declared.messages.Subject.{Subject}
use Rattle.protocol.specs.declared.refusals.Refusal.{Refusal}
use Rattle.protocol.specs.declared.refusals.Refusal.TheVariants.{NoRoom}
use Rattle.plan.specs.Kinds.{Line}
use Rattle.carrier.specs.Waiting.{free_in}
use Rattle.rules.specs.Turns.{room_for_ballot}

-- the answer to a row of tests: all hold, and the rest says whether the call is refused; or the
-- first that does not hold
abbrev pub TestsAnswer : Result (Unit {0}) Refusal → (Option Refusal → Option Refusal) → Type 0
TestsAnswer (Ok _) tests = (rest : Option Refusal) → tests rest ≡ rest
TestsAnswer (Err e) tests = (rest : Option Refusal) → tests rest ≡ Some e

-- there is room for a message to each process, or there is not
abbrev pub RoomForAll : Result (Unit {0}) Refusal → Line → ℕ → List Message → Type 0
RoomForAll (Ok _) line capacity ws = line.plan.n ≤ free_in capacity ws
RoomForAll (Err e) line capacity ws = (e ≡ NoRoom) × (free_in capacity ws < line.plan.n)

-- the answer to the last tests of a call: all hold, or the first that does not
abbrev pub LastTestsAnswer : Result (Unit {0}) Refusal → Option Refusal → Type 0
LastTestsAnswer (Ok _) tests = tests ≡ None
LastTestsAnswer (Err e) tests = tests ≡ Some e

-- there is room for the next ballot, if there is one, or there is not
abbrev pub RoomForBallot : Result (Unit {0}) Refusal → Line → Option Subject → ℕ → List Message → Type 0
RoomForBallot (Ok _) line next capacity ws = room_for_ballot line next capacity ws ≡ true
RoomForBallot (Err e) line next capacity ws = (e ≡ NoRoom) × (room_for_ballot line next capacity ws ≡ false)
