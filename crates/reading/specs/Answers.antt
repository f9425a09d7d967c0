-- What reading answers, and what that has to do with runs.
use Rattle.std.specs.Prelude.{◌≡◌, ℕ, List, Some, None, Ok, Err, Option, Result}
use Rattle.protocol.specs.declared.messages.Message.{Message}
use Rattle.protocol.specs.declared.messages.Subject.{Subject}
use Rattle.protocol.specs.declared.refusals.Refusal.{Refusal}
use Rattle.protocol.specs.declared.refusals.Refusal.TheVariants.{SubjectOutOfPlan}
use Rattle.plan.specs.Kinds.{Line}
use Rattle.memory.specs.Contents.{Held}
use Rattle.memory.specs.Places.{within, record_place, body_at}
use Rattle.rules.specs.Turns.{Coin, unless, correct_tests}
use Rattle.rules.specs.Runs.{Event, Run, Accepted}
use Rattle.rules.specs.Promises.{Correct}
use Rattle.reading.specs.declared.readings.Reading.{Reading}
use Rattle.reading.specs.declared.readings.Reading.TheVariants.{Nothing, Unreadable, Value}

-- why reading is refused, if it is
abbrev pub read_refusal : Line → Held → ℕ → Subject → Option Refusal
read_refusal line h i s = correct_tests line h i (unless (within line.plan s) SubjectOutOfPlan None)

-- a place was found, or reading is refused
abbrev pub Located : Line → Held → ℕ → Subject → Result ℕ Refusal → Type 0
Located line h i s (Ok at) = (read_refusal line h i s ≡ None) × (at ≡ record_place line.plan i s)
Located line h i s (Err e) = read_refusal line h i s ≡ Some e

-- what a body is read as, if it was accepted
abbrev pub value_in : {V : Type 0} → Option V → Reading V
value_in None = Unreadable
value_in (Some v) = Value v

-- what is read of a body that may have been accepted
abbrev pub reading_of : {V : Type 0} → (ℕ → Option V) → Option ℕ → Reading V
reading_of unpacked None = Nothing
reading_of unpacked (Some b) = value_in (unpacked b)

-- the reading, unless it is refused
abbrev pub unless_refused : {X : Type 0} → Option Refusal → X → Result X Refusal
unless_refused None x = Ok x
unless_refused (Some e) x = Err e

-- what reading answers
abbrev pub answer : {V : Type 0} → (ℕ → Option V) → Line → Held → ℕ → Subject → Result (Reading V) Refusal
answer unpacked line h i s = unless_refused (read_refusal line h i s) (reading_of unpacked (body_at line.plan h i s))

-- Where a run leads to this memory, and tells that the correct process i accepted body b for the
-- subject, this body is read.
abbrev pub ReadsAccepted : {V : Type 0} → (ℕ → Option V) → Line → Held → ℕ → Subject → Result (Reading V) Refusal → Type 0
ReadsAccepted unpacked line h i s r =
    (capacity : ℕ) (coin : Coin) (es : List Event) (ws : List Message) (b : ℕ) → Run line capacity coin es h ws → Correct line i → Accepted es i s b → r ≡ Ok (reading_of unpacked (Some b))
