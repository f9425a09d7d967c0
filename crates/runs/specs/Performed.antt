-- What making one turn does: an event of the rules happens.
use Rattle.std.specs.Prelude.{◌≡◌, ℕ, List, Some, Ok, Err, Result, OnOk}
use Rattle.protocol.specs.declared.messages.Message.{Message}
use Rattle.protocol.specs.declared.refusals.Refusal.{Refusal}
use Rattle.plan.specs.Kinds.{Line}
use Rattle.carrier.specs.Posting.{Posts, Exchanges}
use Rattle.memory.specs.Contents.{Held}
use Rattle.cases.specs.Steps.{step_at}
use Rattle.cases.specs.declared.steps.Progress.{Progress}
use Rattle.rules.specs.Turns as rules
use Rattle.rules.specs.Turns.{Coin, announcing, opening, forging, delivering, advancing}
use Rattle.rules.specs.Runs.{Event, refused, announced, opened, forged, delivered, advanced, turn_of, Happens}
use Rattle.runs.specs.declared.turns.Turn.{Turn}
use Rattle.runs.specs.declared.turns.Turn.TheVariants.{Announce, Open, Forge, Deliver, Advance}
use Rattle.runs.specs.declared.turns.Answer.{Answer}
use Rattle.runs.specs.declared.turns.Answer.TheVariants.{Announced, Posted, Delivered, Advanced}

-- a turn by the rules: a value is told by its body
abbrev pub asked : {I : Type 0} → (I → ℕ) → Turn I → rules.Turn
asked packed (Announce i value) = rules.Announce i (packed value)
asked packed (Open i c v) = rules.Open i c v
asked packed (Forge m) = rules.Forge m
asked packed (Deliver i pick) = rules.Deliver i pick
asked packed (Advance i c) = rules.Advance i c

-- a value that was announced is one that packs
abbrev pub Fits : {I : Type 0} → (I → Type 0) → Turn I → Result Answer Refusal → Type 0
Fits ok (Announce i value) r = OnOk r (ok value)
Fits ok (Open i c v) r = Unit {0}
Fits ok (Forge m) r = Unit {0}
Fits ok (Deliver i pick) r = Unit {0}
Fits ok (Advance i c) r = Unit {0}

-- what an event answers
abbrev pub answer_of : Event → Result Answer Refusal
answer_of (refused turn e) = Err e
answer_of (announced i b k posted) = Ok (Announced (record { serial = k; posted = posted }))
answer_of (opened i c v posted) = Ok (Posted posted)
answer_of (forged m posted) = Ok (Posted posted)
answer_of (delivered i pick m posted accepted) = Ok (Delivered (record { posted = posted; accepted = accepted }))
answer_of (advanced i c r forced decides reached posted) = Ok (Advanced (record { round = reached; posted = posted }))

module _ {C : Type 0} (waiting : C → List Message) (posting : C → Message → C → Type 0) (taking : C → ℕ → ℕ → Message → C → Type 0) (line : Line) (coin : Coin) (h : Held) where
  -- what the carrier says of the messages that an event posts, and of the one that it takes; a
  -- refused turn left it the same
  abbrev pub Carried : Event → C → C → Type 0
  Carried (refused turn e) before after = after ≡ before
  Carried (announced i b k posted) before after = Posts posting before (announcing line h i k b).sent after
  Carried (opened i c v posted) before after = Posts posting before (opening line h i c v).sent after
  Carried (forged m posted) before after = Posts posting before (forging line h m).sent after
  Carried (delivered i pick m posted accepted) before after = Exchanges posting taking before i pick m (delivering line h m).sent after
  Carried (advanced i c r forced decides reached posted) before after = (s : Progress) × (step_at line.plan h i c ≡ Some s) × Posts posting before (advancing line h coin i c r s).sent after

  -- the event happens, to memory and to the carrier
  pub record Occurs (capacity : ℕ) (e : Event) (before : C) (next : Held) (after : C) : Type 0 where
    pub happens : Happens line capacity h (waiting before) coin e next (waiting after)
    pub carried : Carried e before after

  -- The turn answers what an event of it answers that occurs.
  pub record Performed {I : Type 0} (ok : I → Type 0) (packed : I → ℕ) (capacity : ℕ) (turn : Turn I) (r : Result Answer Refusal) (before : C) (next : Held) (after : C) : Type 0 where
    pub event : Event
    pub told : turn_of event ≡ asked packed turn
    pub answer : r ≡ answer_of event
    pub occurs : Occurs capacity event before next after
    pub fits : Fits ok turn r
