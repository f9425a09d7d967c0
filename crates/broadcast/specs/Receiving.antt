-- What a message does at a process, for the subject of the message.
use Rattle.std.specs.Prelude.{ℕ, Bool, cond, ◌&&◌, List, Option, nat_lt}
use Rattle.protocol.specs.declared.messages.Message.{Message}
use Rattle.plan.specs.Sheet.{thresholds_of}
use Rattle.plan.specs.declared.plans.Plan.{Plan}
use Rattle.plan.specs.declared.plans.Thresholds.{Thresholds}
use Rattle.memory.specs.Contents.{Held, stage_at}
use Rattle.memory.specs.Places.{enough, within, record_place, record_places}
use Rattle.memory.specs.declared.places.Place.{Place}
use Rattle.memory.specs.declared.records.Stage.{Stage}
use Rattle.memory.specs.declared.records.Stage.TheVariants.{Silent, Echoed, Readied, Accepted}
use Rattle.broadcast.specs.Hearing.{listened, agreeing, with_bodies}
use Rattle.broadcast.specs.Stages.{nothing, turn, put}
use Rattle.broadcast.specs.declared.reactions.Reaction.{Reaction}

-- memory after a message, and what the process does
pub record Outcome : Type 0 where
  pub held : Held
  pub reaction : Reaction

abbrev pub outcome : Held → Reaction → Outcome
outcome h r = record { held = h; reaction = r }

-- a process that has accepted hears no more
abbrev pub heard : Place → Message → Stage → List (Option ℕ) → List (Option ℕ)
heard p m Silent xs = listened p m m.step xs
heard p m Echoed xs = listened p m m.step xs
heard p m Readied xs = listened p m m.step xs
heard p m (Accepted b) xs = xs

-- the process goes on from its stage
abbrev pub moved_on : Thresholds → Place → Message → ℕ → Held → Outcome
moved_on limits p m count h =
    let t = turn limits m count (stage_at h p.«record») in
    outcome (record { broadcasts = put p.«record» t.next h.broadcasts; bodies = h.bodies; cases = h.cases; serials = h.serials }) t.reaction

-- the message is heard, then those that agree with it are counted, and then the process goes on
unfoldable pub handled : Plan → Place → Message → Held → Outcome
handled plan p m h =
    let after = with_bodies (heard p m (stage_at h p.«record») h.bodies) h in
    moved_on (thresholds_of plan.n plan.t) p m (agreeing plan.n p m m.step after.bodies) after

-- whether the plan has process, sender and subject, and the memory is large enough
abbrev pub admits : Plan → ℕ → Message → Held → Bool
admits plan process m h = nat_lt m.sender plan.n && (enough plan h && (nat_lt process plan.n && within plan m.subject))

-- what a message does at a process; nothing where it is not admitted
abbrev pub received : Plan → ℕ → Message → Held → Outcome
received plan process m h = cond (admits plan process m h) (handled plan (record_places plan (record_place plan process m.subject)) m h) (outcome h nothing)
