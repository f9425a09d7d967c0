-- What a message does to a stage, and what the process does then.
use Rattle.std.specs.Prelude.{ℕ, Bool, true, false, cond, List, Some, None, Option, ◌==◌, nat_le, slice_set}
use Rattle.protocol.specs.Messages.{originator_of}
use Rattle.protocol.specs.declared.messages.Message.{Message}
use Rattle.protocol.specs.declared.messages.Step.{Step}
use Rattle.protocol.specs.declared.messages.Step.TheVariants.{Initial, Echo, Ready}
use Rattle.plan.specs.declared.plans.Thresholds.{Thresholds}
use Rattle.memory.specs.declared.records.BroadcastRecord.{BroadcastRecord}
use Rattle.memory.specs.declared.records.Stage.{Stage}
use Rattle.memory.specs.declared.records.Stage.TheVariants.{Silent, Echoed, Readied, Accepted}
use Rattle.broadcast.specs.declared.reactions.Reaction.{Reaction}

-- the stage that a process goes on to, if it does not stay, and what it does
pub record Turned : Type 0 where
  pub next : Option Stage
  pub reaction : Reaction

-- no message is sent and nothing accepted
abbrev pub nothing : Reaction
nothing = record { echo = false; ready = false; accepted = false }

abbrev pub stay : Turned
stay = record { next = None; reaction = nothing }

-- the originator's initial is echoed, unless an echo was sent
abbrev pub on_initial : Bool → Stage → Turned
on_initial own Silent = cond own (record { next = Some Echoed; reaction = record { echo = true; ready = false; accepted = false } }) stay
on_initial own Echoed = stay
on_initial own Readied = stay
on_initial own (Accepted b) = stay

-- what a process sends to be ready: an echo and a ready, each only once
abbrev pub ready_sends : Stage → Reaction
ready_sends Silent = record { echo = true; ready = true; accepted = false }
ready_sends Echoed = record { echo = false; ready = true; accepted = false }
ready_sends Readied = nothing
ready_sends (Accepted b) = nothing

-- enough echoes, or enough readies, make a process ready
abbrev pub made_ready : Bool → Stage → Turned
made_ready enough s = cond enough (record { next = Some Readied; reaction = ready_sends s }) stay

-- the process accepts body b as well
abbrev pub accept : ℕ → Turned → Turned
accept b t = record { next = Some (Accepted b); reaction = record { echo = t.reaction.echo; ready = t.reaction.ready; accepted = true } }

-- and a full number of readies makes it accept
abbrev pub on_ready : Bool → Bool → ℕ → Stage → Turned
on_ready enough full b s = let t = made_ready enough s in cond full (accept b t) t

-- a message by its step, at a stage that has accepted nothing
abbrev pub by_step : Thresholds → Message → ℕ → Stage → Step → Turned
by_step limits m count s Initial = on_initial (m.sender == originator_of m.subject) s
by_step limits m count s Echo = made_ready (nat_le limits.echo count) s
by_step limits m count s Ready = on_ready (nat_le limits.ready count) (nat_le limits.accept count) m.body s

-- message m at a stage, where `count` echoes or readies of its body were heard; a process that has
-- accepted does no more
abbrev pub turn : Thresholds → Message → ℕ → Stage → Turned
turn limits m count Silent = by_step limits m count Silent m.step
turn limits m count Echoed = by_step limits m count Echoed m.step
turn limits m count Readied = by_step limits m count Readied m.step
turn limits m count (Accepted b) = stay

-- the stage after this one: the next, if there is one
abbrev pub onward : Option Stage → Stage → Stage
onward None s = s
onward (Some s) old = s

-- record `at` with another stage, if there is one
abbrev pub put : ℕ → Option Stage → List BroadcastRecord → List BroadcastRecord
put at None rs = rs
put at (Some s) rs = slice_set rs at (record { stage = s })
