use Rattle.std.proofs.Common.{◌∙◌, arith}
use Rattle.memory.specs.Contents.{held}
use Rattle.broadcast.proofs.Admitted.{Admitted, admitted}
use Rattle.broadcast.proofs.Settled.{accepted_stays, settles}
use Rattle.broadcast.proofs.receiving.receive.Goals as goal
use Rattle.broadcast.proofs.receiving.receive.Goals.{In-Some}

found : (c : In-Some) → Admitted c.args.plan.now c.args.process c.args.message.now (held c.args.memory.now) c.in-Some.place
found c =
    let known = c.in-Some.ensures in
    admitted _ c.args.process _ (held c.args.memory.now) c.in-Some.place _ _ (omega arith) c.is_enough.ensures c.if-not-is_enough.false c.subject.ensures known.value known.laid

pub returns-in-Accepted : goal.returns-in-Accepted
returns-in-Accepted c =
    accepted_stays c.args.plan.now c.in-Some.place c.args.message.now (held c.args.memory.now) c.in-Accepted.field-0 c.in-Accepted.ensures
    ∙ (found (goal.at.returns-in-Accepted c).In-Some).handles

pub listen-count-requires : goal.listen-count-requires
listen-count-requires c = let a = found (goal.at.listen-count-requires c).In-Some in record { known = omega arith; echoes = a.echoes; readies = a.readies }

pub returns : goal.returns
returns c =
    settles c.args.plan.now c.in-Some.place c.args.message.now (held c.args.memory.now) c.thresholds.result c.listen-count.result (held c.listen-count.new.memory)
    (λ b e. c.in_default-stage.not-Accepted b (c.stage.ensures ∙ e))
    c.thresholds.ensures.value
    c.listen-count.ensures.held
    c.listen-count.ensures.count
    c.turn_stage.new.«record»
    c.turn_stage.result
    c.turn_stage.ensures.stage
    c.turn_stage.ensures.reaction
    ∙ (found (goal.at.returns c).In-Some).handles
