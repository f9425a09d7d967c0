use Rattle.std.proofs.Common.{◌+◌, ◌-◌, arith}
use Rattle.std.proofs.lemmas.Grind.{common_steps}
use Rattle.broadcast.proofs.Rows.{heard_row, counted_row}
use Rattle.broadcast.proofs.receiving.listen.Goals as goal
use Rattle.broadcast.proofs.receiving.listen.Goals.{in-Echo, in-Ready}

pub returns-clause-held : goal.returns-clause-held
returns-clause-held c =
    let m = c.args.message.now in
    let heard = heard_row c.match-step.first _ c.args.memory.now.bodies.now c.hear.new.row in
    elim c.match-step.branch [
      | in-Echo w ↦ let e = heard (omega arith) m.sender m.body (omega arith) c.hear.ensures.heard in grind arith
      | in-Ready w ↦ let e = heard (omega arith) m.sender m.body (omega arith) c.hear.ensures.heard in grind arith
    ]

pub returns-clause-count : goal.returns-clause-count
returns-clause-count c =
    let n = c.args.plan.now.n in
    let counted = counted_row c.match-step.first (c.match-step.first + c.n.result - c.match-step.first) c.args.memory.now.bodies.now c.hear.new.row in
    elim c.match-step.branch [
      | in-Echo w ↦ let e = counted (omega arith) n c.args.message.now.body (grind (arith, common_steps)) in grind arith
      | in-Ready w ↦ let e = counted (omega arith) n c.args.message.now.body (grind (arith, common_steps)) in grind arith
    ]
