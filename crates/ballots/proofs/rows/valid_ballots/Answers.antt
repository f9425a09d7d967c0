use Rattle.std.proofs.Common.{◌≡◌, ◌-◌, true, ap, ◌∙◌, arith}
use Rattle.memory.specs.Contents.{held}
use Rattle.protocol.specs.Phases.{kind}
use Rattle.ballots.specs.Places.{covers}
use Rattle.ballots.specs.Votes.{allowed_after, valid_by_counting}
use Rattle.ballots.proofs.Reading.{next_row, last_row, valid_row, covered}
use Rattle.ballots.proofs.rows.valid_ballots.Goals as goal

pub loop-before-init : goal.loop-before-init
unfolding valid_by_counting
loop-before-init c = c.sifted_row-row.ensures

pub loop-before-preserved : goal.loop-before-preserved
loop-before-preserved c =
    next_row c.args.plan.now (held c.args.memory.now) c.args.process c.args.case c.loop-before.before c.loop-before.row _ c.allowed_after-allowed.result (omega arith) c.loop-before.invariant (c.allowed_after-allowed.ensures ∙ ap (allowed_after c.args.plan.now.n c.args.plan.now.t (kind (c.loop-before.before - 1))) c.count.ensures) c.sifted_row-row-in-loop-before.ensures

pub returns : goal.returns
returns c =
    let plan = c.args.plan.now in
    let h = held c.args.memory.now in
    let is : covers plan h c.args.process c.args.case c.args.round ≡ true = cc (c.is_covered.ensures, c.if-not-is_covered.false) in
    let found = covered plan h c.args.process c.args.case c.args.round is in
    let value = last_row plan h c.args.process c.args.case c.args.round c.loop-before.row c.loop-before.before is (omega (arith, found.first)) c.loop-before.invariant in
    record { value = value; valid = valid_row plan h c.args.process c.args.case c.args.round _ value }
