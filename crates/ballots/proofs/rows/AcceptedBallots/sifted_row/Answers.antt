use Rattle.std.proofs.Common.{ℕ, ◌-◌, ap, ◌∙◌, arith}
use Rattle.memory.specs.Contents.{held}
use Rattle.ballots.specs.Places.{ballots_at}
use Rattle.ballots.specs.Votes.{sifted}
use Rattle.ballots.proofs.Filling.{filled_none, filled_more, filled_all}
use Rattle.ballots.proofs.Reading.{accepted_within_lem, none_behind}
use Rattle.ballots.proofs.rows.AcceptedBallots.sifted_row.Goals as goal

pub loop-originator-init : goal.loop-originator-init
loop-originator-init c =
    let v = c.args.self.now in
    filled_none (λ (k : ℕ). sifted c.args.allowed (ballots_at v.plan.now (held v.memory.now) v.process v.case k (c.args.round - 1)))

pub loop-originator-preserved : goal.loop-originator-preserved
loop-originator-preserved c =
    let v = c.args.self.now in
    let k = c.loop-originator.originator in
    filled_more k _ c.loop-originator.row c.sift.result (omega (arith, v.plan.now.few)) c.loop-originator.invariant
    (c.sift.ensures ∙ ap (sifted c.args.allowed) (c.body.ensures ∙ accepted_within_lem v.plan.now (held v.memory.now) v.process v.case k c.args.round c.requires))

pub returns : goal.returns
returns c =
    let v = c.args.self.now in
    filled_all c.loop-originator.originator _ c.loop-originator.row c.loop-originator.invariant
    (λ k l. ap (sifted c.args.allowed) (none_behind v.plan.now (held v.memory.now) v.process v.case k (c.args.round - 1) (omega arith)))
