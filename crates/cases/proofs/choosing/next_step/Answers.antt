use Rattle.std.proofs.Common.{◌≡◌, arith}
use Rattle.memory.specs.Contents.{held}
use Rattle.cases.specs.Steps.{round_at}
use Rattle.cases.proofs.Going.{at_round, stays, opened, goes, law}
use Rattle.cases.proofs.choosing.next_step.Goals as goal
use Rattle.cases.proofs.choosing.next_step.Goals.{After-count_all}

round : (c : After-count_all) → c.from-round.result ≡ round_at c.args.plan.now (held c.args.memory.now) c.args.process c.args.case
round c = at_round c.args.plan.now (held c.args.memory.now) c.args.process c.args.case c.in_ok-place.place _ c.case_record.result c.in_ok-place.ensures.value c.case_record.ensures c.from-round.ensures

pub returns-then-count_all-m-clause-value : goal.returns-then-count_all-m-clause-value
returns-then-count_all-m-clause-value c =
    stays c.args.plan.now (held c.args.memory.now) c.args.process c.args.case _ c.quorum-m.result c.valid_ballots-row.result (round (goal.at.returns-then-count_all-m-clause-value c).After-count_all) c.quorum-m.ensures c.valid_ballots-row.ensures.value (omega arith)

pub returns-then-count_all-m-clause-law : goal.returns-then-count_all-m-clause-law
returns-then-count_all-m-clause-law c = law _ _ _ _ _ (returns-then-count_all-m-clause-value c)

pub overflow_sub-round : goal.overflow_sub-round
overflow_sub-round c =
    opened c.args.plan.now (held c.args.memory.now) c.args.process c.args.case _ c.quorum-m.result c.valid_ballots-row.result (round (goal.at.overflow_sub-round c).After-count_all) c.quorum-m.ensures c.valid_ballots-row.ensures.value (omega arith)

pub returns-clause-value : goal.returns-clause-value
returns-clause-value c =
    goes c.args.plan.now (held c.args.memory.now) c.args.process c.args.case _ c.quorum-m.result c.valid_ballots-row.result (round (goal.at.returns-clause-value c).After-count_all) c.quorum-m.ensures c.valid_ballots-row.ensures.value
    c.choose_lowest.result c.count.result c.step_by.result (omega arith) c.choose_lowest.ensures c.count.ensures c.step_by.ensures

pub returns-clause-law : goal.returns-clause-law
returns-clause-law c = law _ _ _ _ _ (returns-clause-value c)
