use Rattle.std.proofs.Common.{◌≡◌, ℕ, true, ltb, None, sym, ap, ◌∙◌, subst}
use Rattle.memory.specs.Contents.{held, case_at, with_case}
use Rattle.memory.specs.Places.{case_place}
use Rattle.memory.specs.declared.records.Slip.TheVariants.{Out}
use Rattle.line.proofs.Voting.{some_place}
use Rattle.slips.specs.Slips.{may_issue, back_refusal, record_at}
use Rattle.slips.proofs.Slipping.{truth, out_now}
use Rattle.slips.proofs.issuing.issue.Goals as goal
use Rattle.slips.proofs.issuing.issue.Goals.{After-case_record-record}

place : (c : After-case_record-record) → (c.in_ok-at.at ≡ case_place c.args.line.now.plan c.args.process c.args.case) × (ltb c.args.case c.args.line.now.plan.cases ≡ true)
place c = some_place c.args.line.now.plan c.args.process c.args.case c.in_ok-check_correct.ensures.correct.0 c.in_ok-at.at c.in_ok-at.ensures

old : (c : After-case_record-record) → c.case_record-record.result ≡ record_at c.args.line.now (held c.args.memory.now) c.args.process c.args.case
old c = c.case_record-record.ensures ∙ ap (λ (at : ℕ). case_at (held c.args.memory.now) at) (place c).0

pub returns-clause-returnable : goal.returns-clause-returnable
returns-clause-returnable c =
    let line = c.args.line.now in
    let h = held c.args.memory.now in
    let at = (goal.at.returns-clause-returnable c).After-case_record-record in
    let memory = c.set_case_record.ensures ∙ (λ j. with_case ((place at).0 j) (record { round = (old at j).round; decision = (old at j).decision; slip = Out }) h) in
    subst (λ x. back_refusal line x c.args.process c.args.case ≡ None) (sym memory) (out_now line h c.args.process c.args.case c.in_ok-check_correct.ensures.first c.in_ok-check_correct.ensures.correct (place at).1)

pub returns-clause-truthful : goal.returns-clause-truthful
returns-clause-truthful c =
    let at = (goal.at.returns-clause-truthful c).After-case_record-record in
    truth c.args.line.now (held c.args.memory.now) c.args.process c.args.case (record { process = c.args.process; case = c.args.case }) c.in_ok-check_correct.ensures.correct (place at).1 (ap may_issue (sym (old at)) ∙ sym c.may_issue.ensures ∙ c.if-not-may_issue.false)
