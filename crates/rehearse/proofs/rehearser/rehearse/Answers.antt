use Rattle.std.proofs.Common.{◌∙◌, None}
use Rattle.std.proofs.lemmas.Result.{IfOk-weaker}
use Rattle.script.specs.Lint.{script_answered}
use Rattle.desk.specs.Desk.{desk}
use Rattle.rehearse.specs.Rehearsed.{answers, fresh}
use Rattle.rehearse.proofs.Session.{rehearsal}
use Rattle.rehearse.proofs.rehearser.rehearse.Goals as goal

pub returns-clause-value : goal.returns-clause-value
unfolding fresh
returns-clause-value c =
    let basket = c.new.ensures in
    IfOk-weaker c.answer.result _ _ (λ t e. e ∙ (λ i. script_answered (answers (basket.room i) (desk None fresh (basket.none i))) c.args.input.now)) c.answer.ensures

pub returns-clause-law : goal.returns-clause-law
returns-clause-law c = IfOk-weaker c.answer.result _ _ (λ t is. rehearsal c.args.input.now _ is) (returns-clause-value c)
