use Rattle.std.proofs.Common.{rules, ◌≡◌, Some}
use Rattle.std.proofs.lemmas.Result.{err_from_is_err_and}
use Rattle.memory.specs.Contents.{held}
use Rattle.desk.proofs.Acts.{turn_made}
use Rattle.desk.proofs.Telling.{tells_as}
use Rattle.desk.proofs.acting.act_on.Goals as goal

pub returns-in_err-answer-in-Some-clause-step : goal.returns-in_err-answer-in-Some-clause-step
returns-in_err-answer-in-Some-clause-step c =
    let p = err_from_is_err_and c.from_residual-in_err-answer-in-Some.result c.from_residual-in_err-answer-in-Some.ensures.1 in
    let line = c.in-Some.line in
    let opened : c.args.line.now ≡ Some line = search rules in
    rw (p.1, p.2)
    (turn_made c.args.line.now (held c.args.memory.now) c.args.basket.now line c.args.form _ c.in_ok-turn-in-Some.turn _ _ (held c.perform.new.memory) c.perform.new.carrier opened c.in_ok-turn-in-Some.ensures c.new.ensures c.in_err-answer-in-Some.ensures.event)

pub returns-in_ok-answer-in-Some-clause-step : goal.returns-in_ok-answer-in-Some-clause-step
returns-in_ok-answer-in-Some-clause-step c =
    let line = c.in-Some.line in
    let opened : c.args.line.now ≡ Some line = search rules in
    turn_made c.args.line.now (held c.args.memory.now) c.args.basket.now line c.args.form _ c.in_ok-turn-in-Some.turn _ _ (held c.perform.new.memory) c.perform.new.carrier opened c.in_ok-turn-in-Some.ensures c.new.ensures c.in_ok-answer-in-Some.ensures.event

-- the law follows from the step
pub returns-in_err-opened-in-None-clause-law : goal.returns-in_err-opened-in-None-clause-law
returns-in_err-opened-in-None-clause-law c = tells_as _ _ _ _ _ (search rules)

pub returns-in_ok-opened-in-None-clause-law : goal.returns-in_ok-opened-in-None-clause-law
returns-in_ok-opened-in-None-clause-law c = tells_as _ _ _ _ _ (search rules)

pub returns-in_err-turn-in-Some-clause-law : goal.returns-in_err-turn-in-Some-clause-law
returns-in_err-turn-in-Some-clause-law c = tells_as _ _ _ _ _ (search rules)

pub returns-in_err-answer-in-Some-clause-law : goal.returns-in_err-answer-in-Some-clause-law
returns-in_err-answer-in-Some-clause-law c = tells_as _ _ _ _ _ (returns-in_err-answer-in-Some-clause-step c)

pub returns-in_ok-answer-in-Some-clause-law : goal.returns-in_ok-answer-in-Some-clause-law
returns-in_ok-answer-in-Some-clause-law c = tells_as _ _ _ _ _ (returns-in_ok-answer-in-Some-clause-step c)
