use Rattle.std.proofs.Common.{Ok, Err}
use Rattle.std.proofs.lemmas.Result.{err_from_is_err_and}
use Rattle.desk.specs.Desk.{state, places}
use Rattle.rehearse.proofs.Answered.{unread, acted_on}
use Rattle.rehearse.proofs.rehearser.RehearserResponder.respond.Goals as goal

pub returns-in_err-form : goal.returns-in_err-form
returns-in_err-form c =
    let d = c.args.self.now.desk in
    let p = err_from_is_err_and c.from_residual.result c.from_residual.ensures.1 in
    rw (p.1, p.2) (unread (places d) c.args.line.number (state d) c.args.line.text.now _ c.in_err-form.ensures)

pub returns-in_err-act_on : goal.returns-in_err-act_on
returns-in_err-act_on c =
    let d = c.args.self.now.desk in
    let after = c.act_on.new.self in
    let p = err_from_is_err_and c.from_residual-in_err-act_on.result c.from_residual-in_err-act_on.ensures.1 in
    rw (p.1, p.2) (acted_on (places d) c.args.line.number (state d) c.args.line.text.now (state after) (places after) c.in_ok-form.form (Err _) c.in_ok-form.ensures c.in_err-act_on.ensures.step c.in_err-act_on.ensures.kept)

pub returns : goal.returns
returns c =
    let d = c.args.self.now.desk in
    let after = c.act_on.new.self in
    acted_on (places d) c.args.line.number (state d) c.args.line.text.now (state after) (places after) c.in_ok-form.form (Ok c.in_ok-act_on.field-0) c.in_ok-form.ensures c.in_ok-act_on.ensures.step c.in_ok-act_on.ensures.kept
