use Rattle.std.proofs.Common.{rules}
use Rattle.std.proofs.lemmas.Result.{err_from_is_err_and}
use Rattle.memory.specs.Contents.{held}
use Rattle.desk.specs.Desk.{waiting_in}
use Rattle.desk.proofs.Lines.{no_plan, no_marks, opened_or_not}
use Rattle.desk.proofs.opening.open.Goals as goal

pub returns-in_err-plan : goal.returns-in_err-plan
returns-in_err-plan c =
    let p = err_from_is_err_and c.from_residual.result c.from_residual.ensures.1 in
    rw (p.1, p.2)
    (no_plan (held c.args.memory.now) (waiting_in c.args.basket.now) c.in-Line.wanted c.args.form (search rules) _ c.in_err-plan.ensures)

pub returns-in_err-draft : goal.returns-in_err-draft
returns-in_err-draft c =
    let p = err_from_is_err_and c.from_residual-in_err-draft.result c.from_residual-in_err-draft.ensures.1 in
    rw (p.1, p.2)
    (no_marks (held c.args.memory.now) (waiting_in c.args.basket.now) c.in-Line.wanted c.args.form (search rules) c.in_ok-plan.plan c.in_ok-plan.ensures _ c.in_err-draft.ensures.marks)

pub returns : goal.returns
returns c =
    let draft = c.in_ok-draft.ensures in
    opened_or_not (held c.args.memory.now) (waiting_in c.args.basket.now) c.in-Line.wanted c.args.form (search rules) c.in_ok-plan.plan c.in_ok-plan.ensures c.in_ok-draft.draft draft.plan draft.marks c.open_line.result c.map_err.result (held c.open_line.new.memory) c.open_line.ensures.answer (search rules)
