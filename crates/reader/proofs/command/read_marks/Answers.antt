use Rattle.std.proofs.Common.{arith}
use Rattle.std.proofs.lemmas.Result.{err_from_is_err_and}
use Rattle.reader.proofs.MarksLoop.{none_yet, one_more, no_more, mark_fault}
use Rattle.reader.proofs.command.read_marks.Goals as goal

pub loop-init : goal.loop-init
loop-init c = rw c.new-marks.ensures (none_yet c.args.cursor.now)

pub loop-preserved : goal.loop-preserved
loop-preserved c =
    one_more c.args.cursor.now c.loop.cursor _ _ c.loop.invariant c.next_mark.new.cursor _ c.in-Some.mark _ (omega arith) c.in-Some.is c.in_ok-mark.ensures
    c.push.ensures.after

pub returns-in_err-mark : goal.returns-in_err-mark
returns-in_err-mark c =
    let p = err_from_is_err_and c.from_residual.result c.from_residual.ensures.1 in
    rw (p.1, p.2) (mark_fault c.args.cursor.now c.loop.cursor _ _ c.loop.invariant c.next_mark.new.cursor _ (omega arith) c.in_err-mark.ensures)

pub returns-in_default : goal.returns-in_default
returns-in_default c =
    no_more c.args.cursor.now c.loop.cursor _ _ c.loop.invariant c.next_mark.new.cursor _ (omega arith) c.in_default.is c.in_ok-mark.ensures
