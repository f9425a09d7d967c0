use Rattle.std.proofs.Common.{◌≡◌, ◌++◌, drop}
use Rattle.form.specs.Format.{marks_written}
use Rattle.text.specs.Shown.{shown}
use Rattle.form.proofs.forms.put_marks.Given as goal

-- what is still to be written behind the text makes the whole
abbrev pub invariant-loop-mark : goal.invariant-loop-mark
invariant-loop-mark l = shown l.text ++ marks_written (drop l.mark-index l.mark-items) ≡ shown l.initial.text ++ marks_written l.marks
