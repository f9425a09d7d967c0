use Rattle.std.proofs.Common.{◌≡◌, ◌++◌}
use Rattle.text.specs.Shown.{shown}
use Rattle.script.specs.Lint.{lines}
use Rattle.script.specs.Split.{lines_left, next_number}
use Rattle.script.proofs.responder.answer_lines.Given as goal

-- what is still to be answered behind the text makes the whole
abbrev pub invariant-loop-line : goal.invariant-loop-line
invariant-loop-line g l =
    (goal.iterator-loop-line g).can_next l.line-iterator
    × (goal.iterator-loop-line g).is_finite l.line-iterator
    × (shown l.text ++ g.R.Responder.answers l.responder (next_number l.line-iterator) (lines_left l.line-iterator) ≡ shown l.initial.text ++ g.R.Responder.answers l.initial.responder 1 (lines l.input))
