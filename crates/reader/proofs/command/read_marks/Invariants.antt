use Rattle.reader.proofs.MarksLoop.{Sofar}
use Rattle.reader.proofs.command.read_marks.Given as goal

abbrev pub invariant-loop : goal.invariant-loop
invariant-loop l = Sofar l.initial.cursor l.cursor l.counter l.marks
