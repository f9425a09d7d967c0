use Rattle.std.proofs.Common.{sym, subst}
use Rattle.grammar.specs.Exact.{Exact, Faults}
use Rattle.grammar.proofs.Theorems.{exact, faults}
use Rattle.reader.proofs.command.read.Goals as goal

pub returns : goal.returns
returns c =
    let e = c.read_whole.ensures in
    let s = c.args.line.now in
    record {
      value = e;
      exact = subst (Exact s) (sym e) (exact c.args.number s);
      faults = subst (Faults c.args.number s) (sym e) (faults c.args.number s);
    }
