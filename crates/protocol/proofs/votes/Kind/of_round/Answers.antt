use Rattle.std.proofs.Common.{arith}
use Rattle.protocol.proofs.Phases.{kind_of_rest}
use Rattle.protocol.proofs.votes.Kind.of_round.Goals as goal

pub returns-in-0 : goal.returns-in-0
returns-in-0 c = kind_of_rest c.args.round 0 (omega arith)

pub returns-in-1 : goal.returns-in-1
returns-in-1 c = kind_of_rest c.args.round 1 (omega arith)

pub returns-in_default : goal.returns-in_default
returns-in_default c = kind_of_rest c.args.round 2 (omega arith)
