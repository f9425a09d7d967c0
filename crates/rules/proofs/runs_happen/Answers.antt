use Rattle.rules.proofs.Example.{happens}
use Rattle.rules.proofs.runs_happen.Goals as goal

pub returns : goal.returns
returns c = happens
