use Rattle.agreement.proofs.broadcast_happens.Goals as goal
use Rattle.agreement.proofs.Example.{last, happens}

pub returns : goal.returns
returns c = (last, happens)
