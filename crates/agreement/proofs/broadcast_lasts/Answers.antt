use Rattle.agreement.proofs.broadcast_lasts.Goals as goal
use Rattle.agreement.proofs.Theorem.{lasts}

pub returns : goal.returns
returns c = lasts
