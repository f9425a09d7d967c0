use Rattle.consensus.proofs.decision_locks.Goals as goal
use Rattle.consensus.proofs.Theorem.{locked}

pub returns : goal.returns
returns c = locked
