use Rattle.consensus.proofs.decisions_agree.Goals as goal
use Rattle.consensus.proofs.Theorem.{agreement}

pub returns : goal.returns
returns c = agreement
