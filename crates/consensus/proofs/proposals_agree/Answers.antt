use Rattle.consensus.proofs.proposals_agree.Goals as goal
use Rattle.consensus.proofs.Steps.{one_side}

pub returns : goal.returns
returns c = one_side
