use Rattle.consensus.proofs.validity_grows.Goals as goal
use Rattle.consensus.proofs.Steps.{all_kept}

pub returns : goal.returns
returns c = all_kept
