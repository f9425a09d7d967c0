use Rattle.consensus.proofs.luck_settles.Goals as goal
use Rattle.consensus.proofs.Theorem.{lucky}

pub returns : goal.returns
returns c = λ n t faulty law G. lucky n t G faulty law
