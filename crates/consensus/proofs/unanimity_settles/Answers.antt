use Rattle.consensus.proofs.unanimity_settles.Goals as goal
use Rattle.consensus.proofs.Theorem.{settled, valid_decision}

pub returns : goal.returns
returns c = record { settling = λ n t faulty law G. settled n t G faulty law; validity = λ n t faulty law G. valid_decision n t G faulty law }
