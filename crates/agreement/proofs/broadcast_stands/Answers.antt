use Rattle.agreement.proofs.broadcast_stands.Goals as goal
use Rattle.agreement.proofs.Counts.{counted_lawful}
use Rattle.agreement.proofs.Theorem.{broadcasts}

pub returns : goal.returns
returns c = record {
  weighed = broadcasts;
  counted = λ n t echo ready accept faulty named few sound. broadcasts _ (counted_lawful n t echo ready accept faulty named few sound);
}
