use Rattle.ballots.proofs.Theorem.{exact}
use Rattle.ballots.proofs.counting.counting_is_exact.Goals as goal

pub returns : goal.returns
returns c = exact
