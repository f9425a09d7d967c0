use Rattle.consensus.proofs.decision_happens.Goals as goal
use Rattle.consensus.proofs.Example.{ballots, three, happens}

pub returns : goal.returns
returns c = λ v. (ballots v, three, happens v)
