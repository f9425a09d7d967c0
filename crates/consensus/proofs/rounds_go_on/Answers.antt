use Rattle.consensus.proofs.rounds_go_on.Goals as goal
use Rattle.consensus.proofs.Advancing.{advances, enough}
use Rattle.consensus.proofs.Joins.{going}

pub returns : goal.returns
returns c = record { lowest = advances; enough = enough; going = going }
