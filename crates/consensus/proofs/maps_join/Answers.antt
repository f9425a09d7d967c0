use Rattle.consensus.proofs.maps_join.Goals as goal
use Rattle.consensus.proofs.Joins.{join, decisions}

pub returns : goal.returns
returns c = record { joining = join; deciding = decisions }
