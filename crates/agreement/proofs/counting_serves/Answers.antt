use Rattle.agreement.proofs.counting_serves.Goals as goal
use Rattle.agreement.proofs.Counts.{counted_lawful}

pub returns : goal.returns
returns c = counted_lawful
