use Rattle.rules.proofs.Theorem.{kept}
use Rattle.rules.proofs.runs_keep_promises.Goals as goal

pub returns : goal.returns
returns c = kept
