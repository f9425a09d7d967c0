use Rattle.rules.proofs.Withstanding.{withstands}
use Rattle.rules.proofs.runs_with_faults_happen.Goals as goal

pub returns : goal.returns
returns c = withstands
