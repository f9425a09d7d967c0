use Rattle.line.proofs.Rows.{nothing_sent}
use Rattle.line.proofs.advancing.send_next.Goals as goal

pub returns-in-None-clause-sent : goal.returns-in-None-clause-sent
returns-in-None-clause-sent g c = rw c.in-None.is (nothing_sent _ _ _ _)
