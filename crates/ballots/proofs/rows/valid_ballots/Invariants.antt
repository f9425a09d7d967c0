use Rattle.std.proofs.Common.{◌-◌}
use Rattle.memory.specs.Contents.{held}
use Rattle.ballots.specs.Places.{ballots_at}
use Rattle.ballots.specs.Tallies.{Holds}
use Rattle.ballots.specs.Votes.{valid_by_counting}
use Rattle.ballots.proofs.rows.valid_ballots.Given as goal

abbrev pub invariant-loop-before : goal.invariant-loop-before
invariant-loop-before l = Holds (valid_by_counting l.plan.n l.plan.t (ballots_at l.plan (held l.memory) l.process l.case) (l.before - 1)) l.row
