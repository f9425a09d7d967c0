use Rattle.std.proofs.Common.{ℕ, ◌-◌}
use Rattle.memory.specs.Contents.{held}
use Rattle.ballots.specs.Places.{ballots_at}
use Rattle.ballots.specs.Votes.{sifted}
use Rattle.ballots.proofs.Filling.{Filled}
use Rattle.ballots.proofs.rows.AcceptedBallots.sifted_row.Given as goal

abbrev pub invariant-loop-originator : goal.invariant-loop-originator
invariant-loop-originator l =
    Filled l.originator (λ (k : ℕ). sifted l.allowed (ballots_at l.self.plan.now (held l.self.memory.now) l.self.process l.self.case k (l.round - 1))) l.row
