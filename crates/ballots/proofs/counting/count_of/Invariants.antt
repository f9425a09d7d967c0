use Rattle.std.proofs.Common.{◌≡◌, ◌≤◌, count_by, take}
use Rattle.ballots.specs.Tallies.{is_ballot}
use Rattle.ballots.proofs.counting.count_of.Given as goal

abbrev pub invariant-loop-cast : goal.invariant-loop-cast
invariant-loop-cast l = (l.count ≡ count_by (is_ballot l.ballot) (take l.cast-index l.row)) × (l.count ≤ l.cast-index)
