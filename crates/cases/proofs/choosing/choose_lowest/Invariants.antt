use Rattle.std.proofs.Common.{◌≡◌}
use Rattle.protocol.specs.Counting.{below}
use Rattle.consensus.specs.Validity.{lowest}
use Rattle.ballots.specs.Tallies.{ballot_in, among}
use Rattle.ballots.proofs.Filling.{Filled}
use Rattle.cases.specs.Steps.{stands}
use Rattle.cases.proofs.choosing.choose_lowest.Given as goal

abbrev pub invariant-loop-k : goal.invariant-loop-k
invariant-loop-k l =
    (l.seen ≡ below l.k (stands (ballot_in l.row))) × Filled l.k (among (lowest l.m (stands (ballot_in l.row))) (ballot_in l.row)) l.chosen
