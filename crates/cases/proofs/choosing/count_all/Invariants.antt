use Rattle.std.proofs.Common.{◌≡◌, ◌≤◌, is_some, count_by, take}
use Rattle.cases.proofs.choosing.count_all.Given as goal

abbrev pub invariant-loop-cast : goal.invariant-loop-cast
invariant-loop-cast l = (l.count ≡ count_by is_some (take l.cast-index l.row)) × (l.count ≤ l.cast-index)
