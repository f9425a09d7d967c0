use Rattle.std.proofs.Common.{◌≡◌, count_by, take}
use Rattle.broadcast.specs.Hearing.{says}
use Rattle.broadcast.proofs.receiving.count_saying.Given as goal

abbrev pub invariant-loop-heard : goal.invariant-loop-heard
invariant-loop-heard l = l.count ≡ count_by (says l.body) (take l.heard-index l.row)
