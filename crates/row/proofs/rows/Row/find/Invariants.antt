use Rattle.std.proofs.Common.{◌≡◌, ◌+◌, drop}
use Rattle.row.specs.Order.{place}
use Rattle.row.proofs.rows.Row.find.Given as goal

abbrev pub invariant-loop-at : goal.invariant-loop-at
invariant-loop-at l = l.at + place l.process l.before (drop l.at l.waiting) ≡ place l.process l.number l.waiting
