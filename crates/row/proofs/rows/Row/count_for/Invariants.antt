use Rattle.std.proofs.Common.{◌≡◌, ◌≤◌, count_by, take}
use Rattle.protocol.specs.Bags.{addressed}
use Rattle.row.proofs.rows.Row.count_for.Given as goal

abbrev pub invariant-loop-message : goal.invariant-loop-message
invariant-loop-message l = (l.count ≡ count_by (addressed l.process) (take l.message-index l.waiting)) × (l.count ≤ l.message-index)
