use Rattle.std.proofs.Common.{rules, ◌≡◌, None, sym}
use Rattle.row.specs.Order.{listed, standing}
use Rattle.row.proofs.Order.{standing_some, standing_none}
use Rattle.row.proofs.Places.{removed_past}
use Rattle.row.proofs.rows.Row.take.Goals as goal

pub remove-requires : goal.remove-requires
remove-requires c = let h = standing_some c.args.process c.args.number (listed c.args.self.now) in search (rules, h)

pub returns-in_err-at-clause-left : goal.returns-in_err-at-clause-left
returns-in_err-at-clause-left c =
    let h : standing c.args.process c.args.number (listed c.args.self.now) ≡ None = search rules in
    sym (removed_past _ _ (standing_none c.args.process c.args.number (listed c.args.self.now) h))
