use Rattle.std.proofs.Common.{rules, ◌≡◌, length, ap, arith}
use Rattle.std.specs.List.{count_by}
use Rattle.std.proofs.iter.runs.Made.{chains}
use Rattle.tray.specs.Tables.{is_free}
use Rattle.tray.proofs.Kept.{kept_all, count_free}
use Rattle.tray.proofs.tables.Table.free.Goals as goal

pub returns : goal.returns
returns c =
    let ps = c.args.self.now.places in
    let h : c.count.result ≡ count_by is_free ps = search (rules, chains) in
    omega (arith, h, count_free ps, ap length (kept_all ps (omega arith)))
