use Rattle.std.proofs.Common.{rules, ◌≡◌, ap, ◌∙◌, sym, arith}
use Rattle.std.specs.List.{count_by}
use Rattle.std.proofs.iter.runs.Made.{chains}
use Rattle.protocol.specs.Bags.{waiting_for}
use Rattle.tray.specs.Tables.{is_for}
use Rattle.tray.proofs.Kept.{kept_all, count_for}
use Rattle.tray.proofs.tables.Table.waiting_for.Goals as goal

pub returns : goal.returns
returns c =
    let ps = c.args.self.now.places in
    let h : c.count.result ≡ count_by (is_for c.args.process) ps = search (rules, chains) in
    h ∙ count_for c.args.process ps ∙ ap (waiting_for c.args.process) (sym (kept_all ps (omega arith)))
