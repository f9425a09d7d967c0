use Rattle.std.proofs.Common.{rules, ◌≡◌, None, Some, Err, ap, refl, length, arith}
use Rattle.std.specs.List.{position}
use Rattle.std.proofs.lemmas.List.Quantifiers.{position-Some}
use Rattle.protocol.specs.declared.refusals.Refusal.TheVariants.{NoRoom}
use Rattle.tray.specs.Tables.{is_free}
use Rattle.tray.proofs.Kept.{kept_all, count_free, none_counted, added}
use Rattle.tray.proofs.tables.Table.post.Goals as goal

pub returns-in_err-at-clause-posted : goal.returns-in_err-at-clause-posted
returns-in_err-at-clause-posted c =
    let ps = c.args.self.now.places in
    let none : position is_free ps ≡ None = search rules in
    let err : c.from_residual.result ≡ Err NoRoom = search rules in
    rw err (record { why = refl; full = omega (arith, none_counted is_free ps none, count_free ps, ap length (kept_all ps (omega arith))); same = refl })

pub returns-clause-posted : goal.returns-clause-posted
returns-clause-posted c =
    let ps = c.args.self.now.places in
    let at = c.in_ok-at.at in
    let some : position is_free ps ≡ Some at = search rules in
    let found = position-Some is_free ps at c.index-self-at.result some in
    added ps (omega arith) at c.index-self-at.result found.0 c.args.message found.1
