use Rattle.std.proofs.Common.{rules, ◌≡◌, None, Some, Err, sym, ap, ◌∙◌, refl, arith}
use Rattle.std.specs.List.{position}
use Rattle.std.proofs.lemmas.List.Quantifiers.{position-Some}
use Rattle.protocol.specs.declared.refusals.Refusal.TheVariants.{NothingWaiting}
use Rattle.protocol.specs.Bags.{waiting_for}
use Rattle.tray.specs.Tables.{is_for}
use Rattle.tray.proofs.Kept.{kept_all, count_for, none_counted, held, taken}
use Rattle.tray.proofs.tables.Table.take.Goals as goal

pub returns-in_err-at-clause-taken : goal.returns-in_err-at-clause-taken
returns-in_err-at-clause-taken c =
    let ps = c.args.self.now.places in
    let process = c.args.process in
    let none : position (is_for process) ps ≡ None = search rules in
    let err : c.from_residual.result ≡ Err NothingWaiting = search rules in
    let kept_none = ap (waiting_for process) (kept_all ps (omega arith)) ∙ sym (count_for process ps) ∙ none_counted (is_for process) ps none in
    rw err (record { why = refl; none = kept_none; same = refl })

pub unwrap-requires : goal.unwrap-requires
unwrap-requires c =
    let ps = c.args.self.now.places in
    let some : position (is_for c.args.process) ps ≡ Some c.in_ok-at.at = search rules in
    let found = position-Some (is_for c.args.process) ps c.in_ok-at.at c.index-self-at.result some in
    rw c.take.ensures.value (held ps (omega arith) c.in_ok-at.at c.index-self-at.result found.0 c.args.process found.1)

pub returns-clause-taken : goal.returns-clause-taken
returns-clause-taken c =
    let ps = c.args.self.now.places in
    let at = c.in_ok-at.at in
    let some : position (is_for c.args.process) ps ≡ Some at = search rules in
    let found = position-Some (is_for c.args.process) ps at c.index-self-at.result some in
    taken ps (omega arith) at c.index-self-at.result found.0 c.args.process _ _ found.1 (sym c.take.ensures.value ∙ c.unwrap.ensures) c.take.ensures.after
