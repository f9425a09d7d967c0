use Rattle.std.proofs.Common.{sym, ◌∙◌}
use Rattle.std.proofs.lemmas.Result.{err_from_is_err_and}
use Rattle.token.proofs.Scans.{scanned_fault}
use Rattle.token.proofs.cursor.Cursor.next_token.Goals as goal

pub returns-in_err-token-clause-value : goal.returns-in_err-token-clause-value
returns-in_err-token-clause-value c =
    let p = err_from_is_err_and c.from_residual.result c.from_residual.ensures.1 in
    rw (p.1, p.2) (sym (scanned_fault _ _ _ _ (sym c.if-is_empty.ensures) c.first_token.ensures (sym c.ok_or.ensures.value ∙ c.in_err-token.was)))
