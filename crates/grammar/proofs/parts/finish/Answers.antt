use Rattle.std.proofs.Common.{sym, ◌∙◌}
use Rattle.std.proofs.lemmas.Result.{err_from_is_err_and}
use Rattle.grammar.proofs.Walk.{ends_fault, ends_none, ends_some}
use Rattle.grammar.proofs.parts.finish.Goals as goal

pub returns-in_err-next_token : goal.returns-in_err-next_token
returns-in_err-next_token c =
    let p = err_from_is_err_and c.from_residual.result c.from_residual.ensures.1 in
    rw (p.1, p.2) (ends_fault c.args.cursor _ _ c.in_err-next_token.ensures.value)

pub returns-then-is_some : goal.returns-then-is_some
returns-then-is_some c = ends_some c.args.cursor _ _ _ (sym c.is_some.ensures ∙ c.if-is_some.true) c.in_ok-next_token.ensures.value c.place-place.ensures

pub returns : goal.returns
returns c = ends_none c.args.cursor _ _ (sym c.is_some.ensures ∙ c.if-is_some.false) c.in_ok-next_token.ensures.value
