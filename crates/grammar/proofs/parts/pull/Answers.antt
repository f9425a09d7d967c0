use Rattle.std.proofs.Common.{sym, ◌∙◌}
use Rattle.std.proofs.lemmas.Result.{err_from_is_err_and}
use Rattle.grammar.proofs.Walk.{faulty, pulled, missed}
use Rattle.grammar.proofs.parts.pull.Goals as goal

pub returns-in_err-next_token : goal.returns-in_err-next_token
returns-in_err-next_token c =
    let p = err_from_is_err_and c.from_residual.result c.from_residual.ensures.1 in
    let e = c.in_err-next_token.ensures in
    rw (p.1, p.2) (faulty c.args.cursor.now c.next_token.new.self _ e.value e.place e.tokens)

pub returns-in_err-token : goal.returns-in_err-token
returns-in_err-token c =
    let p = err_from_is_err_and c.from_residual-in_err-token.result c.from_residual-in_err-token.ensures.1 in
    let e = c.in_ok-next_token.ensures in
    rw (p.1, p.2) (missed c.args.cursor.now c.next_token.new.self _ _ _ e.value e.place e.tokens c.place-place.ensures (sym c.ok_or.ensures.value ∙ c.in_err-token.was))

pub returns : goal.returns
returns c =
    let e = c.in_ok-next_token.ensures in
    pulled c.args.cursor.now c.next_token.new.self _ _ _ e.value e.kind e.place e.tokens c.place-place.ensures (sym c.ok_or.ensures.value ∙ c.in_ok-token.was)
