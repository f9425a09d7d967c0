use Rattle.std.proofs.Common.{sym, ◌∙◌}
use Rattle.std.proofs.lemmas.Result.{err_from_is_err_and}
use Rattle.grammar.specs.Grammar.{done, command}
use Rattle.reader.proofs.Whole.{whole}
use Rattle.reader.proofs.command.read_whole.Goals as goal

pub returns-in_err-expect : goal.returns-in_err-expect
returns-in_err-expect c =
    let p = err_from_is_err_and c.from_residual.result c.from_residual.ensures.1 in
    let start = c.new-cursor.ensures in
    rw (p.1, p.2) (whole c.args.number c.args.line.now _ start.place start.tokens _ (c.in_err-expect.ensures (λ _. command done)))

pub returns-in_err-form : goal.returns-in_err-form
returns-in_err-form c =
    let p = err_from_is_err_and c.from_residual-in_err-form.result c.from_residual-in_err-form.ensures.1 in
    let start = c.new-cursor.ensures in
    rw (p.1, p.2) (whole c.args.number c.args.line.now _ start.place start.tokens _ (c.in_ok-expect.ensures (λ _. command done) ∙ c.in_err-form.ensures done))

pub returns : goal.returns
returns c =
    let start = c.new-cursor.ensures in
    sym c.finish.ensures ∙ whole c.args.number c.args.line.now _ start.place start.tokens _ (c.in_ok-expect.ensures (λ _. command done) ∙ c.in_ok-form.ensures done)
