use Rattle.std.proofs.Common.{arith}
use Rattle.token.proofs.Pieces.{spanning_is, spanning_fits}
use Rattle.token.proofs.lex.span.Goals as goal

pub overflow_add-result : goal.overflow_add-result
overflow_add-result c = omega (arith, spanning_is c.args.rest.now c.in-len1-up.len_at_least, spanning_fits c.args.rest.now, c.run_length.ensures)

pub returns-in-len1-up : goal.returns-in-len1-up
returns-in-len1-up c = omega (arith, spanning_is c.args.rest.now c.in-len1-up.len_at_least, c.run_length.ensures)
