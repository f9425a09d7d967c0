use Rattle.std.proofs.Common.{◌≤◌, length, arith, rules}
use Rattle.token.proofs.Pieces.{spanning_fits}
use Rattle.token.proofs.First.{first_from_lexed}
use Rattle.token.proofs.lex.first_token.Goals as goal

pub slice_bounds-lex-end : goal.slice_bounds-lex-end
slice_bounds-lex-end c = let h : c.span.result ≤ length c.args.rest.now = omega (arith, spanning_fits c.args.rest.now) in search rules

pub returns : goal.returns
returns c = first_from_lexed c.args.rest.now c.span.result c.lex.result c.span.ensures c.lex.ensures
