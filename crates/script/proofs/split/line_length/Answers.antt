use Rattle.script.proofs.FirstLine.{length_from_break}
use Rattle.script.proofs.split.line_length.Goals as goal

pub returns-clause-value : goal.returns-clause-value
returns-clause-value c = length_from_break c.args.rest.now _ _ c.line_break.ensures c.unwrap_or.ensures
