use Rattle.token.proofs.Pieces.{joined_pieces}
use Rattle.token.proofs.cursor.Cursor.new.Goals as goal

pub returns-clause-whole : goal.returns-clause-whole
returns-clause-whole c = joined_pieces c.args.line.now
