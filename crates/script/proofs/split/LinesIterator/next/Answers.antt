use Rattle.std.proofs.Common.{◌<◌, length, refl, rules}
use Rattle.script.proofs.FirstLine.{behind_break, next_line}
use Rattle.script.proofs.split.LinesIterator.next.Goals as goal

pub returns-clause-steps : goal.returns-clause-steps
returns-clause-steps c =
    let some : 0 < length c.args.self.now.rest.now = let p = c.if-is_empty.ensures in search rules in
    let behind = behind_break c.split_at.result.1 c.get.result c.unwrap_or-self.result c.get.ensures.lookup c.unwrap_or-self.ensures in (
      refl,
      (next_line c.args.self.now.rest.now _ _ _ _ some c.line_length.ensures.value c.split_at.ensures.front c.split_at.ensures.back behind, refl),
    )
