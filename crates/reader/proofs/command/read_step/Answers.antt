use Rattle.std.proofs.Common.{◌≡◌, rules, codes}
use Rattle.std.proofs.lemmas.Slice.Eq.{text_from_reads}
use Rattle.reader.proofs.command.read_step.Goals as goal

pub returns-in-initial : goal.returns-in-initial
returns-in-initial c =
    let is : c.text.result.now ≡ codes "initial" = search (rules, text_from_reads) in search rules
