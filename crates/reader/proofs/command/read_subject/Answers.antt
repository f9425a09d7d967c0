use Rattle.std.proofs.Common.{◌≡◌, rules, codes}
use Rattle.std.proofs.lemmas.Slice.Eq.{text_from_reads}
use Rattle.reader.proofs.command.read_subject.Goals as goal

pub returns-in-ballot : goal.returns-in-ballot
returns-in-ballot c =
    let is : c.text.result.now ≡ codes "ballot" = search (rules, text_from_reads) in search rules
