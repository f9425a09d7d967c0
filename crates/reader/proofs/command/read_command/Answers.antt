use Rattle.std.proofs.Common.{◌≡◌, false, rules, codes, arith}
use Rattle.std.proofs.lemmas.Slice.Eq.{text_from_reads}
use Rattle.grammar.specs.Grammar.{commands, known}
use Rattle.reader.proofs.Words.{not_known}
use Rattle.reader.proofs.command.read_command.Goals as goal

pub returns-in-announce : goal.returns-in-announce
returns-in-announce c =
    let is : c.text.result.now ≡ codes "announce" = search (rules, text_from_reads) in search rules

pub returns-in-deliver : goal.returns-in-deliver
returns-in-deliver c =
    let is : c.text.result.now ≡ codes "deliver" = search (rules, text_from_reads) in search rules

pub returns-in-advance : goal.returns-in-advance
returns-in-advance c =
    let is : c.text.result.now ≡ codes "advance" = search (rules, text_from_reads) in search rules

pub returns-in_default : goal.returns-in_default
returns-in_default c =
    let none : known commands c.text.result.now ≡ false = not_known c.text.result.now commands (λ is. grind arith, (λ is. grind arith, (λ is. grind arith, (λ is. grind arith, (λ is. grind arith, (λ is. grind arith, tt)))))) in search rules
