use Rattle.std.proofs.Common.{Ok, sym, ap, ◌∙◌, arith}
use Rattle.protocol.proofs.Parts.{message_of, made_within}
use Rattle.protocol.proofs.messages.Message.new.Goals as goal

pub returns : goal.returns
returns c = ap Ok (message_of _) ∙ sym (made_within _ _ _ _ _ (omega arith) (omega arith))
