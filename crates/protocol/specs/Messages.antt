-- What a message is made of.
use Rattle.std.specs.Prelude.{ℕ, ◌%◌, cond, ◌&&◌, Ok, Err, Result, nat_lt}
use Rattle.std.proofs.Common.{mod-lt, lit<}
use Rattle.protocol.specs.declared.messages.Message.{Message}
use Rattle.protocol.specs.declared.messages.Step.{Step}
use Rattle.protocol.specs.declared.messages.Subject.{Subject}
use Rattle.protocol.specs.declared.messages.Subject.TheVariants.{Item, Ballot}
use Rattle.protocol.specs.declared.refusals.Refusal.{Refusal}
use Rattle.protocol.specs.declared.refusals.Refusal.TheVariants.{ProcessOutOfRange}

abbrev pub originator_of : Subject → ℕ
originator_of (Item i s) = i
originator_of (Ballot i c r) = i

-- The message with these parts, for ends below 16. The remainders make it a message for any
-- numbers.
unfoldable pub message : ℕ → ℕ → Step → Subject → ℕ → Message
message from to step subject body =
    record {
      sender = from % 16;
      addressee = to % 16;
      step = step;
      subject = subject;
      body = body;
      sent = mod-lt from (lit< tt);
      addressed = mod-lt to (lit< tt);
    }

-- what making a message answers: it is refused unless both ends are below 16
abbrev pub made : ℕ → ℕ → Step → Subject → ℕ → Result Message Refusal
made from to step subject body = cond (nat_lt from 16 && nat_lt to 16) (Ok (message from to step subject body)) (Err ProcessOutOfRange)
