-- When two messages are equal, and what the parts of a made one are.
use Rattle.std.proofs.Common.{◌≡◌, ℕ, suc, ◌<◌, Ok, sym, refl, mod-eq_of_lt}
use mathlib.Core.HLevel.{is_prop→PathP}
use native.Mathlib.Bridge.{le_prop}
use Rattle.std.proofs.lemmas.Bool.{cond-true, and_from, lt-ltb}
use Rattle.protocol.specs.declared.messages.Message.{Message}
use Rattle.protocol.specs.declared.messages.Step.{Step}
use Rattle.protocol.specs.declared.messages.Subject.{Subject}
use Rattle.protocol.specs.Messages.{message, made}

-- messages with equal parts are equal
pub same_parts : (m n : Message) → m.sender ≡ n.sender → m.addressee ≡ n.addressee → m.step ≡ n.step → m.subject ≡ n.subject → m.body ≡ n.body → m ≡ n
same_parts m n from to step subject body = λ i.
    record {
      sender = from i;
      addressee = to i;
      step = step i;
      subject = subject i;
      body = body i;
      sent = is_prop→PathP (λ j. from j < 16) (λ j. le_prop {n = suc (from j)} {m = 16}) m.sent n.sent i;
      addressed = is_prop→PathP (λ j. to j < 16) (λ j. le_prop {n = suc (to j)} {m = 16}) m.addressed n.addressed i;
    }

module _ (s a : ℕ) (step : Step) (subject : Subject) (body : ℕ) where
  pub sender_of : s < 16 → (message s a step subject body).sender ≡ s
  unfolding message
  sender_of h = mod-eq_of_lt h

  pub addressee_of : a < 16 → (message s a step subject body).addressee ≡ a
  unfolding message
  addressee_of h = mod-eq_of_lt h

  pub step_of : (message s a step subject body).step ≡ step
  unfolding message
  step_of = refl

  pub subject_of : (message s a step subject body).subject ≡ subject
  unfolding message
  subject_of = refl

  pub body_of : (message s a step subject body).body ≡ body
  unfolding message
  body_of = refl

  -- with both ends below 16 a message is made
  pub made_within : s < 16 → a < 16 → made s a step subject body ≡ Ok (message s a step subject body)
  made_within p q = cond-true _ _ _ (and_from _ _ (lt-ltb s 16 p) (lt-ltb a 16 q))

-- a message is the one that is made of its parts
pub message_of : (m : Message) → m ≡ message m.sender m.addressee m.step m.subject m.body
message_of m =
    same_parts m _ (sym (sender_of _ _ _ _ _ m.sent)) (sym (addressee_of _ _ _ _ _ m.addressed)) (sym (step_of _ _ _ _ _)) (sym (subject_of _ _ _ _ _))
    (sym (body_of _ _ _ _ _))
