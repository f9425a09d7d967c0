-- A run of one process, from telling to accepting.
use Rattle.std.proofs.Common.{false, [], ◌∷◌, refl, arith}
use Rattle.protocol.specs.declared.messages.Message.{Message}
use Rattle.protocol.specs.declared.messages.Step.{Step}
use Rattle.protocol.specs.declared.messages.Step.TheVariants.{Initial, Echo, Ready}
use Rattle.protocol.specs.declared.messages.Subject.TheVariants.{Item}
use Rattle.protocol.specs.Counting.{below}
use Rattle.protocol.specs.Messages.{message}
use Rattle.protocol.proofs.Bags.{count_none}
use Rattle.agreement.specs.Worlds.{CorrectIn}
use Rattle.agreement.specs.Records.{heard_after, support, handle}
use Rattle.protocol.specs.Sending.{to_all}
use Rattle.agreement.specs.Runs.{State, start, after_telling, after_receiving, tells, delivers, Reachable, initially, by_transition, spread}
use Rattle.agreement.specs.Broadcasts.{alone, BroadcastHappens}
use Rattle.agreement.proofs.Counts.{counted_lawful}

-- the one message of each step
abbrev letter : Step → Message
letter step = message 0 0 step (Item 0 0) 5

abbrev first_state : State
first_state = after_telling (Item 0 0) 5 (letter Initial ∷ []) start

abbrev second : State
second = after_receiving alone (letter Initial) (letter Echo ∷ []) first_state

abbrev third : State
third = after_receiving alone (letter Echo) (letter Ready ∷ []) second

abbrev pub last : State
last = after_receiving alone (letter Ready) [] third

correct : CorrectIn alone 0
correct = (omega arith, refl)

run : Reachable alone last
unfolding to_all spread handle heard_after support below message
run =
    by_transition (by_transition (by_transition (by_transition initially (tells (Item 0 0) 5 (letter Initial ∷ []) correct refl (λ p. refl)))
    (delivers (letter Initial) [] (letter Echo ∷ []) correct (λ p. refl) (λ p. refl)))
    (delivers (letter Echo) [] (letter Ready ∷ []) correct (λ p. refl) (λ p. refl)))
    (delivers (letter Ready) [] [] correct (λ p. refl) (λ p. refl))

pub happens : BroadcastHappens last
unfolding handle heard_after support below message
happens = record {
  lawful = counted_lawful 1 0 1 1 1 (λ _. false) (omega arith) (omega arith) (record { meet = omega arith; echoes = omega arith; one_correct = omega arith; enough = omega arith; accepts = omega arith });
  run = run;
  quiet = λ i c. count_none _;
  told = refl;
  accepted = refl;
}
