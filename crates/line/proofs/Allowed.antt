-- Why forging is refused, test by test.
use Rattle.std.proofs.Common.{◌≡◌, ℕ, ◌≤◌, ltb, List, Some, Option, sym, ap, ◌∙◌}
use Rattle.std.proofs.lemmas.Bool.{cond-false, le-ltb}
use Rattle.protocol.specs.declared.messages.Message.{Message}
use Rattle.protocol.specs.declared.refusals.Refusal.{Refusal}
use Rattle.protocol.specs.declared.refusals.Refusal.TheVariants.{ProcessOutOfRange, WrongRole, SubjectOutOfPlan}
use Rattle.plan.specs.Kinds.{Line}
use Rattle.memory.specs.Contents.{Held}
use Rattle.memory.specs.Places.{within}
use Rattle.rules.specs.Turns.{Forge, faulty, unless, refusal, process_tests, room_test}

module _ (line : Line) (capacity : ℕ) (h : Held) (ws : List Message) (m : Message) where
  -- the tests after those of the sender
  abbrev tests : Option Refusal
  tests =
      unless (ltb m.addressee line.plan.n) ProcessOutOfRange
      (unless (faulty line m.sender) WrongRole (unless (within line.plan m.subject) SubjectOutOfPlan (room_test 1 capacity ws)))

  module _ (s : ℕ) (same : s ≡ m.sender) where
    of_sender : process_tests line h s tests ≡ refusal line capacity h ws (Forge m)
    of_sender = ap (λ (i : ℕ). process_tests line h i tests) same

    pub not_from : (e : Refusal) → ((rest : Option Refusal) → process_tests line h s rest ≡ Some e) → refusal line capacity h ws (Forge m) ≡ Some e
    not_from e first = sym of_sender ∙ first _

    pub not_to : ((rest : Option Refusal) → process_tests line h s rest ≡ rest) → line.plan.n ≤ m.addressee → refusal line capacity h ws (Forge m) ≡ Some ProcessOutOfRange
    not_to before le = sym of_sender ∙ before _ ∙ cond-false _ _ _ (le-ltb m.addressee line.plan.n le)
