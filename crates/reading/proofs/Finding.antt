-- What is found in memory, and that it is what a run tells.
use Rattle.std.proofs.Common.{◌≡◌, ℕ, None, Option, Result, ◌∙◌}
use Rattle.std.proofs.lemmas.Bool.{cond-true, lt-ltb, not_from_false}
use Rattle.protocol.specs.declared.messages.Subject.{Subject}
use Rattle.protocol.specs.declared.refusals.Refusal.{Refusal}
use Rattle.plan.specs.Kinds.{Line}
use Rattle.memory.specs.Contents.{Held}
use Rattle.rules.proofs.Theorem.{along, kept}
use Rattle.reading.specs.Answers.{read_refusal, reading_of, unless_refused, answer, ReadsAccepted}
use Rattle.reading.specs.declared.readings.Reading.{Reading}

module _ (line : Line) (h : Held) (i : ℕ) (s : Subject) where
  module _ {V : Type 0} (unpacked : ℕ → Option V) where
    -- a run keeps what it accepted, so that it is read
    pub alike : (r : Result (Reading V) Refusal) → r ≡ answer unpacked line h i s → ReadsAccepted unpacked line h i s r
    alike r is capacity coin es ws b run correct accepted =
        let recorded = (kept line capacity coin es h ws run).recorded in
        let large = (along line capacity coin es h ws run).2.mirrors.large in
        let allowed : read_refusal line h i s ≡ None =
        cond-true _ _ _ large ∙ cond-true _ _ _ (lt-ltb i line.plan.n correct.0) ∙ cond-true _ _ _ (not_from_false _ correct.1)
        ∙ cond-true _ _ _ (recorded.inside s i b accepted) in
        is ∙ (λ j. unless_refused (allowed j) (reading_of unpacked (recorded.kept s i b correct accepted j)))
