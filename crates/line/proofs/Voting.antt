-- Where a case record has its place, and when advancing is allowed.
use Rattle.std.proofs.Common.{◌≡◌, ℕ, ◌<◌, Bool, true, false, cond, ◌&&◌, ltb, List, Some, None, Option, Ok, ok_or, refl, ap, ◌∙◌, arith}
use Rattle.std.proofs.lemmas.Bool.{cond-true, lt-ltb}
use Rattle.protocol.specs.declared.messages.Message.{Message}
use Rattle.protocol.specs.declared.refusals.Refusal.{Refusal}
use Rattle.protocol.specs.declared.refusals.Refusal.TheVariants.{SubjectOutOfPlan}
use Rattle.plan.specs.Kinds.{Line}
use Rattle.plan.specs.declared.plans.Plan.{Plan}
use Rattle.memory.specs.Contents.{Held}
use Rattle.memory.specs.Places.{case_place, case_place_of}
use Rattle.cases.specs.Steps.{round_at, may_advance, step_at}
use Rattle.cases.specs.declared.steps.Progress.{Progress}
use Rattle.rules.specs.Turns.{Advance, refusal, correct_tests, subject_after, room_for_ballot}

-- what the place of a case record says of the case
pub some_place : (plan : Plan) (i c : ℕ) → i < plan.n → (at : ℕ) → Ok at ≡ ok_or (case_place_of plan i c) SubjectOutOfPlan → (at ≡ case_place plan i c) × (ltb c plan.cases ≡ true)
some_place plan i c lt at e = go (ltb c plan.cases) (e ∙ ap (λ (t : Bool). ok_or (cond (t && ltb c plan.cases) (Some (case_place plan i c)) None) SubjectOutOfPlan) (lt-ltb i plan.n lt))
  where
    go : (b : Bool) → Ok at ≡ ok_or (cond b (Some (case_place plan i c)) None) SubjectOutOfPlan → (at ≡ case_place plan i c) × (b ≡ true)
    go true h = (cc, refl)
    go false h = let z : ◌≡◌ {A = ℕ} 0 1 = cc in absurd (omega arith)

module _ (line : Line) (capacity : ℕ) (h : Held) (ws : List Message) (i c : ℕ) (before : (rest : Option Refusal) → correct_tests line h i rest ≡ rest) where
  may_step : (m : Bool) (s : Progress) (t : Option Progress) → Some s ≡ cond m t None → m ≡ true
  may_step true s t e = refl
  may_step false s t e = let z : ◌≡◌ {A = ℕ} 0 1 = cc in absurd (omega arith)

  pub may_go_on : ltb c line.plan.cases ≡ true → (s : Progress) → Some s ≡ step_at line.plan h i c → room_for_ballot line (subject_after line i c (round_at line.plan h i c)) capacity ws ≡ true → refusal line capacity h ws (Advance i c) ≡ None
  may_go_on known s e x =
      before _ ∙ cond-true _ _ _ known ∙ cond-true _ _ _ (may_step (may_advance line.plan h i c) s _ e) ∙ cond-true _ _ _ x
