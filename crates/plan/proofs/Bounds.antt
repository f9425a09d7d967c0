-- When numbers make a plan, and when two plans are equal.
use Rattle.std.proofs.Common.{◌≡◌, ℕ, suc, ◌*◌, ◌<◌, ◌≤◌, Bool, true, false, Ok, Err, sym, refl, ap, ◌∙◌, arith}
use mathlib.Core.HLevel.{is_prop→PathP}
use native.Mathlib.Bridge.{le_prop}
use Rattle.std.proofs.lemmas.Bool.{and_from, le-leb, lt-ltb, true≢false}
use Rattle.protocol.specs.declared.refusals.Refusal.TheVariants.{PlanOutOfRange}
use Rattle.plan.specs.declared.plans.Plan.{Plan}
use Rattle.plan.specs.Plans.{legal, planned, plan_if}

-- the numbers of a plan are legal
pub plan_legal : (plan : Plan) → legal plan.n plan.t plan.serials plan.cases plan.phases ≡ true
plan_legal plan =
    and_from _ _ (and_from _ _ (le-leb 1 plan.n (omega arith)) (le-leb plan.n 16 plan.few))
    (and_from _ _ (lt-ltb (3 * plan.t) plan.n plan.tolerated)
    (and_from _ _ (le-leb plan.serials 32 plan.numbered)
    (and_from _ _ (le-leb plan.cases 8 plan.listed) (and_from _ _ (le-leb 1 plan.phases plan.first) (le-leb plan.phases 16 plan.last)))))

-- plans with equal numbers are equal
pub same_plan : (p q : Plan) → p.n ≡ q.n → p.t ≡ q.t → p.serials ≡ q.serials → p.cases ≡ q.cases → p.phases ≡ q.phases → p ≡ q
same_plan p q n t serials cases phases = λ i.
    record {
      n = n i;
      t = t i;
      serials = serials i;
      cases = cases i;
      phases = phases i;
      few = is_prop→PathP (λ j. n j ≤ 16) (λ j. le_prop {n = n j} {m = 16}) p.few q.few i;
      tolerated = is_prop→PathP (λ j. 3 * t j < n j) (λ j. le_prop {n = suc (3 * t j)} {m = n j}) p.tolerated q.tolerated i;
      numbered = is_prop→PathP (λ j. serials j ≤ 32) (λ j. le_prop {n = serials j} {m = 32}) p.numbered q.numbered i;
      listed = is_prop→PathP (λ j. cases j ≤ 8) (λ j. le_prop {n = cases j} {m = 8}) p.listed q.listed i;
      first = is_prop→PathP (λ j. 1 ≤ phases j) (λ j. le_prop {n = 1} {m = phases j}) p.first q.first i;
      last = is_prop→PathP (λ j. phases j ≤ 16) (λ j. le_prop {n = phases j} {m = 16}) p.last q.last i;
    }

-- a plan is what its numbers make
pub planned_of : (plan : Plan) → planned plan.n plan.t plan.serials plan.cases plan.phases ≡ Ok plan
unfolding planned
planned_of plan = go (legal plan.n plan.t plan.serials plan.cases plan.phases) refl where
  go : (b : Bool) (e : legal plan.n plan.t plan.serials plan.cases plan.phases ≡ b) → plan_if plan.n plan.t plan.serials plan.cases plan.phases b e ≡ Ok plan
  go true e = ap Ok (same_plan _ plan refl refl refl refl refl)
  go false e = absurd (true≢false (sym (plan_legal plan) ∙ e))

-- other numbers make none
pub planned_not : (n t serials cases phases : ℕ) → legal n t serials cases phases ≡ false → planned n t serials cases phases ≡ Err PlanOutOfRange
unfolding planned
planned_not n t serials cases phases h = go (legal n t serials cases phases) refl where
  go : (b : Bool) (e : legal n t serials cases phases ≡ b) → plan_if n t serials cases phases b e ≡ Err PlanOutOfRange
  go true e = absurd (true≢false (sym e ∙ h))
  go false e = refl
