-- Which numbers make a plan, and the memory that it needs.
use Rattle.std.specs.Prelude.{◌≡◌, ℕ, ◌+◌, ◌-◌, ◌*◌, Bool, true, false, ◌&&◌, Ok, Err, Result, nat_le, nat_lt, refl}
use Rattle.std.proofs.lemmas.Bool.{and_parts, leb-true, ltb-true}
use Rattle.protocol.specs.declared.refusals.Refusal.{Refusal}
use Rattle.protocol.specs.declared.refusals.Refusal.TheVariants.{PlanOutOfRange}
use Rattle.plan.specs.declared.plans.Needs.{Needs}
use Rattle.plan.specs.declared.plans.Plan.{Plan}

-- 1 to 16 processes, fewer than a third of them faulty, up to 32 serials and 8 cases, 1 to 16
-- phases
abbrev pub legal : ℕ → ℕ → ℕ → ℕ → ℕ → Bool
legal n t serials cases phases =
    (nat_le 1 n && nat_le n 16) && (nat_lt (3 * t) n && (nat_le serials 32 && (nat_le cases 8 && (nat_le 1 phases && nat_le phases 16))))

module _ (n t serials cases phases : ℕ) where
  abbrev pub plan_if : (b : Bool) → legal n t serials cases phases ≡ b → Result Plan Refusal
  plan_if false e = Err PlanOutOfRange
  plan_if true e =
      let a = and_parts _ _ e in
      let b = and_parts _ _ a.1 in
      let c = and_parts _ _ b.1 in
      let d = and_parts _ _ c.1 in
      let f = and_parts _ _ d.1 in
      Ok record {
        n = n;
        t = t;
        serials = serials;
        cases = cases;
        phases = phases;
        few = leb-true n 16 (and_parts (nat_le 1 n) (nat_le n 16) a.0).1;
        tolerated = ltb-true (3 * t) n b.0;
        numbered = leb-true serials 32 c.0;
        listed = leb-true cases 8 d.0;
        first = leb-true 1 phases f.0;
        last = leb-true phases 16 f.1;
      }

  -- the plan of these numbers, if they make one
  unfoldable pub planned : Result Plan Refusal
  planned = plan_if (legal n t serials cases phases) refl

-- how many rounds a case has, and how many subjects an originator: an item for each serial, a
-- ballot for each round of each case
abbrev pub rounds : Plan → ℕ
rounds plan = 3 * plan.phases

abbrev pub subjects : Plan → ℕ
subjects plan = plan.serials + rounds plan * plan.cases

-- how many processes can be waited for, since as many as may be faulty may stay silent
abbrev pub quorum : Plan → ℕ
quorum plan = plan.n - plan.t

-- Each process keeps a record for each subject of each originator.
-- A record has a place for the echo and for the ready of each sender.
abbrev pub needs_of : Plan → Needs
needs_of plan =
    let records = plan.n * plan.n * subjects plan in
    record {
      broadcast_records = records;
      body_places = 2 * plan.n * records;
      case_records = plan.n * plan.cases;
      next_serials = plan.n;
    }
