-- All places are among those that the plan needs, and no two things share one.
use Rattle.std.proofs.Common.{◌≡◌, ℕ, ◌+◌, ◌-◌, ◌*◌, ◌/◌, ◌%◌, ◌<◌, ◌≤◌, true, sym, ap, ◌∙◌, mul_assoc, mul_comm, add-mul, mul-add, arith}
use Rattle.std.proofs.lemmas.Nat.{mul-add-lt, div-mul-add, mod-mul-add, mul-le}
use Rattle.std.proofs.lemmas.Bool.Decides.{nat_tests}
use Rattle.protocol.specs.Messages.{originator_of}
use Rattle.protocol.specs.declared.messages.Subject.{Subject}
use Rattle.protocol.specs.declared.messages.Subject.TheVariants.{Item, Ballot}
use Rattle.plan.specs.declared.plans.Plan.{Plan}
use Rattle.plan.specs.Plans.{subjects}
use Rattle.memory.specs.Places.{within, subject_number, record_place, echoes, readies, Laid}

-- row and column are found again from a place
grid_apart : (w a b c d : ℕ) → b < w → d < w → a * w + b ≡ c * w + d → (a ≡ c) × (b ≡ d)
grid_apart w a b c d p q e = (
  sym (div-mul-add a w b p) ∙ ap (λ (x : ℕ). x / w) e ∙ div-mul-add c w d q,
  sym (mod-mul-add a w b p) ∙ ap (λ (x : ℕ). x % w) e ∙ mod-mul-add c w d q,
)

module _ (plan : Plan) where
  -- what being within the plan says
  item_within : (i k : ℕ) → within plan (Item i k) ≡ true → (i < plan.n) × (k < plan.serials)
  item_within i k h = (grind (arith, nat_tests), grind (arith, nat_tests))

  ballot_within : (i c r : ℕ) → within plan (Ballot i c r) ≡ true → (i < plan.n) × (c < plan.cases) × (1 ≤ r) × (r ≤ 3 * plan.phases)
  ballot_within i c r h = (grind (arith, nat_tests), grind (arith, nat_tests), grind (arith, nat_tests), grind (arith, nat_tests))

  originator_below : (s : Subject) → within plan s ≡ true → originator_of s < plan.n
  originator_below (Item i k) h = (item_within i k h).0
  originator_below (Ballot i c r) h = (ballot_within i c r h).0

  number_below : (s : Subject) → within plan s ≡ true → subject_number plan s < subjects plan
  number_below (Item i k) h = omega (arith, (item_within i k h).1)
  number_below (Ballot i c r) h =
      let w = ballot_within i c r h in
      omega (arith, mul-add-lt c (3 * plan.phases) (r - 1) plan.cases w.1 (omega arith))

  number_apart : (s z : Subject) → within plan s ≡ true → within plan z ≡ true → originator_of s ≡ originator_of z → subject_number plan s ≡ subject_number plan z → s ≡ z
  number_apart (Item i k) (Item j l) h g from e = λ m. Item (from m) (e m)
  number_apart (Item i k) (Ballot j d u) h g from e = let w = item_within i k h in absurd (omega arith)
  number_apart (Ballot i c r) (Item j l) h g from e = let w = item_within j l g in absurd (omega arith)
  number_apart (Ballot i c r) (Ballot j d u) h g from e =
      let v = ballot_within i c r h in
      let w = ballot_within j d u g in
      let both = grid_apart (3 * plan.phases) c (r - 1) d (u - 1) (omega arith) (omega arith) (omega (arith, mul_comm (3 * plan.phases) c, mul_comm (3 * plan.phases) d)) in
      let rounds : r ≡ u = omega (arith, both.1) in
      λ m. Ballot (from m) (both.0 m) (rounds m)

  -- the records of the largest plan
  pub records_few : plan.n * plan.n * subjects plan ≤ 106496
  records_few =
      mul-le (plan.n * plan.n) (subjects plan) 256 416 (mul-le plan.n plan.n 16 16 plan.few plan.few)
      (omega (arith, plan.numbered, mul-le (3 * plan.phases) plan.cases 48 8 (omega (arith, plan.last)) plan.listed))

  pub inside : (i : ℕ) (s : Subject) → i < plan.n → within plan s ≡ true → record_place plan i s < plan.n * plan.n * subjects plan
  inside i s lt h =
      let row = mul-add-lt i plan.n (originator_of s) plan.n lt (originator_below s h) in
      omega (arith, mul-add-lt (i * plan.n + originator_of s) (subjects plan) (subject_number plan s) (plan.n * plan.n) row (number_below s h), mul_comm (subjects plan) (plan.n * plan.n))

  apart : (i j : ℕ) (s z : Subject) → i < plan.n → j < plan.n → within plan s ≡ true → within plan z ≡ true → record_place plan i s ≡ record_place plan j z → (i ≡ j) × (s ≡ z)
  apart i j s z p q h g e =
      let rows = grid_apart (subjects plan) _ (subject_number plan s) _ (subject_number plan z) (number_below s h) (number_below z g) e in
      let ends = grid_apart plan.n i (originator_of s) j (originator_of z) (originator_below s h) (originator_below z g) rows.0 in
      (ends.0, number_apart s z h g ends.1 rows.1)

  -- the body places as a grid with two rows of n places to a record
  echo_row : (k j : ℕ) → echoes plan k + j ≡ (2 * k) * plan.n + j
  echo_row k j = omega (arith, mul_assoc 2 plan.n k, mul_comm plan.n k, mul_assoc 2 k plan.n)

  ready_row : (k j : ℕ) → readies plan k + j ≡ (2 * k + 1) * plan.n + j
  ready_row k j = omega (arith, echo_row k j, add-mul (2 * k) 1 plan.n)

  body_inside : (k : ℕ) → k < plan.n * plan.n * subjects plan → readies plan k + plan.n ≤ 2 * plan.n * (plan.n * plan.n * subjects plan)
  body_inside k lt =
      let m = plan.n * plan.n * subjects plan in
      omega (arith, mul-add (2 * plan.n) k 1, mul-le (2 * plan.n) (k + 1) (2 * plan.n) m (omega arith) (omega arith))

  pub laid : Laid plan
  laid =
      record {
        inside = inside;
        apart = apart;
        echo_inside = λ k j lt below. omega (arith, body_inside k lt);
        ready_inside = λ k j lt below. omega (arith, body_inside k lt);
        echo_apart = λ k l i j p q e.
            let both = grid_apart plan.n (2 * k) i (2 * l) j p q (sym (echo_row k i) ∙ e ∙ echo_row l j) in
            (omega (arith, both.0), both.1);
        ready_apart = λ k l i j p q e.
            let both = grid_apart plan.n (2 * k + 1) i (2 * l + 1) j p q (sym (ready_row k i) ∙ e ∙ ready_row l j) in
            (omega (arith, both.0), both.1);
        steps_apart = λ k l i j p q e.
            let both = grid_apart plan.n (2 * k) i (2 * l + 1) j p q (sym (echo_row k i) ∙ e ∙ ready_row l j) in
            omega (arith, both.0);
        case_inside = λ i c p q. omega (arith, mul-add-lt i plan.cases c plan.n p q, mul_comm plan.cases plan.n);
        case_apart = λ i j c d p q e. grid_apart plan.cases i c j d p q e;
      }
