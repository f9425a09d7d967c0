-- Sets of processes by what they hold: who stands behind a body, and what two sets share.
use Rattle.std.proofs.Common.{◌≡◌, ℕ, zero, suc, ◌+◌, ◌-◌, ◌<◌, ◌≤◌, Bool, true, false, not, ◌&&◌, ◌||◌, ◌⊎◌, Some, Option, refl, ap, ◌∙◌, inl, inr, ⊎_elim, arith}
use Rattle.std.proofs.lemmas.Bool.{both_ways, not-true, not_from_false, and_parts, and_from, or_cases, or_left, or_right, cases_Bool, cases_lt}
use Rattle.agreement.specs.Worlds.{World, CorrectIn, Lawful}
use Rattle.protocol.specs.Heard.{has}
use Rattle.agreement.specs.Records.{support}
use Rattle.agreement.proofs.Bodies.{has_some, some_has, some_once}

-- some k below n passes the test, or none does
pub find : (n : ℕ) (p : ℕ → Bool) → ((k : ℕ) × (k < n) × (p k ≡ true)) ⊎ ((k : ℕ) → k < n → p k ≡ false)
find zero p = inr (λ k h. absurd (omega arith))
find (suc n) p =
    ⊎_elim (λ (e : p n ≡ true). inl (n, omega arith, e)) (λ (e : p n ≡ false).
    ⊎_elim (λ r. inl (r.0, omega (arith, r.1), r.2)) (λ none. inr (λ k l.
    ⊎_elim (none k) (λ (m : n ≤ k). let is : k ≡ n = omega arith in ap p is ∙ e) (cases_lt k n))) (find n p))
    (cases_Bool (p n))

-- how much the processes weigh that f has with body b, the faulty ones added
pub backing : World → (ℕ → Option ℕ) → ℕ → ℕ
backing w f b = w.weight (λ k. w.faulty k || has (f k) b)

module _ (w : World) (law : Lawful w) where
  -- a set heavier than t has a correct member
  correct_in : (p : ℕ → Bool) → w.t < w.weight p → (k : ℕ) × CorrectIn w k × (p k ≡ true)
  correct_in p h = ⊎_elim found none (find w.n (λ k. not (w.faulty k) && p k))
    where
      found : ((k : ℕ) × (k < w.n) × ((not (w.faulty k) && p k) ≡ true)) → (k : ℕ) × CorrectIn w k × (p k ≡ true)
      found f = let e = and_parts (not (w.faulty f.0)) (p f.0) f.2 in (f.0, (f.1, not-true _ e.0), e.1)

      within : ((k : ℕ) → k < w.n → (not (w.faulty k) && p k) ≡ false) → (k : ℕ) → k < w.n → p k ≡ true → w.faulty k ≡ true
      within no_one k l e =
          ⊎_elim (λ (x : w.faulty k ≡ true). x) (λ (x : w.faulty k ≡ false). absurd (both_ways _ (no_one k l) (and_from _ _ (not_from_false _ x) e)))
          (cases_Bool (w.faulty k))

      none : ((k : ℕ) → k < w.n → (not (w.faulty k) && p k) ≡ false) → (k : ℕ) × CorrectIn w k × (p k ≡ true)
      none no_one = absurd (omega (arith, law.few, law.measure.monotone p w.faulty (within no_one)))

  -- members that are correct are members of p
  with_faulty : (p q : ℕ → Bool) → ((k : ℕ) → CorrectIn w k → q k ≡ true → p k ≡ true) → (k : ℕ) → k < w.n → q k ≡ true → (w.faulty k || p k) ≡ true
  with_faulty p q h k l e =
      ⊎_elim (λ (x : w.faulty k ≡ true). or_left _ _ x) (λ (x : w.faulty k ≡ false). or_right _ _ (h k (l, x) e)) (cases_Bool (w.faulty k))

  without_faulty : (p : ℕ → Bool) (k : ℕ) → CorrectIn w k → (w.faulty k || p k) ≡ true → p k ≡ true
  without_faulty p k c e = ⊎_elim (λ x. absurd (both_ways _ c.1 x)) (λ x. x) (or_cases (w.faulty k) (p k) e)

  module _ (f g : ℕ → Option ℕ) (b : ℕ) (holds : (k : ℕ) → CorrectIn w k → f k ≡ Some b → g k ≡ Some b) where
    -- what correct processes are heard with, they hold
    pub support_backed : support w f b ≤ backing w g b
    unfolding support backing
    support_backed =
        law.measure.monotone _ _ (with_faulty (λ k. has (g k) b) (λ k. has (f k) b) (λ k c e. some_has _ b (holds k c (has_some _ b e))))

    pub backing_grows : backing w f b ≤ backing w g b
    unfolding backing
    backing_grows =
        law.measure.monotone _ _ (with_faulty (λ k. has (g k) b) (λ k. w.faulty k || has (f k) b) (λ k c e. some_has _ b (holds k c (has_some _ b (without_faulty (λ j. has (f j) b) k c e)))))

    -- without the faulty ones it is lighter by t at most
    pub support_left : backing w f b ≤ w.t + support w g b
    unfolding support backing
    support_left =
        let grows = backing_grows in
        omega (arith, law.few, law.measure.modular w.faulty (λ k. has (g k) b), grows)

  -- what every correct process holds
  pub support_full : (f : ℕ → Option ℕ) (b : ℕ) → ((k : ℕ) → CorrectIn w k → f k ≡ Some b) → w.weight (λ _. true) - w.t ≤ support w f b
  unfolding support
  support_full f b all =
      omega (arith, law.few, law.measure.modular w.faulty (λ k. has (f k) b), law.measure.monotone (λ _. true) (λ k. w.faulty k || has (f k) b) (with_faulty (λ k. has (f k) b) (λ _. true) (λ k c e. some_has _ b (all k c))))

  -- a body with enough behind it is held by a correct process
  pub backer : (f : ℕ → Option ℕ) (b : ℕ) → w.t < backing w f b → (k : ℕ) × CorrectIn w k × (f k ≡ Some b)
  unfolding backing
  backer f b h =
      let k = correct_in (λ k. w.faulty k || has (f k) b) h in
      (k.0, k.1, has_some _ b (without_faulty (λ k. has (f k) b) k.0 k.1 k.2))

  pub supporter : (f : ℕ → Option ℕ) (b : ℕ) → w.t < support w f b → (k : ℕ) × CorrectIn w k × (f k ≡ Some b)
  supporter f b h = backer f b (omega (arith, support_backed f f b (λ k c e. e)))

  -- an echo quorum has a correct member, and two share one
  pub quorum_heavy : w.t < w.echo
  quorum_heavy = omega (arith, law.sound.meet, law.sound.echoes)

  pub quorums_meet : (f : ℕ → Option ℕ) (b c : ℕ) → w.echo ≤ backing w f b → w.echo ≤ backing w f c → b ≡ c
  unfolding backing
  quorums_meet f b c p q =
      let P = λ (d k : ℕ). w.faulty k || has (f k) d in
      let all : w.weight (λ k. P b k || P c k) ≤ w.weight (λ _. true) = law.measure.monotone _ _ (λ k l e. refl) in
      let k = correct_in (λ k. P b k && P c k) (omega (arith, law.measure.modular (P b) (P c), law.sound.meet)) in
      let both = and_parts (P b k.0) (P c k.0) k.2 in
      let held = λ (d : ℕ) (e : P d k.0 ≡ true). has_some (f k.0) d (without_faulty (λ k. has (f k) d) k.0 k.1 e) in
      some_once (f k.0) b c (held b both.0) (held c both.1)
