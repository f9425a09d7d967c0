-- Full sets exist where there are enough valid ballots, and each allows a ballot.
use Rattle.std.proofs.Common.{◌≡◌, ℕ, zero, suc, ◌+◌, ◌-◌, ◌*◌, ◌<◌, ◌≤◌, min, Bool, true, false, cond, not, ◌&&◌, ◌||◌, ltb, ◌⊎◌, refl, ap, ◌∙◌, inl, inr, ⊎_elim, arith}
use Rattle.std.proofs.lemmas.Bool.{lt-ltb, le-ltb, and_parts, not-true, cases_lt}
use Rattle.std.proofs.Math.Bool.{or-not_self}
use Rattle.protocol.specs.declared.votes.Side.{Side}
use Rattle.protocol.specs.declared.votes.Side.TheVariants.{Keep, Release}
use Rattle.protocol.specs.declared.votes.Ballot.{Ballot}
use Rattle.protocol.specs.Counting.{below}
use Rattle.protocol.specs.Numbers.{vote, proposal}
use Rattle.protocol.specs.declared.votes.Kind.{Kind}
use Rattle.protocol.specs.declared.votes.Kind.TheVariants.{First, Second, Third}
use Rattle.protocol.specs.Phases.{kind}
use Rattle.consensus.specs.Rounds.{BallotMap, tally, Allows}
use Rattle.agreement.proofs.Counts.{below_all, below_measure}
use Rattle.protocol.specs.Faults.{CorrectOf}
use Rattle.consensus.specs.Validity.{Valid, lowest, Resilient}
use Rattle.consensus.specs.Decisions.{CanAdvance}
use Rattle.consensus.proofs.Sides.{both_sides}

one_lowest : (m c d : ℕ) (b : Bool) → d ≡ min m c → cond (b && ltb c m) 1 0 + d ≡ min m (cond b 1 0 + c)
one_lowest m c d false e = omega arith
one_lowest m c d true e =
    ⊎_elim (λ (l : c < m). let x : ◌≡◌ {A = ℕ} (cond (ltb c m) 1 0) 1 = ap (λ (z : Bool). cond z 1 0) (lt-ltb _ _ l) in omega arith) (λ (l : m ≤ c). let x : ◌≡◌ {A = ℕ} (cond (ltb c m) 1 0) 0 = ap (λ (z : Bool). cond z 1 0) (le-ltb _ _ l) in omega arith) (cases_lt c m)

pub lowest_size : (n m : ℕ) (p : ℕ → Bool) → below n (lowest m p) ≡ min m (below n p)
unfolding below lowest
lowest_size zero m p = omega arith
lowest_size (suc n) m p = one_lowest m (below n p) (below n (lowest m p)) (p n) (lowest_size n m p)

-- the side that has more than a bound, or none has
pick : (bound : ℕ) (f : Side → ℕ) → ((v : Side) × (bound < f v)) ⊎ ((v : Side) → f v ≤ bound)
pick bound f =
    ⊎_elim (λ (l : bound < f Keep). inl (Keep, l)) (λ (l : f Keep ≤ bound). ⊎_elim (λ (k : bound < f Release). inl (Release, k)) (λ (k : f Release ≤ bound). inr (both_sides (λ v. f v ≤ bound) l k)) (cases_lt bound (f Release))) (cases_lt bound (f Keep))

allows_some : (n t : ℕ) (q : Kind) (count : Ballot → ℕ) → (b : ℕ) × Allows n t q count b
allows_some n t First count = (_, refl)
allows_some n t Second count = ⊎_elim (λ x. (_, inl (x.0, x.1, refl))) (λ x. (_, inr (x, refl))) (pick n (λ v. 2 * count (vote v)))
allows_some n t Third count = ⊎_elim (λ x. (_, inl (x.0, x.1, refl))) (λ x. (_, inr (x, (Keep, refl)))) (pick t (λ v. count (proposal v)))

module _ (n t : ℕ) where
  pub advances : (A : BallotMap) (r : ℕ) (p : ℕ → Bool) → ((k : ℕ) → k < n → p k ≡ true → (b : ℕ) × Valid n t A r k b) → n - t ≤ below n p → CanAdvance n t A r (lowest (n - t) p)
  unfolding lowest
  advances A r p valid many = record {
    quorum = record {
      size = lowest_size n (n - t) p ∙ omega arith;
      member = λ k l e. valid k l (and_parts (p k) _ e).0;
    };
    next = allows_some n t (kind r) (tally n A r (lowest (n - t) p));
  }

  correct_many : (faulty : ℕ → Bool) → below n faulty ≤ t → n - t ≤ below n (λ k. not (faulty k))
  correct_many faulty few =
      omega (arith, below_all n, (below_measure n).modular faulty (λ k. not (faulty k)), (below_measure n).monotone (λ _. true) (λ k. faulty k || not (faulty k)) (λ k l e. or-not_self (faulty k)))

  pub enough : (faulty : ℕ → Bool) → Resilient n t faulty → (A : BallotMap) (r : ℕ) → ((k : ℕ) → CorrectOf n faulty k → (b : ℕ) × Valid n t A r k b) → (S : ℕ → Bool) × CanAdvance n t A r S
  enough faulty law A r valid =
      (lowest (n - t) (λ k. not (faulty k)), advances A r (λ k. not (faulty k)) (λ k l e. valid k (l, not-true _ e)) (correct_many faulty law.few))
