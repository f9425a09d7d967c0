-- What the counts of a set tell of its members.
use Rattle.std.proofs.Common.{◌≡◌, ℕ, zero, suc, ◌+◌, ◌-◌, ◌<◌, ◌≤◌, Bool, true, false, ◌&&◌, ◌||◌, Some, ap, ◌∙◌, subst, ⊎_elim, arith}
use Rattle.std.proofs.lemmas.Bool.{and_parts, and_from, or_left, or_right, cases_Bool}
use Rattle.protocol.specs.declared.votes.Ballot.{Ballot}
use Rattle.protocol.specs.Counting.{below}
use Rattle.protocol.specs.Numbers.{ballot_number}
use Rattle.protocol.proofs.Counting.{below_le, below_zero}
use Rattle.protocol.specs.Heard.{has}
use Rattle.agreement.proofs.Bodies.{has_some, some_has, some_once}
use Rattle.agreement.proofs.Counts.{below_measure}
use Rattle.agreement.proofs.Weights.{find}
use Rattle.consensus.specs.Rounds.{BallotMap, tally}
use Rattle.protocol.specs.Faults.{CorrectOf}
use Rattle.consensus.specs.Validity.{Valid, Quorum}

some_below : (n : ℕ) (p : ℕ → Bool) → 0 < below n p → (k : ℕ) × (k < n) × (p k ≡ true)
some_below n p h = ⊎_elim (λ x. x) (λ none. absurd (omega (arith, below_zero n p none))) (find n p)

-- two sets that are too large to be apart
meet : (n : ℕ) (p q : ℕ → Bool) → n < below n p + below n q → (k : ℕ) × (k < n) × (p k ≡ true) × (q k ≡ true)
meet n p q h =
    let k = some_below n (λ j. p j && q j) (omega (arith, (below_measure n).modular p q, below_le n (λ j. p j || q j))) in
    let both = and_parts (p k.0) (q k.0) k.2 in
    (k.0, k.1, both.0, both.1)

module _ (n t : ℕ) (G : BallotMap) where
  pub held : (r o b : ℕ) → Valid n t G r o b → G o r ≡ Some b
  unfolding Valid
  held zero o b v = v.0
  held (suc r) o b v = v.0

  module _ (r : ℕ) where
    -- a member of S with ballot b
    sayer : (S : ℕ → Bool) (b : Ballot) → 0 < tally n G r S b → (k : ℕ) × (k < n) × (S k ≡ true) × (G k r ≡ Some (ballot_number b))
    unfolding tally
    sayer S b h =
        let k = some_below n _ h in
        let both = and_parts (S k.0) _ k.2 in
        (k.0, k.1, both.0, has_some _ _ both.1)

    -- two majorities share a member
    pub most_meet : (S T : ℕ → Bool) (b c : Ballot) → n < tally n G r S b + tally n G r T c → ballot_number b ≡ ballot_number c
    unfolding tally
    most_meet S T b c h =
        let k = meet n _ _ h in
        let x = and_parts (S k.0) _ k.2 in
        let y = and_parts (T k.0) _ k.3 in
        some_once _ _ _ (has_some _ _ x.1) (has_some _ _ y.1)

    module _ (S : ℕ → Bool) (full : Quorum n t G r S) where
      pub valid_member : (k b : ℕ) → k < n → S k ≡ true → G k r ≡ Some b → Valid n t G r k b
      valid_member k b l s e =
          let m = full.member k l s in
          subst (λ (c : ℕ). Valid n t G r k c) (some_once _ _ _ (held r k m.0 m.1) e) m.1

      -- a valid ballot b, where S has one
      pub valid_sayer : (b : Ballot) → 0 < tally n G r S b → (k : ℕ) × Valid n t G r k (ballot_number b)
      valid_sayer b h =
          let k = sayer S b h in
          (k.0, valid_member k.0 (ballot_number b) k.1 k.2 k.3)

      -- where every valid ballot is b
      pub tally_all : (b : Ballot) → ((o c : ℕ) → Valid n t G r o c → c ≡ ballot_number b) → n - t ≤ tally n G r S b
      unfolding tally
      tally_all b all =
          let every : below n S ≤ below n (λ k. S k && has (G k r) (ballot_number b)) = (below_measure n).monotone S _ (λ k l e. let m = full.member k l e in and_from _ _ e (some_has _ _ (held r k m.0 m.1 ∙ ap Some (all k m.0 m.1)))) in
          omega (arith, full.size)

      -- where every valid ballot of a correct process is b
      module _ (faulty : ℕ → Bool) (b : Ballot) (all : (o c : ℕ) → CorrectOf n faulty o → Valid n t G r o c → c ≡ ballot_number b) where
        pub tally_correct : n - t ≤ below n faulty + tally n G r S b
        unfolding tally
        tally_correct =
            let every : below n S ≤ below n (λ k. faulty k || (S k && has (G k r) (ballot_number b))) =
            (below_measure n).monotone S _ (λ k l e. ⊎_elim (λ (x : faulty k ≡ true). or_left _ _ x) (λ (x : faulty k ≡ false). let m = full.member k l e in or_right _ _ (and_from _ _ e (some_has _ _ (held r k m.0 m.1 ∙ ap Some (all k m.0 (l, x) m.1))))) (cases_Bool (faulty k))) in
            omega (arith, full.size, (below_measure n).modular faulty (λ k. S k && has (G k r) (ballot_number b)))

        pub tally_faulty : (c : Ballot) → (ballot_number c ≡ ballot_number b → ⊥) → tally n G r S c ≤ below n faulty
        unfolding tally
        tally_faulty c apart =
            (below_measure n).monotone _ faulty (λ k l e. ⊎_elim (λ (x : faulty k ≡ true). x) (λ (x : faulty k ≡ false). let both = and_parts (S k) _ e in absurd (apart (all k (ballot_number c) (l, x) (valid_member k (ballot_number c) l both.0 (has_some _ _ both.1))))) (cases_Bool (faulty k)))

      -- n - t processes meet those of another set that say b
      pub tally_met : (T : ℕ → Bool) (b : Ballot) → tally n G r T b ≤ t + tally n G r S b
      unfolding tally
      tally_met T b =
          let p = λ (k : ℕ). T k && has (G k r) (ballot_number b) in
          let shared : below n (λ k. p k && S k) ≤ below n (λ k. S k && has (G k r) (ballot_number b)) =
          (below_measure n).monotone _ _ (λ k l e. let x = and_parts (p k) (S k) e in and_from _ _ x.1 (and_parts (T k) _ x.0).1) in
          omega (arith, full.size, (below_measure n).modular p S, below_le n (λ k. p k || S k))
