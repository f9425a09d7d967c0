-- Decisions: what binds them, what they bind, and why they agree.
use Rattle.std.proofs.Common.{◌≡◌, ℕ, suc, ◌-◌, ◌*◌, ◌<◌, ◌≤◌, Bool, sym, refl, ap, ◌∙◌, subst, ⊎_elim, arith}
use Rattle.std.proofs.lemmas.Bool.{cases_lt}
use Rattle.protocol.specs.declared.votes.Side.{Side}
use Rattle.protocol.specs.declared.votes.Ballot.{Ballot}
use Rattle.protocol.specs.Numbers.{ballot_number, vote, proposal}
use Rattle.protocol.specs.declared.votes.Kind.{Kind}
use Rattle.protocol.specs.declared.votes.Kind.TheVariants.{First, Third}
use Rattle.protocol.specs.Phases.{kind}
use Rattle.consensus.specs.Rounds.{BallotMap, tally, Forces, DecidesFor, ballot_for}
use Rattle.protocol.specs.Faults.{CorrectOf}
use Rattle.consensus.specs.Validity.{Valid, Quorum, Part, Resilient}
use Rattle.consensus.specs.Decisions.{Locked, Settled, Unanimous, Tossed}
use Rattle.consensus.proofs.Sides.{other, vote_side, not_other, after, kind_after, third_late}
use Rattle.consensus.proofs.Tallies.{tally_correct, tally_faulty, tally_met}
use Rattle.consensus.proofs.Steps.{all_kept, Carries, one_side, Agreed, carried_on, agreed_count, agreed_only, agreed_on}

third_carries : (n t : ℕ) (q : Kind) (count : Ballot → ℕ) (v : Side) → q ≡ Third → Forces t count v → ((u : Side) → Forces t count u → u ≡ v) → Carries n t q count v
third_carries n t q count v e f one = subst (λ (k : Kind). Carries n t k count v) (sym e) (f, one)

first_carries : (n t : ℕ) (q : Kind) (count : Ballot → ℕ) (v : Side) → q ≡ First → count (vote (other v)) < count (vote v) → Carries n t q count v
first_carries n t q count v e l = subst (λ (k : Kind). Carries n t k count v) (sym e) l

module _ (n t : ℕ) (G : BallotMap) where
  -- every later round than one that has v only
  settled_from : 3 * t < n → (v : Side) (r : ℕ) → Agreed n t G r v → (q : ℕ) → r ≤ q → Settled n t G q v
  settled_from third v r all q l =
      let here = agreed_on n t G third v r q all l in
      let many : kind q ≡ Third → (S : ℕ → Bool) → Quorum n t G q S → n - t ≤ tally n G q S (proposal v) =
      λ e S full. subst (λ (k : Kind). n - t ≤ tally n G q S (ballot_for k v)) e (agreed_count n t G third v q here S full) in
      record {
        ballots = here;
        forced = λ e S full. omega (arith, many e S full);
        decided = λ e S full. omega (arith, many e S full);
        alone = λ e S u full d. agreed_only n t G third v q here S full u (subst (λ (k : Kind). 0 < tally n G q S (ballot_for k u)) (sym e) (omega arith));
      }

  module _ (r : ℕ) (at_third : kind r ≡ Third) (S : ℕ → Bool) (v : Side) (full : Quorum n t G r S) (decides : DecidesFor t (tally n G r S) v) where
    forced_by : (T : ℕ → Bool) → Quorum n t G r T → Forces t (tally n G r T) v
    forced_by T other_full = omega (arith, tally_met n t G r T other_full S (proposal v))

    locked_next : Agreed n t G (suc r) v
    locked_next =
        carried_on n t G r v (λ T f. third_carries n t (kind r) (tally n G r T) v at_third (forced_by T f) (λ u g. (one_side n t G r).forced T T u v f f g (forced_by T f)))

    next_kind : kind (suc r) ≡ First
    next_kind = kind_after r ∙ ap after at_third

    pub locked : Locked n t G r v
    locked = record {
      forced = forced_by;
      next = λ o b x. locked_next o b x ∙ ap (λ k. ballot_number (ballot_for k v)) next_kind;
    }

  module _ (faulty : ℕ → Bool) (law : Resilient n t faulty) where
    pub settled : (r : ℕ) (v : Side) → kind r ≡ First → Unanimous n t faulty G r v → (q : ℕ) → r < q → Settled n t G q v
    settled r v at_first all q l = settled_from law.third v (suc r) (carried_on n t G r v carries) q l
      where
        carries : (S : ℕ → Bool) → Quorum n t G r S → Carries n t (kind r) (tally n G r S) v
        carries S full =
            first_carries n t (kind r) (tally n G r S) v at_first (omega (arith, law.few, law.third, tally_correct n t G r S full faulty (vote v) all, tally_faulty n t G r S full faulty (vote v) all (vote (other v)) (λ e. not_other v (vote_side (other v) v e))))

    pub valid_decision : (A : BallotMap) → Part A G → (v : Side) → Unanimous n t faulty G 0 v → (r : ℕ) → kind r ≡ Third → (S : ℕ → Bool) (u : Side) → Quorum n t A r S → DecidesFor t (tally n A r S) u → u ≡ v
    valid_decision A part v all r e S u full d =
        let x = all_kept n t A G part r in
        (settled 0 v refl all r (third_late r e)).alone e S u (x.quorums S full) (omega (arith, x.tallies S full (proposal u)))

    pub lucky : (r : ℕ) (c : Side) (counts : ℕ → Ballot → ℕ) → kind r ≡ Third → ((o b : ℕ) → CorrectOf n faulty o → Valid n t G (suc r) o b → Tossed t (counts o) c b) → ((o : ℕ) (v : Side) → CorrectOf n faulty o → Forces t (counts o) v → v ≡ c) → (q : ℕ) → suc r < q → Settled n t G q c
    lucky r c counts e tossed same q l = settled (suc r) c (kind_after r ∙ ap after e) unanimous q l
      where
        unanimous : Unanimous n t faulty G (suc r) c
        unanimous o b co x =
            ⊎_elim (λ f. f.2 ∙ ap (λ v. ballot_number (vote v)) (same o f.0 co f.1)) (λ f. f.1) (tossed o b co x)

module _ (n t : ℕ) (third : 3 * t < n) (G : BallotMap) where
  -- of two decisions the later one follows the earlier
  in_turn : (q r : ℕ) → kind q ≡ Third → kind r ≡ Third → q ≤ r → (S T : ℕ → Bool) (u v : Side) → Quorum n t G q S → Quorum n t G r T → DecidesFor t (tally n G q S) u → DecidesFor t (tally n G r T) v → v ≡ u
  in_turn q r e f l S T u v s s₁ d d₁ =
      ⊎_elim (λ (x : q < r). (settled_from n t G third u (suc q) (locked_next n t G q e S u s d) r (omega arith)).alone f T v s₁ d₁) (λ (x : r ≤ q). let is : q ≡ r = omega arith in (one_side n t G r).forced T T v u s₁ s₁ (omega arith) (subst (λ (k : ℕ). (T : ℕ → Bool) → Quorum n t G k T → Forces t (tally n G k T) u) is (forced_by n t G q e S u s d) T s₁)) (cases_lt q r)

  whole : (q r : ℕ) → kind q ≡ Third → kind r ≡ Third → (S T : ℕ → Bool) (u v : Side) → Quorum n t G q S → Quorum n t G r T → DecidesFor t (tally n G q S) u → DecidesFor t (tally n G r T) v → u ≡ v
  whole q r e f S T u v s s₁ d d₁ =
      ⊎_elim (λ (x : q < r). sym (in_turn q r e f (omega arith) S T u v s s₁ d d₁)) (λ (x : r ≤ q). in_turn r q f e x T S v u s₁ s d₁ d) (cases_lt q r)

  pub agreement : (A B : BallotMap) → Part A G → Part B G → (q r : ℕ) → kind q ≡ Third → kind r ≡ Third → (S T : ℕ → Bool) (u v : Side) → Quorum n t A q S → Quorum n t B r T → DecidesFor t (tally n A q S) u → DecidesFor t (tally n B r T) v → u ≡ v
  agreement A B a b q r e f S T u v s s₁ d d₁ =
      let x = all_kept n t A G a q in
      let y = all_kept n t B G b r in
      whole q r e f S T u v (x.quorums S s) (y.quorums T s₁) (omega (arith, x.tallies S s (proposal u))) (omega (arith, y.tallies T s₁ (proposal v)))
