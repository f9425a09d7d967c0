-- From one round to the next.
use Rattle.std.proofs.Common.{◌≡◌, ℕ, zero, suc, ◌-◌, ◌*◌, ◌<◌, ◌≤◌, Bool, true, false, ◌&&◌, Some, sym, refl, ap, ◌∙◌, subst, inl, inr, ⊎_elim, arith}
use Rattle.std.proofs.lemmas.Bool.{cases_lt}
use Rattle.protocol.specs.declared.votes.Side.{Side}
use Rattle.protocol.specs.declared.votes.Ballot.{Ballot}
use Rattle.protocol.specs.Numbers.{ballot_number, vote, proposal}
use Rattle.protocol.proofs.Counting.{below_alike}
use Rattle.protocol.specs.Heard.{has}
use Rattle.protocol.specs.declared.votes.Kind.{Kind}
use Rattle.protocol.specs.declared.votes.Kind.TheVariants.{First, Second, Third}
use Rattle.protocol.specs.Phases.{kind}
use Rattle.consensus.specs.Rounds.{BallotMap, tally, Forces, Most, ahead, Allows, ballot_for}
use Rattle.consensus.specs.Validity.{Valid, Quorum, Justified, Part}
use Rattle.consensus.specs.Decisions.{Grown, OneSide}
use Rattle.consensus.proofs.Sides.{other, vote_side, proposal_side, side_of, not_vote, not_open, not_other, ahead_is, after, kind_after}
use Rattle.consensus.proofs.Tallies.{held, most_meet, valid_sayer, tally_all}

module _ (n t : ℕ) (A G : BallotMap) (part : Part A G) where
  module _ (r : ℕ) (kept : (o b : ℕ) → Valid n t A r o b → Valid n t G r o b) where
    quorum_kept : (S : ℕ → Bool) → Quorum n t A r S → Quorum n t G r S
    quorum_kept S full = record { size = full.size; member = λ k l e. let m = full.member k l e in (m.0, kept k m.0 m.1) }

    tally_kept : (S : ℕ → Bool) → Quorum n t A r S → (b : Ballot) → tally n A r S b ≡ tally n G r S b
    unfolding tally
    tally_kept S full b = below_alike n _ _ (λ k l. go k l (S k) refl)
      where
        go : (k : ℕ) → k < n → (s : Bool) → S k ≡ s → (s && has (A k r) (ballot_number b)) ≡ (s && has (G k r) (ballot_number b))
        go k l false e = refl
        go k l true e =
            let m = full.member k l e in
            let a = held n t A r k m.0 m.1 in
            ap (λ o. has o (ballot_number b)) (a ∙ sym (part k r m.0 a))

    allows_kept : (S : ℕ → Bool) → Quorum n t A r S → (b : ℕ) → Allows n t (kind r) (tally n A r S) b → Allows n t (kind r) (tally n G r S) b
    allows_kept S full b a = subst (λ (count : Ballot → ℕ). Allows n t (kind r) count b) (λ i c. tally_kept S full c i) a

  valid_kept : (r o b : ℕ) → Valid n t A r o b → Valid n t G r o b
  unfolding Valid
  valid_kept zero o b v = (part o zero b v.0, v.1)
  valid_kept (suc r) o b v =
      let S = v.1.0 in
      let full : Quorum n t A r S = v.1.1 in
      (part o (suc r) b v.0, (S, quorum_kept r (valid_kept r) S full, allows_kept r (valid_kept r) S full b v.1.2))

  justified_kept : (r o b : ℕ) → Justified n t A r b → G o r ≡ Some b → Valid n t G r o b
  unfolding Valid
  justified_kept zero o b j e = (e, j)
  justified_kept (suc r) o b j e =
      (e, (j.0, quorum_kept r (valid_kept r) j.0 j.1, allows_kept r (valid_kept r) j.0 j.1 b j.2))

  pub all_kept : (r : ℕ) → Grown n t A G r
  all_kept r =
      record { ballots = valid_kept r; quorums = quorum_kept r (valid_kept r); tallies = tally_kept r (valid_kept r); justified = justified_kept r }

-- the counts of a set of a round of kind q, if it allows no side but v
abbrev pub Carries : ℕ → ℕ → Kind → (Ballot → ℕ) → Side → Type 0
Carries n t First count v = count (vote (other v)) < count (vote v)
Carries n t Second count v = Most n count v × ((u : Side) → Most n count u → u ≡ v)
Carries n t Third count v = Forces t count v × ((u : Side) → Forces t count u → u ≡ v)

pub carried : (n t : ℕ) (q : Kind) (count : Ballot → ℕ) (v : Side) (b : ℕ) → Carries n t q count v → Allows n t q count b → b ≡ ballot_number (ballot_for (after q) v)
carried n t First count v b c a = a ∙ ap (λ u. ballot_number (vote u)) (ahead_is count v c)
carried n t Second count v b c (inl a) = a.2 ∙ ap (λ u. ballot_number (proposal u)) (c.1 a.0 a.1)
carried n t Second count v b c (inr a) = absurd (omega (arith, a.0 v, c.0))
carried n t Third count v b c (inl a) = a.2 ∙ ap (λ u. ballot_number (vote u)) (c.1 a.0 a.1)
carried n t Third count v b c (inr a) = absurd (omega (arith, a.0 v, c.0))

-- n - t ballots for v and none for the other side
pub all_carry : (n t : ℕ) → 3 * t < n → (q : Kind) (count : Ballot → ℕ) (v : Side) → n - t ≤ count (ballot_for q v) → ((u : Side) → 0 < count (ballot_for q u) → u ≡ v) → Carries n t q count v
all_carry n t l First count v many one =
    ⊎_elim (λ (x : 0 < count (vote (other v))). absurd (not_other v (one (other v) x))) (λ (x : count (vote (other v)) ≤ 0). omega arith) (cases_lt 0 (count (vote (other v))))
all_carry n t l Second count v many one = (omega arith, λ u h. one u (omega arith))
all_carry n t l Third count v many one = (omega arith, λ u h. one u (omega arith))

-- only a set of a second round allows a proposal
proposed : (n t : ℕ) (q : Kind) (count : Ballot → ℕ) (u : Side) → Allows n t q count (ballot_number (proposal u)) → Most n count u
proposed n t First count u a = absurd (not_vote u (ahead count) a)
proposed n t Second count u (inl a) = subst (λ (v : Side). Most n count v) (sym (proposal_side u a.0 a.2)) a.1
proposed n t Second count u (inr a) = absurd (not_open u a.1)
proposed n t Third count u (inl a) = absurd (not_vote u a.0 a.2)
proposed n t Third count u (inr a) = absurd (not_vote u a.1.0 a.1.1)

module _ (n t : ℕ) (G : BallotMap) where
  pub allowing : (r o b : ℕ) → Valid n t G (suc r) o b → (S : ℕ → Bool) × Quorum n t G r S × Allows n t (kind r) (tally n G r S) b
  unfolding Valid
  allowing r o b v = v.1

  proposals_alike : (r i j : ℕ) (u v : Side) → Valid n t G r i (ballot_number (proposal u)) → Valid n t G r j (ballot_number (proposal v)) → u ≡ v
  unfolding Valid
  proposals_alike zero i j u v x y = absurd (not_vote u x.1.0 x.1.1)
  proposals_alike (suc r) i j u v x y =
      let p = proposed n t (kind r) (tally n G r x.1.0) u x.1.2 in
      let q = proposed n t (kind r) (tally n G r y.1.0) v y.1.2 in
      vote_side u v (most_meet n t G r x.1.0 y.1.0 (vote u) (vote v) (omega arith))

  pub one_side : (r : ℕ) → OneSide n t G r
  one_side r = record {
    proposals = proposals_alike r;
    forced = λ S T u v s t' f g.
        let x = valid_sayer n t G r S s (proposal u) (omega arith) in
        let y = valid_sayer n t G r T t' (proposal v) (omega arith) in
        proposals_alike r x.0 y.0 u v x.1 y.1;
  }

  -- every valid ballot of round r speaks for v
  abbrev pub Agreed : ℕ → Side → Type 0
  Agreed r v = (o b : ℕ) → Valid n t G r o b → b ≡ ballot_number (ballot_for (kind r) v)

  pub carried_on : (r : ℕ) (v : Side) → ((S : ℕ → Bool) → Quorum n t G r S → Carries n t (kind r) (tally n G r S) v) → Agreed (suc r) v
  carried_on r v h o b x =
      let a = allowing r o b x in
      carried n t (kind r) (tally n G r a.0) v b (h a.0 a.1) a.2 ∙ ap (λ q. ballot_number (ballot_for q v)) (sym (kind_after r))

  module _ (third : 3 * t < n) (v : Side) where
    pub agreed_count : (r : ℕ) → Agreed r v → (S : ℕ → Bool) → Quorum n t G r S → n - t ≤ tally n G r S (ballot_for (kind r) v)
    agreed_count r all S full = tally_all n t G r S full (ballot_for (kind r) v) all

    pub agreed_only : (r : ℕ) → Agreed r v → (S : ℕ → Bool) → Quorum n t G r S → (u : Side) → 0 < tally n G r S (ballot_for (kind r) u) → u ≡ v
    agreed_only r all S full u h =
        let k = valid_sayer n t G r S full (ballot_for (kind r) u) h in
        side_of (kind r) u v (all k.0 _ k.1)

    agreed_next : (r : ℕ) → Agreed r v → Agreed (suc r) v
    agreed_next r all =
        carried_on r v (λ S full. all_carry n t third (kind r) (tally n G r S) v (agreed_count r all S full) (agreed_only r all S full))

    pub agreed_on : (r q : ℕ) → Agreed r v → r ≤ q → Agreed q v
    agreed_on r zero all l = let is : r ≡ 0 = omega arith in subst (λ (k : ℕ). Agreed k v) is all
    agreed_on r (suc q) all l =
        ⊎_elim (λ (x : q < r). let is : r ≡ suc q = omega arith in subst (λ (k : ℕ). Agreed k v) is all) (λ (x : r ≤ q). agreed_next q (agreed_on r q all x)) (cases_lt q r)
