-- One map of what correct processes accepted, and what they decide by their own.
use Rattle.std.proofs.Common.{◌≡◌, ℕ, zero, suc, ◌<◌, ◌≤◌, Bool, true, false, ◌⊎◌, Some, None, Option, refl, ap, ◌∙◌, subst, inl, inr, ⊎_elim, arith}
use Rattle.std.proofs.lemmas.Bool.{both_ways, cases_lt}
use Rattle.agreement.proofs.Bodies.{none_some}
use Rattle.protocol.specs.declared.votes.Side.{Side}
use Rattle.protocol.specs.Numbers.{proposal}
use Rattle.protocol.specs.declared.votes.Kind.TheVariants.{Third}
use Rattle.protocol.specs.Phases.{kind}
use Rattle.consensus.specs.Rounds.{BallotMap, tally}
use Rattle.protocol.specs.Faults.{CorrectOf}
use Rattle.consensus.specs.Validity.{Quorum, Justified, Part, Resilient}
use Rattle.consensus.specs.Decisions.{Grown, Settled, Unanimous, CanAdvance}
use Rattle.consensus.specs.Maps.{AcceptedAlike, Joins, DecidesBy, Votes, Lucky, OwnDecisions}
use Rattle.consensus.proofs.Tallies.{held}
use Rattle.consensus.proofs.Steps.{all_kept, one_side}
use Rattle.consensus.proofs.Advancing.{enough}
use Rattle.consensus.proofs.Theorem.{agreement, settled, lucky}

-- what a correct process has, or else the rest
abbrev choose : Bool → Option ℕ → Option ℕ → Option ℕ
choose true o rest = rest
choose false None rest = rest
choose false (Some b) rest = Some b

chosen : (q : Bool) (o rest : Option ℕ) (b : ℕ) → q ≡ false → o ≡ Some b → choose q o rest ≡ Some b
chosen true o rest b c e = absurd (both_ways true c refl)
chosen false None rest b c e = absurd (none_some None b refl e)
chosen false (Some d) rest b c e = e

left_over : (q : Bool) (o rest : Option ℕ) (b : ℕ) → rest ≡ Some b → (c : ℕ) × (choose q o rest ≡ Some c)
left_over true o rest b e = (b, e)
left_over false None rest b e = (b, e)
left_over false (Some d) rest b e = (d, refl)

choose_from : (q : Bool) (o rest : Option ℕ) (b : ℕ) → choose q o rest ≡ Some b → ((q ≡ false) × (o ≡ Some b)) ⊎ (rest ≡ Some b)
choose_from true o rest b e = inr e
choose_from false None rest b e = inr e
choose_from false (Some d) rest b e = inl (refl, e)

module _ (faulty : ℕ → Bool) (own : ℕ → BallotMap) where
  joined : ℕ → BallotMap
  joined zero o r = None
  joined (suc m) o r = choose (faulty m) (own m o r) (joined m o r)

  joined_some : (m i o r b : ℕ) → CorrectOf m faulty i → own i o r ≡ Some b → (c : ℕ) × (joined m o r ≡ Some c)
  unfolding joined
  joined_some zero i o r b co e = absurd (omega (arith, co.0))
  joined_some (suc m) i o r b co e =
      ⊎_elim (λ (l : i < m). let c = joined_some m i o r b (l, co.1) e in left_over (faulty m) (own m o r) (joined m o r) c.0 c.1) (λ (l : m ≤ i).
      let is : i ≡ m = omega (arith, co.0) in
      (b, chosen (faulty m) (own m o r) (joined m o r) b (subst (λ (k : ℕ). faulty k ≡ false) is co.1) (subst (λ (k : ℕ). own k o r ≡ Some b) is e))) (cases_lt i m)

  joined_from : (m o r b : ℕ) → joined m o r ≡ Some b → (i : ℕ) × CorrectOf m faulty i × (own i o r ≡ Some b)
  unfolding joined
  joined_from zero o r b e = absurd (none_some None b refl e)
  joined_from (suc m) o r b e =
      ⊎_elim (λ x. (m, (omega arith, x.0), x.1)) (λ x. let k = joined_from m o r b x in (k.0, (omega (arith, k.1.0), k.1.1), k.2)) (choose_from (faulty m) (own m o r) (joined m o r) b e)

module _ (n : ℕ) (faulty : ℕ → Bool) (own : ℕ → BallotMap) (alike : AcceptedAlike n faulty own) where
  whole : BallotMap
  whole = joined faulty own n

  joins : Joins n faulty own whole
  unfolding whole
  joins = record {
    part = λ i co o r b e.
        let c = joined_some faulty own n i o r b co e in
        let k = joined_from faulty own n o r c.0 c.1 in
        c.1 ∙ ap Some (alike k.0 i o r c.0 b k.1 co k.2 e);
    from = joined_from faulty own n;
  }

  pub join : (G : BallotMap) × Joins n faulty own G
  join = (whole, joins)

module _ (n t : ℕ) (faulty : ℕ → Bool) (own : ℕ → BallotMap) (law : Resilient n t faulty) (G : BallotMap) (join : Joins n faulty own G) where
  kept : (i r : ℕ) → CorrectOf n faulty i → Grown n t (own i) G r
  kept i r ci = all_kept n t (own i) G (join.part i ci) r

  unanimous : (r : ℕ) (v : Side) → Votes n faulty own r v → Unanimous n t faulty G r v
  unanimous r v all o b co x = let k = join.from o r b (held n t G r o b x) in all k.0 o b k.1 co k.2

  -- by an own set, what is settled is decided, and nothing else
  module _ (q i : ℕ) (S : ℕ → Bool) (v : Side) (ci : CorrectOf n faulty i) (here : Settled n t G q v) where
    settled_own : kind q ≡ Third → Quorum n t (own i) q S → DecidesBy n t own i q S v
    settled_own e full = record {
      third = e;
      quorum = full;
      decides = omega (arith, (kept i q ci).tallies S full (proposal v), here.decided e S ((kept i q ci).quorums S full));
    }

    settled_only : (u : Side) → DecidesBy n t own i q S u → u ≡ v
    settled_only u d =
        here.alone d.third S u ((kept i q ci).quorums S d.quorum) (omega (arith, d.decides, (kept i q ci).tallies S d.quorum (proposal u)))

  own_decisions : OwnDecisions n t faulty own
  own_decisions = record {
    agreement = λ i j q r S T u v ci cj d e.
        agreement n t law.third G (own i) (own j) (join.part i ci) (join.part j cj) q r d.third e.third S T u v d.quorum e.quorum d.decides e.decides;
    forced = λ i j r S T u v ci cj s s₁ f g.
        (one_side n t G r).forced S T u v ((kept i r ci).quorums S s) ((kept j r cj).quorums T s₁) (omega (arith, (kept i r ci).tallies S s (proposal u))) (omega (arith, (kept j r cj).tallies T s₁ (proposal v)));
    validity = λ r q i S u v e all l ci d. settled_only q i S v ci (settled n t G faulty law r v e (unanimous r v all) q l) u d;
    unanimity = λ r q i S v e all l ci f full.
        settled_own q i S v ci (settled n t G faulty law r v e (unanimous r v all) q l) f full;
    luck = λ r q i S c used e lucky l ci f full.
        settled_own q i S c ci (lucky_settled r c used e lucky q l) f full;
  }
    where
      lucky_settled : (r : ℕ) (c : Side) (used : ℕ → ℕ → Bool) → kind r ≡ Third → Lucky n t faulty own r used c → (q : ℕ) → suc r < q → Settled n t G q c
      lucky_settled r c used e l =
          lucky n t G faulty law r c (λ o. tally n (own o) r (used o)) e (λ o b co x. let k = join.from o (suc r) b (held n t G (suc r) o b x) in l.said k.0 o b k.1 co k.2) l.forced

pub decisions : (n t : ℕ) (faulty : ℕ → Bool) (own : ℕ → BallotMap) → Resilient n t faulty → AcceptedAlike n faulty own → OwnDecisions n t faulty own
decisions n t faulty own law alike = own_decisions n t faulty own law (whole n faulty own alike) (joins n faulty own alike)

pub going : (n t : ℕ) (faulty : ℕ → Bool) (own : ℕ → BallotMap) → Resilient n t faulty → (i r : ℕ) → ((k : ℕ) → CorrectOf n faulty k → Part (own k) (own i)) → ((k : ℕ) → CorrectOf n faulty k → (b : ℕ) × Justified n t (own k) r b × (own i k r ≡ Some b)) → (S : ℕ → Bool) × CanAdvance n t (own i) r S
going n t faulty own law i r part said =
    enough n t faulty law (own i) r (λ k ck. let h = said k ck in (h.0, (all_kept n t (own k) (own i) (part k ck) r).justified k h.0 h.1 h.2))
