-- What going on by counts says of them.
use Rattle.std.proofs.Common.{◌≡◌, ℕ, ◌*◌, ◌<◌, ◌≤◌, ◌↔◌, Bool, true, false, cond, ltb, Some, None, Option, sym, refl, ap, ◌∙◌, subst, inl, inr, ⊎_elim, arith}
use Rattle.std.proofs.lemmas.Bool.{cases_lt, ltb-true, ltb-false}
use Rattle.std.proofs.lemmas.Bool.Decides.{nat_tests}
use Rattle.protocol.specs.Numbers.{ballot_number, vote, proposal}
use Rattle.protocol.specs.declared.votes.Side.{Side}
use Rattle.protocol.specs.declared.votes.Side.TheVariants.{Keep, Release}
use Rattle.protocol.specs.declared.votes.Ballot.{Ballot}
use Rattle.protocol.specs.declared.votes.Ballot.TheVariants.{Open}
use Rattle.protocol.specs.declared.votes.Kind.{Kind}
use Rattle.protocol.specs.declared.votes.Kind.TheVariants.{First, Second, Third}
use Rattle.protocol.specs.Phases.{kind}
use Rattle.consensus.specs.Rounds.{BallotMap, tally, Allows}
use Rattle.consensus.specs.Validity.{Quorum}
use Rattle.consensus.proofs.Sides.{both_sides}
use Rattle.consensus.proofs.Steps.{one_side}
use Rattle.cases.specs.Steps.{side_above, forced_side, proposed, voted, step_by, Says}
use Rattle.cases.specs.declared.steps.Progress.{Progress}

module _ (count : Ballot → ℕ) where
  module _ (bound : ℕ) where
    above_some : (v : Side) → side_above bound count ≡ Some v → bound < count (proposal v)
    above_some Keep e = grind (arith, nat_tests)
    above_some Release e = grind (arith, nat_tests)

    above_none : side_above bound count ≡ None → (v : Side) → count (proposal v) ≤ bound
    above_none e Keep = grind (arith, nat_tests)
    above_none e Release = grind (arith, nat_tests)

  module _ (n t : ℕ) where
    second_allowed : Allows n t Second count (ballot_number (proposed n count))
    second_allowed = go (ltb n (2 * count (vote Keep))) (ltb n (2 * count (vote Release))) refl refl
      where
        go : (a b : Bool) → ltb n (2 * count (vote Keep)) ≡ a → ltb n (2 * count (vote Release)) ≡ b → Allows n t Second count (ballot_number (cond a (proposal Keep) (cond b (proposal Release) Open)))
        go true b x y = inl (Keep, ltb-true _ _ x, refl)
        go false true x y = inl (Release, ltb-true _ _ y, refl)
        go false false x y = inr (both_sides (λ v. 2 * count (vote v) ≤ n) (ltb-false _ _ x) (ltb-false _ _ y), refl)

    third_allowed : (b : Ballot) → voted (forced_side t count) ≡ Some b → Allows n t Third count (ballot_number b)
    third_allowed b e = go (forced_side t count) refl e
      where
        go : (o : Option Side) → forced_side t count ≡ o → voted o ≡ Some b → Allows n t Third count (ballot_number b)
        go None x h = absurd cc
        go (Some v) x h = let same : vote v ≡ b = cc in inl (v, above_some t v x, sym (ap ballot_number same))

    next_allowed : (q : Kind) (b : Ballot) → (step_by n t q count).next ≡ Some b → Allows n t q count (ballot_number b)
    unfolding step_by
    next_allowed First b e = let same : vote _ ≡ b = cc in sym (ap ballot_number same)
    next_allowed Second b e = let same : proposed n count ≡ b = cc in subst (λ (d : Ballot). Allows n t Second count (ballot_number d)) same second_allowed
    next_allowed Third b e = third_allowed b e

    voted_none : (o : Option Side) → voted o ≡ None → o ≡ None
    voted_none None e = refl
    voted_none (Some v) e = absurd cc

    next_tossed : (q : Kind) → (step_by n t q count).next ≡ None → (q ≡ Third) × ((v : Side) → count (proposal v) ≤ t) × ((v : Side) → Allows n t q count (ballot_number (vote v)))
    unfolding step_by
    next_tossed First e = absurd cc
    next_tossed Second e = absurd cc
    next_tossed Third e = let few = above_none t (voted_none (forced_side t count) e) in (refl, few, λ v. inr (few, (v, refl)))

    next_decides : (q : Kind) (v : Side) → (step_by n t q count).decides ≡ Some v → (q ≡ Third) × (2 * t < count (proposal v))
    unfolding step_by
    next_decides First v e = absurd cc
    next_decides Second v e = absurd cc
    next_decides Third v e = (refl, above_some (2 * t) v e)

    next_forces : (q : Kind) (v : Side) → (step_by n t q count).forced ≡ Some v → (q ≡ Third) × (t < count (proposal v))
    unfolding step_by
    next_forces First v e = absurd cc
    next_forces Second v e = absurd cc
    next_forces Third v e = (refl, above_some t v e)

    next_forced : (q : Kind) (v : Side) → (step_by n t q count).forced ≡ Some v → (step_by n t q count).next ≡ Some (vote v)
    unfolding step_by
    next_forced First v e = absurd cc
    next_forced Second v e = absurd cc
    next_forced Third v e = ap voted e

    next_unforced : (q : Kind) → q ≡ Third → (step_by n t q count).forced ≡ None → ((v : Side) → count (proposal v) ≤ t) × ((step_by n t q count).next ≡ None)
    unfolding step_by
    next_unforced First x e = absurd cc
    next_unforced Second x e = absurd cc
    next_unforced Third x e = (above_none t e, ap voted e)

    next_undecided : (q : Kind) → q ≡ Third → (step_by n t q count).decides ≡ None → (v : Side) → count (proposal v) ≤ 2 * t
    unfolding step_by
    next_undecided First x e = absurd cc
    next_undecided Second x e = absurd cc
    next_undecided Third x e = above_none (2 * t) e

  -- where no two sides are above a bound, the side that is told is the one that is
  told_exactly : (bound : ℕ) → ((u v : Side) → bound < count (proposal u) → bound < count (proposal v) → u ≡ v) → (o : Option Side) → ((u : Side) → o ≡ Some u → bound < count (proposal u)) → (o ≡ None → (u : Side) → count (proposal u) ≤ bound) → (v : Side) → bound < count (proposal v) → o ≡ Some v
  told_exactly bound alone None above none v l = absurd (omega (arith, none refl v))
  told_exactly bound alone (Some u) above none v l = ap Some (alone u v (above u refl) l)

-- going on by a full set says what the set says
module _ (n t : ℕ) (G : BallotMap) (q : ℕ) (S : ℕ → Bool) (full : Quorum n t G q S) where
  abbrev count_in : Ballot → ℕ
  count_in = tally n G q S

  abbrev by : Progress
  by = step_by n t (kind q) count_in

  one_forced : (u v : Side) → t < count_in (proposal u) → t < count_in (proposal v) → u ≡ v
  one_forced u v = (one_side n t G q).forced S S u v full full

  forced_exactly : (v : Side) → (by.forced ≡ Some v) ↔ ((kind q ≡ Third) × (t < count_in (proposal v)))
  forced_exactly v = (
    next_forces count_in n t (kind q) v,
    λ x. told_exactly count_in t one_forced by.forced (λ u e. (next_forces count_in n t (kind q) u e).1) (λ e. (next_unforced count_in n t (kind q) x.0 e).0) v x.1,
  )

  decides_exactly : (v : Side) → (by.decides ≡ Some v) ↔ ((kind q ≡ Third) × (2 * t < count_in (proposal v)))
  decides_exactly v = (
    next_decides count_in n t (kind q) v,
    λ x. told_exactly count_in (2 * t) (λ u w l m. one_forced u w (omega arith) (omega arith)) by.decides (λ u e. (next_decides count_in n t (kind q) u e).1) (next_undecided count_in n t (kind q) x.0) v x.1,
  )

  pub says : Says n t G q S by
  says = record {
    quorum = full;
    next = next_allowed count_in n t (kind q);
    tossed = next_tossed count_in n t (kind q);
    forced = forced_exactly;
    forced_next = next_forced count_in n t (kind q);
    unforced = λ third e. (next_unforced count_in n t (kind q) third e).1;
    decides = decides_exactly;
  }

-- where no side is told, none has more proposals than the bound
few_of : (o : Option Side) (third : Type 0) (bound : ℕ) (count : Side → ℕ) → third → ((v : Side) → (o ≡ Some v) ↔ (third × (bound < count v))) → o ≡ None → (v : Side) → count v ≤ bound
few_of o third bound count x exactly none v =
    ⊎_elim (λ (l : bound < count v). let told = (exactly v).1 (x, l) in let e : Some v ≡ None = sym told ∙ none in absurd cc) (λ (l : count v ≤ bound). l) (cases_lt bound (count v))

module _ {n t q : ℕ} {G : BallotMap} {S : ℕ → Bool} {s : Progress} (is : Says n t G q S s) (third : kind q ≡ Third) where
  pub few_forced : s.forced ≡ None → (v : Side) → tally n G q S (proposal v) ≤ t
  few_forced none = few_of s.forced (kind q ≡ Third) t (λ v. tally n G q S (proposal v)) third is.forced none

  pub few_decided : s.decides ≡ None → (v : Side) → tally n G q S (proposal v) ≤ 2 * t
  few_decided none = few_of s.decides (kind q ≡ Third) (2 * t) (λ v. tally n G q S (proposal v)) third is.decides none
