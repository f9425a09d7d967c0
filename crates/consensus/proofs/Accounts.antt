-- What follows for one case from how correct processes went through its rounds. Rounds count from 0
-- here.
use Rattle.std.proofs.Common.{◌≡◌, ℕ, zero, suc, ◌<◌, ◌≤◌, Bool, true, false, ◌⊎◌, Some, None, Option, sym, refl, ◌∙◌, subst, inl, inr, ⊎_elim, arith}
use Rattle.std.proofs.lemmas.Bool.{both_ways, cases_Bool, cases_lt}
use Rattle.agreement.proofs.Bodies.{none_some}
use Rattle.agreement.proofs.Counts.{below_measure}
use Rattle.protocol.specs.declared.votes.Side.{Side}
use Rattle.protocol.specs.Numbers.{ballot_number, vote}
use Rattle.protocol.specs.declared.votes.Kind.TheVariants.{Third}
use Rattle.protocol.specs.Phases.{kind}
use Rattle.consensus.specs.Rounds.{BallotMap, tally, Forces, DecidesFor, Allows}
use Rattle.protocol.specs.Faults.{CorrectOf}
use Rattle.consensus.specs.Validity.{Quorum, Justified, Part, Resilient}
use Rattle.consensus.specs.Decisions.{Tossed}
use Rattle.consensus.specs.Maps.{AcceptedAlike, OwnDecisions, DecidesBy}
use Rattle.consensus.proofs.Sides.{third_late}
use Rattle.consensus.proofs.Steps.{all_kept}
use Rattle.consensus.proofs.Joins.{decisions, going}

-- How a process that has accepted A left round q: by a set, which forced and decided the sides that
-- are told. Its next ballot after a third round was the forced side or the coin's.
pub record Left (n t : ℕ) (A : BallotMap) (coin : Side) (q : ℕ) (next : Option ℕ) (forced decided : Side → Type 0) : Type 0 where
  -- the set, and that its ballots are valid
  pub by : ℕ → Bool
  pub quorum : Quorum n t A q by
  -- what is said after a third round: the side that the set forces, or the coin's
  pub tossed : kind q ≡ Third → (b : ℕ) → next ≡ Some b → Tossed t (tally n A q by) coin b
  -- a side is told as forced if the set forces it, and one is told if it forces any
  pub forces : (v : Side) → forced v → Forces t (tally n A q by) v
  pub forced_some : kind q ≡ Third → (v : Side) → Forces t (tally n A q by) v → (u : Side) × forced u
  -- and so it is with what is decided, in third rounds only
  pub third : (v : Side) → decided v → kind q ≡ Third
  pub decides : (v : Side) → decided v → DecidesFor t (tally n A q by) v
  pub decided_some : kind q ≡ Third → (v : Side) → DecidesFor t (tally n A q by) v → (u : Side) × decided u

-- Process o has accepted own o, said said o r in round r, and is in the last of rounds o rounds;
-- coin o r is what it would toss in round r, and forced o r and decided o r are told of it.
pub record Account (n t last : ℕ) (faulty : ℕ → Bool) (coin : ℕ → ℕ → Side) (own : ℕ → BallotMap) (said : ℕ → ℕ → Option ℕ) (rounds : ℕ → ℕ) (forced decided : ℕ → ℕ → Side → Type 0) : Type 0 where
  -- correct processes accept alike, and of one another what was said
  pub alike : AcceptedAlike n faulty own
  pub honest : (i o r b : ℕ) → CorrectOf n faulty i → CorrectOf n faulty o → own i o r ≡ Some b → said o r ≡ Some b
  -- in each round up to its own a process said a ballot that it may say, and none in a later one
  pub spoke : (o r : ℕ) → CorrectOf n faulty o → r < rounds o → r < last → (b : ℕ) × (said o r ≡ Some b) × Justified n t (own o) r b
  pub unsaid : (o r : ℕ) → CorrectOf n faulty o → rounds o ≤ r → said o r ≡ None
  -- and it left each round before its own by a set
  pub left : (o r : ℕ) → CorrectOf n faulty o → suc r < rounds o → Left n t (own o) (coin o r) r (said o (suc r)) (forced o r) (decided o r)

-- What follows of an account.
pub record Outcomes (n t last : ℕ) (faulty : ℕ → Bool) (coin : ℕ → ℕ → Side) (own : ℕ → BallotMap) (said : ℕ → ℕ → Option ℕ) (rounds : ℕ → ℕ) (forced decided : ℕ → ℕ → Side → Type 0) : Type 0 where
  -- Correct processes decide one side.
  pub agreement : (i j q r : ℕ) (u v : Side) → CorrectOf n faulty i → CorrectOf n faulty j → suc q < rounds i → suc r < rounds j → decided i q u → decided j r v → u ≡ v
  -- If all of them voted for v, it is v.
  pub validity : (v : Side) → ((o b : ℕ) → CorrectOf n faulty o → said o 0 ≡ Some b → b ≡ ballot_number (vote v)) → (i q : ℕ) (u : Side) → CorrectOf n faulty i → suc q < rounds i → decided i q u → u ≡ v
  -- If round r forced them to no side but c, which the coin shows each of them, they decide c in
  -- every later third round.
  pub luck : (r : ℕ) (c : Side) → kind r ≡ Third → ((o : ℕ) → CorrectOf n faulty o → coin o r ≡ c) → ((o : ℕ) (v : Side) → CorrectOf n faulty o → suc r < rounds o → forced o r v → v ≡ c) → (j q : ℕ) → CorrectOf n faulty j → kind q ≡ Third → suc r < q → suc q < rounds j → decided j q c
  -- If each of them has all that the others accepted and said, and none can leave its round, and
  -- all have begun, then all are past the last round.
  pub ending : ((i k : ℕ) → CorrectOf n faulty i → CorrectOf n faulty k → Part (own k) (own i)) → ((i k r b : ℕ) → CorrectOf n faulty i → CorrectOf n faulty k → r < last → said k r ≡ Some b → own i k r ≡ Some b) → ((i r : ℕ) (S : ℕ → Bool) → CorrectOf n faulty i → rounds i ≡ suc r → r < last → Quorum n t (own i) r S → ⊥) → ((i : ℕ) → CorrectOf n faulty i → 0 < rounds i) → (i : ℕ) → CorrectOf n faulty i → last < rounds i

empty_forces : (n t : ℕ) (A : BallotMap) (r : ℕ) (v : Side) → Forces t (tally n A r (λ _. false)) v → ⊥
unfolding tally
empty_forces n t A r v f = omega (arith, (below_measure n).empty)

module _ (n : ℕ) (faulty : ℕ → Bool) where
  whether : (o : ℕ) → CorrectOf n faulty o ⊎ (CorrectOf n faulty o → ⊥)
  whether o =
      ⊎_elim (λ (l : o < n). ⊎_elim (λ (e : faulty o ≡ true). inr (λ c. both_ways _ c.1 e)) (λ (e : faulty o ≡ false). inl (l, e)) (cases_Bool (faulty o))) (λ (l : n ≤ o). inr (λ c. omega (arith, c.0)))
      (cases_lt o n)

module _ (n t last : ℕ) (faulty : ℕ → Bool) (coin : ℕ → ℕ → Side) (own : ℕ → BallotMap) (said : ℕ → ℕ → Option ℕ) (rounds : ℕ → ℕ) (forced decided : ℕ → ℕ → Side → Type 0) (law : Resilient n t faulty) (account : Account n t last faulty coin own said rounds forced decided) where
  all : OwnDecisions n t faulty own
  all = decisions n t faulty own law account.alike

  decides : (i q : ℕ) (u : Side) (ci : CorrectOf n faulty i) (lt : suc q < rounds i) → decided i q u → DecidesBy n t own i q (account.left i q ci lt).by u
  decides i q u ci lt e = let l = account.left i q ci lt in record { third = l.third u e; quorum = l.quorum; decides = l.decides u e }

  agree : (i j q r : ℕ) (u v : Side) → CorrectOf n faulty i → CorrectOf n faulty j → suc q < rounds i → suc r < rounds j → decided i q u → decided j r v → u ≡ v
  agree i j q r u v ci cj li lj e f = all.agreement i j q r _ _ u v ci cj (decides i q u ci li e) (decides j r v cj lj f)

  valid : (v : Side) → ((o b : ℕ) → CorrectOf n faulty o → said o 0 ≡ Some b → b ≡ ballot_number (vote v)) → (i q : ℕ) (u : Side) → CorrectOf n faulty i → suc q < rounds i → decided i q u → u ≡ v
  valid v votes i q u ci lt e =
      let d = decides i q u ci lt e in
      all.validity 0 q i _ u v refl (λ j o b cj co x. votes o b co (account.honest j o 0 b cj co x)) (third_late q d.third) ci d

  module _ (r : ℕ) (c : Side) (third : kind r ≡ Third) (shared : (o : ℕ) → CorrectOf n faulty o → coin o r ≡ c) (only : (o : ℕ) (v : Side) → CorrectOf n faulty o → suc r < rounds o → forced o r v → v ≡ c) where
    -- the set that process o went by; none if it has not left the round
    record Went (o : ℕ) (S : ℕ → Bool) : Type 0 where
      says : (b : ℕ) → said o (suc r) ≡ Some b → Tossed t (tally n (own o) r S) c b
      forces : (v : Side) → Forces t (tally n (own o) r S) v → v ≡ c

    went : (o : ℕ) → CorrectOf n faulty o → (S : ℕ → Bool) × Went o S
    went o co = ⊎_elim gone here (cases_lt (suc r) (rounds o))
      where
        gone : suc r < rounds o → (S : ℕ → Bool) × Went o S
        gone lt =
            let l = account.left o r co lt in (
              l.by,
              record {
                says = λ b e. subst (λ x. Tossed t (tally n (own o) r l.by) x b) (shared o co) (l.tossed third b e);
                forces = λ v f.
                    let x = l.forced_some third v f in
                    all.forced o o r l.by l.by v x.0 co co l.quorum l.quorum f (l.forces x.0 x.1) ∙ only o x.0 co lt x.1;
              },
            )

        here : rounds o ≤ suc r → (S : ℕ → Bool) × Went o S
        here le = ((λ _. false), record { says = λ b e. absurd (none_some _ b (account.unsaid o (suc r) co le) e); forces = λ v f. absurd (empty_forces n t (own o) r v f) })

    used : (o : ℕ) → (S : ℕ → Bool) × (CorrectOf n faulty o → Went o S)
    used o = ⊎_elim (λ c. let x = went o c in (x.0, λ _. x.1)) (λ x. ((λ _. false), λ c. absurd (x c))) (whether n faulty o)

    lucky : (j q : ℕ) → CorrectOf n faulty j → kind q ≡ Third → suc r < q → suc q < rounds j → decided j q c
    lucky j q cj e later lt =
        let l = account.left j q cj lt in
        let d = all.luck r q j l.by c (λ o. (used o).0) third (record {
          said = λ i o b ci co x. ((used o).1 co).says b (account.honest i o (suc r) b ci co x);
          forced = λ o v co f. ((used o).1 co).forces v f;
        }) later cj e l.quorum in
        let x = l.decided_some e c d.decides in
        subst (decided j q) (all.agreement j j q q _ _ x.0 c cj cj (decides j q x.0 cj lt x.1) d) x.1

  module _ (complete : (i k : ℕ) → CorrectOf n faulty i → CorrectOf n faulty k → Part (own k) (own i)) (delivered : (i k r b : ℕ) → CorrectOf n faulty i → CorrectOf n faulty k → r < last → said k r ≡ Some b → own i k r ≡ Some b) (stuck : (i r : ℕ) (S : ℕ → Bool) → CorrectOf n faulty i → rounds i ≡ suc r → r < last → Quorum n t (own i) r S → ⊥) (opened : (i : ℕ) → CorrectOf n faulty i → 0 < rounds i) where
    held : (m : ℕ) → m < last → ((k : ℕ) → CorrectOf n faulty k → m < rounds k) → (i : ℕ) → CorrectOf n faulty i → rounds i ≤ suc m → ⊥
    held m lt before i ci l =
        let s = going n t faulty own law i m (λ k ck. complete i k ci ck) (λ k ck.
        let x = account.spoke k m ck (before k ck) lt in
        (x.0, x.2, delivered i k m x.0 ci ck lt x.1)) in
        stuck i m s.0 ci (omega (arith, before i ci)) lt s.1.quorum

    past : (m : ℕ) → m ≤ last → (i : ℕ) → CorrectOf n faulty i → m < rounds i
    past zero le i ci = opened i ci
    past (suc m) le i ci =
        ⊎_elim (λ (l : suc m < rounds i). l) (λ (l : rounds i ≤ suc m). absurd (held m (omega arith) (past m (omega arith)) i ci l)) (cases_lt (suc m) (rounds i))

  pub outcomes : Outcomes n t last faulty coin own said rounds forced decided
  outcomes = record {
    agreement = agree;
    validity = valid;
    luck = lucky;
    ending = λ complete delivered stuck opened i ci. past complete delivered stuck opened last (omega arith) i ci;
  }

-- what a process may say, and how it left a round, stands when it accepts more
module _ (n t : ℕ) (A B : BallotMap) (part : Part A B) where
  same_tally : (q : ℕ) (S : ℕ → Bool) → Quorum n t A q S → tally n A q S ≡ tally n B q S
  same_tally q S full = λ i b. (all_kept n t A B part q).tallies S full b i

  pub justified_grows : (q b : ℕ) → Justified n t A q b → Justified n t B q b
  justified_grows zero b j = j
  justified_grows (suc q) b j =
      (j.0, (all_kept n t A B part q).quorums j.0 j.1, subst (λ count. Allows n t (kind q) count b) (same_tally q j.0 j.1) j.2)

  pub left_grows : (coin : Side) (q : ℕ) (next after : Option ℕ) (forced decided forced₁ decided₁ : Side → Type 0) → ((b : ℕ) → after ≡ Some b → next ≡ Some b) → ((v : Side) → forced₁ v → forced v) → ((v : Side) → forced v → forced₁ v) → ((v : Side) → decided₁ v → decided v) → ((v : Side) → decided v → decided₁ v) → Left n t A coin q next forced decided → Left n t B coin q after forced₁ decided₁
  left_grows coin q next after forced decided forced₁ decided₁ same f_in f_out d_in d_out l =
      let counts = same_tally q l.by l.quorum in
      record {
        by = l.by;
        quorum = (all_kept n t A B part q).quorums l.by l.quorum;
        tossed = λ e b x. subst (λ count. Tossed t count coin b) counts (l.tossed e b (same b x));
        forces = λ v x. subst (λ count. Forces t count v) counts (l.forces v (f_in v x));
        forced_some = λ e v x. let u = l.forced_some e v (subst (λ count. Forces t count v) (sym counts) x) in (u.0, f_out u.0 u.1);
        third = λ v x. l.third v (d_in v x);
        decides = λ v x. subst (λ count. DecidesFor t count v) counts (l.decides v (d_in v x));
        decided_some = λ e v x. let u = l.decided_some e v (subst (λ count. DecidesFor t count v) (sym counts) x) in (u.0, d_out u.0 u.1);
      }
