-- How a process goes on, by the rows that the code makes and by the sets of the rule.
use Rattle.std.proofs.Common.{◌≡◌, ℕ, zero, suc, ◌-◌, ◌<◌, ◌≤◌, Bool, true, false, cond, ◌&&◌, ltb, leb, List, count_by, is_some, Some, None, Option, sym, refl, ap, ◌∙◌, subst, ⊎_elim, arith}
use Rattle.std.proofs.lemmas.Bool.{both_ways, and_parts, and_from, and_right, and_cases, cond-true, cond-false, cases_Bool, cases_lt, le-leb, lt-leb, leb-true, leb-false, ltb-true, lt-ltb}
use Rattle.std.proofs.lemmas.Option.{cond_some}
use Rattle.protocol.specs.Counting.{below}
use Rattle.protocol.specs.Numbers.{ballot_number}
use Rattle.protocol.specs.declared.votes.Ballot.{Ballot}
use Rattle.protocol.proofs.Counting.{below_suc, below_zero, below_past, below_grows, below_monotone}
use Rattle.plan.specs.declared.plans.Plan.{Plan}
use Rattle.memory.proofs.Counting.{count_places}
use Rattle.memory.specs.Contents.{Held, case_at}
use Rattle.memory.specs.declared.records.CaseRecord.{CaseRecord}
use Rattle.memory.specs.Places.{case_place, case_place_of}
use Rattle.protocol.specs.Phases.{kind}
use Rattle.consensus.specs.Rounds.{BallotMap}
use Rattle.consensus.specs.Validity.{Valid, Quorum, lowest}
use Rattle.consensus.proofs.Advancing.{advances}
use Rattle.ballots.specs.Places.{ballots_at, covers, valid_at}
use Rattle.ballots.specs.Tallies.{ballot_in, counts, part, among, Holds}
use Rattle.ballots.specs.Votes.{Exactly}
use Rattle.ballots.specs.declared.tallies.ByBallot.{ByBallot}
use Rattle.ballots.proofs.Counts.{counts_past}
use Rattle.ballots.proofs.Reading.{covered, holds_is, votes_behind, none_behind}
use Rattle.ballots.proofs.Sets.{amount_alike}
use Rattle.ballots.proofs.Theorem.{exact}
use Rattle.cases.specs.Steps.{stands, round_at, voters, may_advance, chosen, chosen_counts, step_by, step_at, Says, OfLowest, GoesBy, FollowsBallots}
use Rattle.cases.specs.declared.steps.Progress.{Progress}
use Rattle.cases.proofs.Lowest.{none_chosen}
use Rattle.cases.proofs.Sides.{says}

some_stands : (o : Option Ballot) → is_some o ≡ true → (b : Ballot) × (o ≡ Some b)
some_stands None e = absurd cc
some_stands (Some b) e = (b, refl)

-- who passes the test and is not among the m lowest is above all of these
above_lowest : (m : ℕ) (p : ℕ → Bool) (j k : ℕ) → lowest m p j ≡ true → lowest m p k ≡ false → p k ≡ true → j < k
unfolding lowest
above_lowest m p j k in_it out_of_it passes =
    ⊎_elim (λ (l : j < k). l) (λ (l : k ≤ j).
    let few = ltb-true _ _ (and_parts (p j) _ in_it).1 in
    absurd (both_ways _ out_of_it (and_from _ _ passes (lt-ltb (below k p) m (omega (arith, few, below_grows p k j l))))))
    (cases_lt j k)

module _ (plan : Plan) (h : Held) (i c : ℕ) where
  abbrev G : BallotMap
  G = ballots_at plan h i c

  abbrev r : ℕ
  r = round_at plan h i c

  behind : (k : ℕ) → plan.n ≤ k → valid_at plan h i c r k ≡ None
  behind k l = none_chosen (covers plan h i c r) _ (votes_behind plan.n plan.t G (r - 1) k (none_behind plan h i c k (r - 1) l))

  no_voters : covers plan h i c r ≡ false → below plan.n (voters plan h i c) ≡ 0
  no_voters e = below_zero plan.n (voters plan h i c) (λ k l. ap is_some (cond-false (covers plan h i c r) _ None e))

  many_covered : plan.n - plan.t ≤ below plan.n (voters plan h i c) → covers plan h i c r ≡ true
  many_covered many = ⊎_elim (λ (x : covers plan h i c r ≡ true). x) (λ (x : covers plan h i c r ≡ false). absurd (omega (arith, no_voters x, plan.tolerated))) (cases_Bool (covers plan h i c r))

  voters_exact : covers plan h i c r ≡ true → (k : ℕ) → Exactly (Valid plan.n plan.t G (r - 1) k) (valid_at plan h i c r k)
  voters_exact e k = subst (Exactly (Valid plan.n plan.t G (r - 1) k)) (sym (cond-true (covers plan h i c r) _ None e)) (exact plan.n plan.t G (r - 1) k)

  voter_covered : (k : ℕ) → voters plan h i c k ≡ true → covers plan h i c r ≡ true
  voter_covered k e = ⊎_elim (λ (x : covers plan h i c r ≡ true). x) (λ (x : covers plan h i c r ≡ false). absurd (both_ways _ (ap is_some (cond-false (covers plan h i c r) _ None x)) e)) (cases_Bool (covers plan h i c r))

  voter_valid : (k : ℕ) → voters plan h i c k ≡ true → (b : ℕ) × Valid plan.n plan.t G (r - 1) k b
  voter_valid k e = let o = some_stands (valid_at plan h i c r k) e in (ballot_number o.0, (voters_exact (voter_covered k e) k).sound o.0 o.1)

  valid_voter : covers plan h i c r ≡ true → (k b : ℕ) → Valid plan.n plan.t G (r - 1) k b → voters plan h i c k ≡ true
  valid_voter e k b v = ap is_some ((voters_exact e k).full b v).2

  -- the rows that the code makes
  module _ (row : List (Option Ballot)) (held_row : Holds (valid_at plan h i c r) row) where
    row_voters : count_by is_some row ≡ below plan.n (voters plan h i c)
    row_voters = count_places is_some None row 16 held_row.size ∙ ap (λ (g : ℕ → Option Ballot). below 16 (stands g)) (holds_is _ row held_row) ∙ below_past 16 plan.n (voters plan h i c) plan.few (λ k l. ap is_some (behind k l))

    row_counts : (picked : List (Option Ballot)) → covers plan h i c r ≡ true → Holds (among (lowest (plan.n - plan.t) (stands (ballot_in row))) (ballot_in row)) picked → part (counts 16 (ballot_in picked)) ≡ chosen_counts plan h i c
    unfolding lowest
    row_counts picked e x =
        let S = chosen plan h i c in
        let g = valid_at plan h i c r in
        ap (λ (f : ℕ → Option Ballot). part (counts 16 f)) (holds_is _ picked x ∙ ap (λ (f : ℕ → Option Ballot). among (lowest (plan.n - plan.t) (stands f)) f) (holds_is _ row held_row))
        ∙ ap part (counts_past 16 plan.n (among S g) plan.few (λ k l. none_chosen (S k) (g k) (behind k l)))
        ∙ amount_alike plan.n plan.t G (r - 1) g (voters_exact e) S (λ k l m. some_stands (g k) (and_parts (voters plan h i c k) _ m).0)

  -- the code's way: a round that was read, a row, and the ballots that were chosen from it
  module _ (q m : ℕ) (row : List (Option Ballot)) (now : q ≡ r) (size : m ≡ plan.n - plan.t) (held_row : Holds (valid_at plan h i c q) row) where
    here : Holds (valid_at plan h i c r) row
    here = subst (λ (p : ℕ). Holds (valid_at plan h i c p) row) now held_row

    pub stays : count_by is_some row < m → None ≡ step_at plan h i c
    stays l = sym (cond-false (may_advance plan h i c) _ None (and_right (covers plan h i c r) _ (lt-leb _ _ (omega (arith, row_voters row here)))))

    many : m ≤ count_by is_some row → plan.n - plan.t ≤ below plan.n (voters plan h i c)
    many l = omega (arith, row_voters row here)

    pub opened : m ≤ count_by is_some row → 1 ≤ q
    opened l = omega (arith, (covered plan h i c r (many_covered (many l))).first)

    pub goes :
        (picked : List (Option Ballot)) (x : ByBallot ℕ) (s : Progress)
        → m ≤ count_by is_some row
        → Holds (among (lowest m (stands (ballot_in row))) (ballot_in row)) picked
        → x ≡ counts 16 (ballot_in picked)
        → s ≡ step_by plan.n plan.t (kind (q - 1)) (part x)
        → Some s ≡ step_at plan h i c
    goes picked x s l y e f =
        let y_here = subst (λ (p : ℕ). Holds (among (lowest p (stands (ballot_in row))) (ballot_in row)) picked) size y in
        let counted = ap part e ∙ row_counts row here picked (many_covered (many l)) y_here in
        ap Some (f ∙ (λ j. step_by plan.n plan.t (kind (now j - 1)) (counted j)))
        ∙ sym (cond-true (may_advance plan h i c) _ None (and_from _ _ (many_covered (many l)) (le-leb _ _ (many l))))

  -- the round that is read is the one of the case record
  pub at_round : (at q : ℕ) (x : CaseRecord) → Some at ≡ case_place_of plan i c → x ≡ case_at h at → q ≡ x.round → q ≡ r
  at_round at q x e f g = g ∙ ap (λ (y : CaseRecord). y.round) f ∙ ap (λ (p : ℕ). (case_at h p).round) (go (ltb i plan.n && ltb c plan.cases) e)
    where
      go : (b : Bool) → Some at ≡ cond b (Some (case_place plan i c)) None → at ≡ case_place plan i c
      go true y = cc
      go false y = absurd cc

  abbrev by : Progress
  by = step_by plan.n plan.t (kind (r - 1)) (chosen_counts plan h i c)

  may_none : (m : Bool) → cond m (Some by) None ≡ None → m ≡ false
  may_none true e = absurd cc
  may_none false e = refl

  may_parts : may_advance plan h i c ≡ true → (covers plan h i c r ≡ true) × (plan.n - plan.t ≤ below plan.n (voters plan h i c))
  may_parts e = let a = and_parts (covers plan h i c r) _ e in (a.0, leb-true _ _ a.1)

  says_chosen : plan.n - plan.t ≤ below plan.n (voters plan h i c) → Says plan.n plan.t G (r - 1) (chosen plan h i c) by
  says_chosen many = says plan.n plan.t G (r - 1) (chosen plan h i c) (advances plan.n plan.t G (r - 1) (voters plan h i c) (λ k l e. voter_valid k e) many).quorum

  none_full : may_advance plan h i c ≡ false → covers plan h i c r ≡ true → (S : ℕ → Bool) → Quorum plan.n plan.t G (r - 1) S → ⊥
  none_full e is S full = ⊎_elim (λ x. both_ways _ x is) (λ x. omega (arith, full.size, leb-false _ _ x, below_monotone plan.n S (voters plan h i c) (λ k l m. let v = full.member k l m in valid_voter is k v.0 v.1))) (and_cases (covers plan h i c r) (leb (plan.n - plan.t) (below plan.n (voters plan h i c))) e)

  lowest_chosen : covers plan h i c r ≡ true → OfLowest plan.n plan.t G (r - 1) (chosen plan h i c)
  lowest_chosen e j k b in_it out_of_it valid = above_lowest (plan.n - plan.t) (voters plan h i c) j k in_it out_of_it (valid_voter e k b valid)

  goes_chosen : may_advance plan h i c ≡ true → GoesBy plan h i c (chosen plan h i c) by
  goes_chosen e =
      let may = may_parts e in
      let round = covered plan h i c r may.0 in
      record { opened = round.first; unended = round.last; lowest = lowest_chosen may.0; says = says_chosen may.1 }

  law_at : FollowsBallots plan h i c (step_at plan h i c)
  law_at = record {
    voting = valid_voter;
    valid = voter_valid;
    covered = λ s e. (may_parts (cond_some (may_advance plan h i c) by s e).0).0;
    goes = λ s e. let x = cond_some (may_advance plan h i c) by s e in subst (GoesBy plan h i c (chosen plan h i c)) x.1 (goes_chosen x.0);
    none = λ e. none_full (may_none (may_advance plan h i c) e);
  }

  pub law : (o : Option Progress) → o ≡ step_at plan h i c → FollowsBallots plan h i c o
  law o e = subst (FollowsBallots plan h i c) (sym e) law_at
