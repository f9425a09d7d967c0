-- What is known of a case at one process after a run.
use Rattle.std.proofs.Common.{◌≡◌, ℕ, zero, suc, ◌*◌, ◌/◌, ◌<◌, ◌≤◌, Bool, ◌⊎◌, List, ◌∷◌, Some, None, Option, sym, refl, ap, ◌∙◌, subst, inl, inr, ⊎_elim, arith}
use Rattle.std.proofs.lemmas.Bool.{and_from, eq-eqb, cond-true, cases_lt}
use Rattle.protocol.specs.Numbers.{ballot_number, vote}
use Rattle.protocol.specs.declared.messages.Subject.TheVariants.{Ballot}
use Rattle.protocol.specs.declared.votes.Ballot as votes
use Rattle.protocol.specs.declared.votes.Side.{Side}
use Rattle.protocol.specs.declared.votes.Side.TheVariants.{Keep, Release}
use Rattle.agreement.proofs.Bodies.{none_some, some_once}
use Rattle.plan.specs.Kinds.{Line}
use Rattle.memory.specs.Contents.{Held, case_at}
use Rattle.memory.specs.Places.{case_place}
use Rattle.protocol.specs.declared.votes.Kind.TheVariants.{Third}
use Rattle.protocol.specs.Phases.{kind}
use Rattle.consensus.specs.Rounds.{BallotMap, tally, Allows}
use Rattle.consensus.specs.Validity.{Justified, Part}
use Rattle.consensus.specs.Decisions.{Tossed}
use Rattle.consensus.proofs.Accounts.{Left, justified_grows, left_grows}
use Rattle.ballots.specs.Places.{ballots_at}
use Rattle.cases.specs.Steps.{round_at, Says}
use Rattle.cases.specs.declared.steps.Progress.{Progress}
use Rattle.agreement.specs.Runs.{State}
use Rattle.cases.proofs.Sides.{few_forced, few_decided}
use Rattle.rules.specs.Turns.{said, decision_after, Coin}
use Rattle.rules.specs.Runs.{Event, opened, advanced, Told, Opening, Advancing}
use Rattle.rules.proofs.Told.{decision_of}

-- process i left round r of case c by ballots that force v, that decide v
abbrev pub ForcedAt : List Event → ℕ → ℕ → ℕ → Side → Type 0
ForcedAt es i c r v = (x : Option Side) × Told (Advancing i c r (Some v) x) es

abbrev pub DecidedAt : List Event → ℕ → ℕ → ℕ → Side → Type 0
DecidedAt es i c r v = (f : Option Side) × Told (Advancing i c r f (Some v)) es

pub record CaseShown (line : Line) (coin : Coin) (es : List Event) (h : Held) (st : State) (i c : ℕ) : Type 0 where
  pub unsaid : (q : ℕ) → round_at line.plan h i c ≤ q → st.said (Ballot i c (suc q)) ≡ None
  pub spoke : (q : ℕ) → q < round_at line.plan h i c → q < 3 * line.plan.phases → (b : ℕ) × (st.said (Ballot i c (suc q)) ≡ Some b) × Justified line.plan.n line.plan.t (ballots_at line.plan h i c) q b
  pub left : (q : ℕ) → suc q < round_at line.plan h i c → Left line.plan.n line.plan.t (ballots_at line.plan h i c) (coin i c (suc q / 3)) q (st.said (Ballot i c (suc (suc q)))) (ForcedAt es i c (suc q)) (DecidedAt es i c (suc q))
  pub bound : (r : ℕ) (f x : Option Side) → Told (Advancing i c r f x) es → (1 ≤ r) × (r < round_at line.plan h i c)
  pub gone : (r : ℕ) → 1 ≤ r → r < round_at line.plan h i c → (f x : Option Side) × Told (Advancing i c r f x) es
  pub decision : (case_at h (case_place line.plan i c)).decision ≡ decision_of es i c
  pub votes : (v : Side) → Told (Opening i c v) es → st.said (Ballot i c 1) ≡ Some (ballot_number (vote v))
  pub voted : (v : Side) → st.said (Ballot i c 1) ≡ Some (ballot_number (vote v)) → Told (Opening i c v) es

-- es and later tell the same of case c at process i
pub record Tale (es later : List Event) (i c : ℕ) : Type 0 where
  pub advance_in : (r : ℕ) (f x : Option Side) → Told (Advancing i c r f x) later → Told (Advancing i c r f x) es
  pub advance_out : (r : ℕ) (f x : Option Side) → Told (Advancing i c r f x) es → Told (Advancing i c r f x) later
  pub open_in : (v : Side) → Told (Opening i c v) later → Told (Opening i c v) es
  pub open_out : (v : Side) → Told (Opening i c v) es → Told (Opening i c v) later
  pub decision : decision_of later i c ≡ decision_of es i c

pub same_tale : (es : List Event) (i c : ℕ) → Tale es es i c
same_tale es i c = record { advance_in = λ r f x t. t; advance_out = λ r f x t. t; open_in = λ v t. t; open_out = λ v t. t; decision = refl }

-- an event that tells nothing of the case
pub untold : (e : Event) (es : List Event) (i c : ℕ) → ((r : ℕ) (f x : Option Side) → Advancing i c r f x e → ⊥) → ((v : Side) → Opening i c v e → ⊥) → decision_of (e ∷ es) i c ≡ decision_of es i c → Tale es (e ∷ es) i c
untold e es i c no_advance no_open same = record {
  advance_in = λ r f x t. ⊎_elim (λ z. absurd (no_advance r f x z)) (λ z. z) t;
  advance_out = λ r f x t. inr t;
  open_in = λ v t. ⊎_elim (λ z. absurd (no_open v z)) (λ z. z) t;
  open_out = λ v t. inr t;
  decision = same;
}

pub side_of : (v : ℕ) → v ≤ 1 → (u : Side) × (v ≡ ballot_number (vote u))
side_of zero le = (Keep, refl)
side_of (suc zero) le = (Release, refl)
side_of (suc (suc v)) le = absurd (omega arith)

told_side : (o : Option Side) → ((v : Side) × (o ≡ Some v)) ⊎ (o ≡ None)
told_side None = inr refl
told_side (Some v) = inl (v, refl)

module _ (line : Line) (coin : Coin) (es : List Event) (h : Held) (st : State) (i c : ℕ) (shown : CaseShown line coin es h st i c) where
  abbrev n : ℕ
  n = line.plan.n

  abbrev t : ℕ
  t = line.plan.t

  abbrev G : BallotMap
  G = ballots_at line.plan h i c

  -- nothing happens in the case, and no less is accepted
  pub carried : (later : List Event) (next : Held) (now : State) → Tale es later i c → round_at line.plan next i c ≡ round_at line.plan h i c → (case_at next (case_place line.plan i c)).decision ≡ (case_at h (case_place line.plan i c)).decision → ((q : ℕ) → now.said (Ballot i c q) ≡ st.said (Ballot i c q)) → Part G (ballots_at line.plan next i c) → CaseShown line coin later next now i c
  carried later next now tale round decision same part = record {
    unsaid = λ q le. same (suc q) ∙ shown.unsaid q (omega (arith, round));
    spoke = λ q lt below.
        let x = shown.spoke q (omega (arith, round)) below in
        (x.0, same (suc q) ∙ x.1, justified_grows n t G _ part q x.0 x.2);
    left = λ q lt.
        left_grows n t G (ballots_at line.plan next i c) part (coin i c (suc q / 3)) q _ _ _ _ _ _ (λ b e. sym (same (suc (suc q))) ∙ e)
        (λ v x. (x.0, tale.advance_in _ _ _ x.1)) (λ v x. (x.0, tale.advance_out _ _ _ x.1)) (λ v x. (x.0, tale.advance_in _ _ _ x.1)) (λ v x. (x.0, tale.advance_out _ _ _ x.1))
        (shown.left q (omega (arith, round)));
    bound = λ r f x told. let b = shown.bound r f x (tale.advance_in r f x told) in (b.0, omega (arith, b.1, round));
    gone = λ r le lt. let g = shown.gone r le (omega (arith, round)) in (g.0, g.1, tale.advance_out r g.0 g.1 g.2);
    decision = decision ∙ shown.decision ∙ sym tale.decision;
    votes = λ v told. same 1 ∙ shown.votes v (tale.open_in v told);
    voted = λ v e. tale.open_out v (shown.voted v (sym (same 1) ∙ e));
  }

  -- the process opens the case
  module _ (v posted : ℕ) (next : Held) (now : State) (at : round_at line.plan h i c ≡ 0) (round : round_at line.plan next i c ≡ 1) (decision : (case_at next (case_place line.plan i c)).decision ≡ (case_at h (case_place line.plan i c)).decision) (vote_is : v ≤ 1) (here : now.said (Ballot i c 1) ≡ Some v) (same : (q : ℕ) → now.said (Ballot i c (suc (suc q))) ≡ st.said (Ballot i c (suc (suc q)))) where
    pub case_opened : CaseShown line coin (opened i c v posted ∷ es) next now i c
    case_opened = record {
      unsaid = later;
      spoke = first;
      left = λ q lt. absurd (omega (arith, round));
      bound = λ r f x told. ⊎_elim (λ z. absurd z) (λ z. absurd (omega (arith, (shown.bound r f x z).1, at))) told;
      gone = λ r le lt. absurd (omega (arith, round));
      decision = decision ∙ shown.decision;
      votes = λ u told. ⊎_elim (λ x. here ∙ ap Some x.2) (λ x. absurd (none_some _ (ballot_number (vote u)) (shown.unsaid 0 (omega (arith, at))) (shown.votes u x))) told;
      voted = λ u e. inl (refl, refl, some_once _ v (ballot_number (vote u)) here e);
    }
      where
        later : (q : ℕ) → round_at line.plan next i c ≤ q → now.said (Ballot i c (suc q)) ≡ None
        later zero le = absurd (omega (arith, round))
        later (suc q) le = same q ∙ shown.unsaid (suc q) (omega (arith, at))

        first : (q : ℕ) → q < round_at line.plan next i c → q < 3 * line.plan.phases → (b : ℕ) × (now.said (Ballot i c (suc q)) ≡ Some b) × Justified n t (ballots_at line.plan next i c) q b
        first zero lt below = let u = side_of v vote_is in (v, here, u)
        first (suc q) lt below = absurd (omega (arith, round))

  -- the process advances from round q + 1 by a set S
  module _ (q : ℕ) (S : ℕ → Bool) (step : Progress) (reached posted : ℕ) (next : Held) (now : State) (at : round_at line.plan h i c ≡ suc q) (round : round_at line.plan next i c ≡ suc (suc q)) (says : Says n t G q S step) (decision : (case_at next (case_place line.plan i c)).decision ≡ decision_after (case_at h (case_place line.plan i c)).decision step.decides (suc q / 3)) (part : Part G (ballots_at line.plan next i c)) where
    abbrev body : ℕ
    body = ballot_number (said step.next (coin i c (suc q / 3)))

    module _ (old : (r : ℕ) → r ≤ suc q → now.said (Ballot i c r) ≡ st.said (Ballot i c r)) (new : (b : ℕ) → now.said (Ballot i c (suc (suc q))) ≡ Some b → b ≡ body) (sent : suc q < 3 * line.plan.phases → now.said (Ballot i c (suc (suc q))) ≡ Some body) (silent : (r : ℕ) → suc (suc q) < r → now.said (Ballot i c r) ≡ st.said (Ballot i c r)) where
      abbrev later : List Event
      later = advanced i c (suc q) step.forced step.decides reached posted ∷ es

      -- an older advance was from an older round
      older : (r : ℕ) (f x : Option Side) → r ≤ q → Told (Advancing i c r f x) later → Told (Advancing i c r f x) es
      older r f x le told = ⊎_elim (λ z. absurd (omega (arith, z.2))) (λ z. z) told

      newest : (f x : Option Side) → Told (Advancing i c (suc q) f x) later → (step.forced ≡ f) × (step.decides ≡ x)
      newest f x told = ⊎_elim (λ z. (z.3, z.4)) (λ z. absurd (omega (arith, (shown.bound (suc q) f x z).1, at))) told

      allowed : Allows n t (kind q) (tally n G q S) body
      allowed = go step.next refl
        where
          go : (o : Option (votes.Ballot)) → step.next ≡ o → Allows n t (kind q) (tally n G q S) (ballot_number (said o (coin i c (suc q / 3))))
          go None e = (says.tossed e).2 (coin i c (suc q / 3))
          go (Some b) e = says.next b e

      tossed : kind q ≡ Third → Tossed t (tally n G q S) (coin i c (suc q / 3)) body
      tossed third = ⊎_elim forced free (told_side step.forced)
        where
          forced : ((v : Side) × (step.forced ≡ Some v)) → Tossed t (tally n G q S) (coin i c (suc q / 3)) body
          forced x = inl (x.0, ((says.forced x.0).0 x.1).1, ap (λ o. ballot_number (said o (coin i c (suc q / 3)))) (says.forced_next x.0 x.1))

          free : step.forced ≡ None → Tossed t (tally n G q S) (coin i c (suc q / 3)) body
          free e = inr (few_forced says third e, ap (λ o. ballot_number (said o (coin i c (suc q / 3)))) (says.unforced third e))

      left_now : Left n t G (coin i c (suc q / 3)) q (now.said (Ballot i c (suc (suc q)))) (ForcedAt later i c (suc q)) (DecidedAt later i c (suc q))
      left_now = record {
        by = S;
        quorum = says.quorum;
        tossed = λ third b e. subst (λ x. Tossed t (tally n G q S) (coin i c (suc q / 3)) x) (sym (new b e)) (tossed third);
        forces = λ v x. ((says.forced v).0 (newest (Some v) x.0 x.1).0).1;
        forced_some = λ third v x.
            ⊎_elim (λ y. (y.0, (step.decides, inl (refl, refl, refl, y.1, refl)))) (λ y. absurd (omega (arith, few_forced says third y v))) (told_side step.forced);
        third = λ v x. ((says.decides v).0 (newest x.0 (Some v) x.1).1).0;
        decides = λ v x. ((says.decides v).0 (newest x.0 (Some v) x.1).1).1;
        decided_some = λ third v x.
            ⊎_elim (λ y. (y.0, (step.forced, inl (refl, refl, refl, refl, y.1)))) (λ y. absurd (omega (arith, few_decided says third y v))) (told_side step.decides);
      }

      pub case_advanced : CaseShown line coin later next now i c
      case_advanced = record {
        unsaid = λ r le. silent (suc r) (omega (arith, round)) ∙ shown.unsaid r (omega (arith, at, round));
        spoke = λ r lt below.
            ⊎_elim (λ (l : r < suc q).
            let x = shown.spoke r (omega (arith, at)) below in
            (x.0, old (suc r) (omega arith) ∙ x.1, justified_grows n t G _ part r x.0 x.2))
            (λ (l : suc q ≤ r).
            let is : suc q ≡ r = omega (arith, round) in
            subst (λ k. (b : ℕ) × (now.said (Ballot i c (suc k)) ≡ Some b) × Justified n t (ballots_at line.plan next i c) k b) is
            (body, sent (omega arith), justified_grows n t G _ part (suc q) body (S, says.quorum, allowed)))
            (cases_lt r (suc q));
        left = λ r lt.
            ⊎_elim (λ (l : r < q).
            left_grows n t G _ part (coin i c (suc r / 3)) r _ _ _ _ _ _ (λ b e. sym (old (suc (suc r)) (omega arith)) ∙ e)
            (λ v x. (x.0, older (suc r) _ _ (omega arith) x.1)) (λ v x. (x.0, inr x.1)) (λ v x. (x.0, older (suc r) _ _ (omega arith) x.1)) (λ v x. (x.0, inr x.1))
            (shown.left r (omega (arith, at))))
            (λ (l : q ≤ r).
            let is : q ≡ r = omega (arith, round) in
            subst (λ k. Left n t (ballots_at line.plan next i c) (coin i c (suc k / 3)) k (now.said (Ballot i c (suc (suc k)))) (ForcedAt later i c (suc k)) (DecidedAt later i c (suc k))) is
            (left_grows n t G _ part (coin i c (suc q / 3)) q _ _ _ _ _ _ (λ b e. e) (λ v x. x) (λ v x. x) (λ v x. x) (λ v x. x) left_now))
            (cases_lt r q);
        bound = λ r f x told.
            ⊎_elim (λ z. (omega (arith, z.2), omega (arith, z.2, round))) (λ z. let b = shown.bound r f x z in (b.0, omega (arith, b.1, at, round))) told;
        gone = λ r le lt.
            ⊎_elim (λ (l : r < suc q). let g = shown.gone r le (omega (arith, at)) in (g.0, g.1, inr g.2)) (λ (l : suc q ≤ r).
            let is : suc q ≡ r = omega (arith, round) in
            (step.forced, step.decides, inl (refl, refl, is, refl, refl)))
            (cases_lt r (suc q));
        decision = decision ∙ ap (λ o. decision_after o step.decides (suc q / 3)) shown.decision ∙ sym (cond-true _ _ _ (and_from _ _ (eq-eqb i i refl) (eq-eqb c c refl)));
        votes = λ v told. ⊎_elim (λ z. absurd z) (λ z. old 1 (omega arith) ∙ shown.votes v z) told;
        voted = λ v e. inr (shown.voted v (sym (old 1 (omega arith)) ∙ e));
      }

-- all cases of the plan
pub record CasesShown (line : Line) (coin : Coin) (es : List Event) (h : Held) (st : State) : Type 0 where
  pub each : (i c : ℕ) → i < line.plan.n → c < line.plan.cases → CaseShown line coin es h st i c
  pub openers : (i c : ℕ) (v : Side) → Told (Opening i c v) es → c < line.plan.cases
  pub advancers : (i c r : ℕ) (f x : Option Side) → Told (Advancing i c r f x) es → c < line.plan.cases

-- nothing is told of cases, their records stay, and no less is accepted
pub all_carried : (line : Line) (coin : Coin) (es : List Event) (h : Held) (st : State) → CasesShown line coin es h st → (later : List Event) (next : Held) (now : State) → ((i c : ℕ) → Tale es later i c) → ((k : ℕ) → (case_at next k).round ≡ (case_at h k).round) → ((k : ℕ) → (case_at next k).decision ≡ (case_at h k).decision) → ((i c q : ℕ) → now.said (Ballot i c q) ≡ st.said (Ballot i c q)) → ((i c : ℕ) → i < line.plan.n → Part (ballots_at line.plan h i c) (ballots_at line.plan next i c)) → CasesShown line coin later next now
all_carried line coin es h st shown later next now tale rounds decisions said part = record {
  each = λ i c lt below. carried line coin es h st i c (shown.each i c lt below) later next now (tale i c) (rounds _) (decisions _) (said i c) (part i c lt);
  openers = λ i c v t. shown.openers i c v ((tale i c).open_in v t);
  advancers = λ i c r f x t. shown.advancers i c r f x ((tale i c).advance_in r f x t);
}
