-- Opening a case and advancing tell a ballot in the machine of broadcasts; asides leave it where it
-- is.
use Rattle.std.proofs.Common.{◌≡◌, ℕ, suc, ◌+◌, ◌-◌, ◌*◌, ◌/◌, ◌<◌, ◌≤◌, true, false, ◌&&◌, eqb, ltb, List, ◌∷◌, ◌++◌, length, get_or, Some, None, Option, sym, refl, ap, ◌∙◌, subst, subst₂, ⊎_elim, arith}
use Rattle.std.proofs.lemmas.Bool.{eqb-true, and_parts, ltb-true, ltb-false, cond-true, cond-false, cases_Bool}
use Rattle.protocol.specs.Bags.{count, Same}
use Rattle.protocol.specs.Numbers.{ballot_number}
use Rattle.protocol.specs.Sending.{to_all}
use Rattle.agreement.specs.Runs.{same_subject}
use Rattle.protocol.specs.declared.messages.Message.{Message}
use Rattle.protocol.specs.declared.messages.Step.TheVariants.{Initial}
use Rattle.protocol.specs.declared.messages.Subject.{Subject}
use Rattle.protocol.specs.declared.messages.Subject.TheVariants.{Item, Ballot}
use Rattle.protocol.specs.declared.votes.Ballot.{Ballot as BallotSaid}
use Rattle.protocol.specs.declared.votes.Side.{Side}
use Rattle.agreement.proofs.Bodies.{none_some}
use Rattle.plan.specs.Kinds.{Line}
use Rattle.memory.specs.Contents.{Held, silent, case_at}
use Rattle.memory.specs.Places.{record_place, case_place}
use Rattle.memory.specs.declared.records.BroadcastRecord.{BroadcastRecord}
use Rattle.memory.specs.declared.records.CaseRecord.{CaseRecord}
use Rattle.memory.specs.declared.records.Decision.{Decision}
use Rattle.agreement.specs.Runs as machine
use Rattle.agreement.specs.Runs.{State, after_telling}
use Rattle.agreement.proofs.Bodies.{when_set, when_from}
use Rattle.agreement.proofs.Waiting.{subject_same}
use Rattle.ballots.proofs.Reading.{ballot_within}
use Rattle.cases.specs.Steps.{round_at}
use Rattle.rules.specs.Turns.{said, sent_for, decision_after, moved, advancing, Coin}
use Rattle.rules.specs.Runs.{Event, opened, advanced, Aside, Advances, Happens}
use Rattle.rules.proofs.Stages.{Shown}
use Rattle.rules.proofs.Records.{Rows}
use Rattle.rules.proofs.Cases.{CaseShown, Tale, same_tale, carried, all_carried, case_opened, case_advanced}
use Rattle.rules.proofs.Ballots.{same_ballots, moved_here, moved_other, moved_large, said_other, said_round, opened_elsewhere, advanced_elsewhere}
use Rattle.rules.proofs.Shows.{Shows, Mirrors, as_large, items_on, bodies_on, stranger, OpenAllowed, open_allowed, AdvanceAllowed, advance_allowed}
use Rattle.rules.proofs.Follows.{Follow, joined, known_told}

module _ (line : Line) (capacity : ℕ) (coin : Coin) (es : List Event) (h : Held) (ws : List Message) (st : State) (shows : Shows line coin es h ws st) where
  -- a ballot is said in a case of process i, or only its record changes
  module _ (i c : ℕ) (lt : i < line.plan.n) (below : c < line.plan.cases) where
    -- the case itself, and every other one
    each : (later : List Event) (next : Held) (now : State) → CaseShown line coin later next now i c → ((j d : ℕ) → (eqb j i && eqb d c) ≡ false → j < line.plan.n → d < line.plan.cases → CaseShown line coin later next now j d) → (j d : ℕ) → j < line.plan.n → d < line.plan.cases → CaseShown line coin later next now j d
    each later next now here there j d l b =
        ⊎_elim (λ (e : (eqb j i && eqb d c) ≡ true). let same = and_parts _ _ e in subst₂ (CaseShown line coin later next now) (sym (eqb-true j i same.0)) (sym (eqb-true d c same.1)) here) (λ (e : (eqb j i && eqb d c) ≡ false). there j d e l b)
        (cases_Bool (eqb j i && eqb d c))

    mirrored : (round : ℕ) (decision : Option Decision) (after_telling : Subject → Option ℕ) (waiting left : List Message) → ((j k : ℕ) → after_telling (Item j k) ≡ st.said (Item j k)) → Same waiting left → count (stranger line) left ≡ 0 → Mirrors line (moved line i c round decision h) left (record { recs = st.recs; said = after_telling; waiting = waiting })
    mirrored round decision after_telling waiting left same waits known = record {
      large = moved_large line h shows.mirrors.large i c round decision lt below;
      records = λ j s l w. let kept = shows.mirrors.records j s l w in record { stage = kept.stage; rows = kept.rows };
      fresh = λ j k l used. same j k ∙ shows.mirrors.fresh j k l used;
      waits = waits;
      known = known;
    }

    -- another case, where the record of this one is written
    apart : (later : List Event) (round : ℕ) (decision : Option Decision) (now : State) (j d : ℕ) → (eqb j i && eqb d c) ≡ false → j < line.plan.n → d < line.plan.cases → Tale es later j d → ((q : ℕ) → now.said (Ballot j d q) ≡ st.said (Ballot j d q)) → CaseShown line coin later (moved line i c round decision h) now j d
    apart later round decision now j d e l b tale said =
        let same = moved_other line h shows.mirrors.large i c round decision lt below j d b e in
        carried line coin es h st j d (shows.cases.each j d l b) later (moved line i c round decision h) now tale (ap (λ (r : CaseRecord). r.round) same) (ap (λ (r : CaseRecord). r.decision) same) said (same_ballots line h _ refl j d)

  module _ (i c v posted : ℕ) (after : Held) (left : List Message) (d : Happens line capacity h ws coin (opened i c v posted) after left) where
    open_may : OpenAllowed line h i c v
    open_may = open_allowed line capacity h ws i c v d.allowed

    open_none : st.said (Ballot i c 1) ≡ None
    open_none = (shows.cases.each i c open_may.process open_may.case).unsaid 0 (omega (arith, open_may.unopened))

    abbrev open_held : Held
    open_held = moved line i c 1 (case_at h (case_place line.plan i c)).decision h

    abbrev open_state : State
    open_state = after_telling (Ballot i c 1) v left st

    open_here : CaseShown line coin (opened i c v posted ∷ es) open_held open_state i c
    open_here =
        let new = moved_here line h shows.mirrors.large i c 1 (case_at h (case_place line.plan i c)).decision open_may.process open_may.case in
        case_opened line coin es h st i c (shows.cases.each i c open_may.process open_may.case) v posted open_held open_state open_may.unopened (ap (λ (r : CaseRecord). r.round) new) (ap (λ (r : CaseRecord). r.decision) new) open_may.vote
        (when_set (same_subject (Ballot i c 1) (Ballot i c 1)) (st.said (Ballot i c 1)) v (subject_same (Ballot i c 1)) open_none)
        (λ q. said_round i c 1 v left st (suc (suc q)) (λ z. omega (arith, z)))

    pub by_opened : Follow line coin st (opened i c v posted ∷ es) after left
    by_opened =
        let inside = ballot_within line.plan i c 1 open_may.process open_may.case (omega arith) (omega (arith, line.plan.first)) in (
          open_state,
          λ run. machine.by_transition run (machine.tells (Ballot i c 1) v left (open_may.process, open_may.correct) open_none (joined line capacity coin es h ws st shows (to_all line.plan.n i Initial (Ballot i c 1) v) left d.carrier)),
          subst (λ x. Shows line coin (opened i c v posted ∷ es) x left open_state) (sym d.memory) (record {
            mirrors = mirrored i c open_may.process open_may.case 1 _ open_state.said left left (λ j k. refl) (λ p. refl) (known_told line capacity coin es h ws st shows i (Ballot i c 1) v left open_may.process inside d.carrier);
            items = items_on (opened i c v posted) es st open_state (λ j k b x. x) (λ j k. refl) shows.items;
            bodies = bodies_on line (opened i c v posted) es st open_state (λ j s b x. x) (λ j s. refl) shows.bodies;
            cases = record {
              each = each i c open_may.process open_may.case _ open_held open_state open_here (λ j k e l b. apart i c open_may.process open_may.case _ 1 _ open_state j k e l b (opened_elsewhere i c j k e v posted es) (λ q. said_other i c 1 v left st j k q e));
              openers = λ j k u t. ⊎_elim (λ x. subst (λ y. y < line.plan.cases) x.1 open_may.case) (shows.cases.openers j k u) t;
              advancers = λ j k r f x t. ⊎_elim (λ y. absurd y) (shows.cases.advancers j k r f x) t;
            };
          }),
        )

  module _ (i c r : ℕ) (f x : Option Side) (reached posted : ℕ) (after : Held) (left : List Message) (a : Advances line capacity h ws coin i c r f x reached posted after left) where
    may_advance_lem : AdvanceAllowed line h i c
    may_advance_lem = advance_allowed line capacity h ws i c a.done.allowed

    abbrev in_case : CaseShown line coin es h st i c
    in_case = shows.cases.each i c may_advance_lem.process may_advance_lem.case

    -- the round that is left, from 0
    abbrev q : ℕ
    q = round_at line.plan h i c - 1

    at : round_at line.plan h i c ≡ suc q
    at = omega (arith, a.law.opened)

    r_is : r ≡ suc q
    r_is = a.from ∙ at

    abbrev new_held : Held
    new_held = (advancing line h coin i c r a.step).held

    abbrev body : ℕ
    body = ballot_number (said a.step.next (coin i c (suc q / 3)))

    abbrev said_ballot : BallotSaid
    said_ballot = said a.step.next (coin i c (r / 3))

    body_is : ballot_number (said a.step.next (coin i c (r / 3))) ≡ body
    body_is = ap (λ (k : ℕ). ballot_number (said a.step.next (coin i c (k / 3)))) r_is

    abbrev onward : List Event
    onward = advanced i c (suc q) a.step.forced a.step.decides reached posted ∷ es

    -- what is known once the state of the machine is
    module _ (now : State) (old : (k : ℕ) → k ≤ suc q → now.said (Ballot i c k) ≡ st.said (Ballot i c k)) (new : (b : ℕ) → now.said (Ballot i c (suc (suc q))) ≡ Some b → b ≡ body) (sent : suc q < 3 * line.plan.phases → now.said (Ballot i c (suc (suc q))) ≡ Some body) (silent : (k : ℕ) → suc (suc q) < k → now.said (Ballot i c k) ≡ st.said (Ballot i c k)) (others : (j d k : ℕ) → (eqb j i && eqb d c) ≡ false → now.said (Ballot j d k) ≡ st.said (Ballot j d k)) where
      advanced_here : CaseShown line coin onward new_held now i c
      advanced_here =
          let written = moved_here line h shows.mirrors.large i c (r + 1) (decision_after (case_at h (case_place line.plan i c)).decision a.step.decides (r / 3)) may_advance_lem.process may_advance_lem.case in
          case_advanced line coin es h st i c in_case q a.set a.step reached posted new_held now at
          (ap (λ (z : CaseRecord). z.round) written ∙ omega (arith, r_is))
          a.law.says
          (ap (λ (z : CaseRecord). z.decision) written ∙ ap (λ (k : ℕ). decision_after (case_at h (case_place line.plan i c)).decision a.step.decides (k / 3)) r_is)
          (same_ballots line h new_held refl i c) old new sent silent

      advanced_cases : (j d : ℕ) → j < line.plan.n → d < line.plan.cases → CaseShown line coin onward new_held now j d
      advanced_cases = each i c may_advance_lem.process may_advance_lem.case onward new_held now advanced_here (λ j k e l b. apart i c may_advance_lem.process may_advance_lem.case onward (r + 1) _ now j k e l b (advanced_elsewhere i c j k e (suc q) _ _ reached posted es) (λ m. others j k m e))

    -- the event as it is told
    as_told : Follow line coin st onward after left → Follow line coin st (advanced i c r f x reached posted ∷ es) after left
    as_told = subst (λ (e : Event). Follow line coin st (e ∷ es) after left) (λ z. advanced i c (sym r_is z) (sym a.forces z) (sym a.decision z) reached posted)

    unsaid_next : st.said (Ballot i c (suc (suc q))) ≡ None
    unsaid_next = in_case.unsaid (suc q) (omega (arith, at))

    by_last : ltb r (3 * line.plan.phases) ≡ false → Follow line coin st onward after left
    by_last last =
        let end : Same left ws = subst (λ o. Same left (sent_for line o said_ballot ++ ws)) (cond-false (ltb r (3 * line.plan.phases)) _ None last) a.done.carrier in (
          st,
          λ run. run,
          subst (λ y. Shows line coin onward y left st) (sym a.done.memory) (record {
            mirrors = mirrored i c may_advance_lem.process may_advance_lem.case (r + 1) _ st.said st.waiting left (λ j k. refl) (λ p. shows.mirrors.waits p ∙ sym (end p)) (omega (arith, end (stranger line), shows.mirrors.known));
            items = items_on (advanced i c (suc q) a.step.forced a.step.decides reached posted) es st st (λ j k b x. x) (λ j k. refl) shows.items;
            bodies = bodies_on line (advanced i c (suc q) a.step.forced a.step.decides reached posted) es st st (λ j s b x. x) (λ j s. refl) shows.bodies;
            cases = record {
              each = advanced_cases st (λ k le. refl) (λ b e. absurd (none_some _ b unsaid_next e)) (λ lt. absurd (omega (arith, ltb-false _ _ last, r_is))) (λ k lt. refl) (λ j d k e. refl);
              openers = λ j k u t. ⊎_elim (λ y. absurd y) (shows.cases.openers j k u) t;
              advancers = λ j k m g y t. ⊎_elim (λ z. subst (λ w. w < line.plan.cases) z.1 may_advance_lem.case) (shows.cases.advancers j k m g y) t;
            };
          }),
        )

    abbrev ballot_state : State
    ballot_state = after_telling (Ballot i c (suc (suc q))) body left st

    by_next : ltb r (3 * line.plan.phases) ≡ true → Follow line coin st onward after left
    by_next early =
        let before = ltb-true _ _ early in
        let n = line.plan.n in
        let subject_is : r + 1 ≡ suc (suc q) = omega (arith, r_is) in
        let end : Same left (to_all n i Initial (Ballot i c (suc (suc q))) body ++ ws) =
        subst₂ (λ (k b : ℕ). Same left (to_all n i Initial (Ballot i c k) b ++ ws)) subject_is body_is (subst (λ o. Same left (sent_for line o said_ballot ++ ws)) (cond-true (ltb r (3 * line.plan.phases)) _ None early) a.done.carrier) in
        let inside = ballot_within line.plan i c (suc (suc q)) may_advance_lem.process may_advance_lem.case (omega arith) (omega (arith, before, r_is)) in (
          ballot_state,
          λ run. machine.by_transition run (machine.tells (Ballot i c (suc (suc q))) body left (may_advance_lem.process, may_advance_lem.correct) unsaid_next (joined line capacity coin es h ws st shows (to_all n i Initial (Ballot i c (suc (suc q))) body) left end)),
          subst (λ y. Shows line coin onward y left ballot_state) (sym a.done.memory) (record {
            mirrors = mirrored i c may_advance_lem.process may_advance_lem.case (r + 1) _ ballot_state.said left left (λ j k. refl) (λ p. refl) (known_told line capacity coin es h ws st shows i (Ballot i c (suc (suc q))) body left may_advance_lem.process inside end);
            items = items_on (advanced i c (suc q) a.step.forced a.step.decides reached posted) es st ballot_state (λ j k b x. x) (λ j k. refl) shows.items;
            bodies = bodies_on line (advanced i c (suc q) a.step.forced a.step.decides reached posted) es st ballot_state (λ j s b x. x) (λ j s. refl) shows.bodies;
            cases = record {
              each = advanced_cases ballot_state (λ k le. said_round i c (suc (suc q)) body left st k (λ z. omega (arith, z))) said_new (λ lt. when_set (same_subject (Ballot i c (suc (suc q))) (Ballot i c (suc (suc q)))) (st.said (Ballot i c (suc (suc q)))) body (subject_same (Ballot i c (suc (suc q)))) unsaid_next) (λ k lt. said_round i c (suc (suc q)) body left st k (λ z. omega (arith, z))) (λ j d k e. said_other i c (suc (suc q)) body left st j d k e);
              openers = λ j k u t. ⊎_elim (λ y. absurd y) (shows.cases.openers j k u) t;
              advancers = λ j k m g y t. ⊎_elim (λ z. subst (λ w. w < line.plan.cases) z.1 may_advance_lem.case) (shows.cases.advancers j k m g y) t;
            };
          }),
        )
      where
        said_new : (b : ℕ) → ballot_state.said (Ballot i c (suc (suc q))) ≡ Some b → b ≡ body
        said_new b e =
            ⊎_elim (λ y. absurd (none_some _ b unsaid_next y)) (λ y. sym y.1) (when_from (same_subject (Ballot i c (suc (suc q))) (Ballot i c (suc (suc q)))) (st.said (Ballot i c (suc (suc q)))) body b e)

    pub by_advanced : Follow line coin st (advanced i c r f x reached posted ∷ es) after left
    by_advanced = as_told (⊎_elim by_next by_last (cases_Bool (ltb r (3 * line.plan.phases))))

  -- only slip states change
  pub step_aside : (next : Held) → Aside h next → Shows line coin es next ws st
  step_aside next same = record {
    mirrors = record {
      large = as_large line.plan h next (ap (λ (xs : List BroadcastRecord). length xs) same.broadcasts) (ap (λ (xs : List (Option ℕ)). length xs) same.bodies) same.cases (ap (λ (xs : List ℕ). length xs) same.serials) shows.mirrors.large;
      records = λ i s lt inside.
          let kept = shows.mirrors.records i s lt inside in
          let at = record_place line.plan i s in
          record {
            stage = subst (λ (xs : List BroadcastRecord). Shown (get_or xs at silent).stage (st.recs i s).echoed (st.recs i s).readied (st.recs i s).accepted) (sym same.broadcasts) kept.stage;
            rows = subst (λ xs. Rows line at xs (st.recs i s).echo (st.recs i s).ready) (sym same.bodies) kept.rows;
          };
      fresh = λ i k lt used. shows.mirrors.fresh i k lt (subst (λ (xs : List ℕ). get_or xs i 0 ≤ k) same.serials used);
      waits = shows.mirrors.waits;
      known = shows.mirrors.known;
    };
    items = shows.items;
    bodies = shows.bodies;
    cases = all_carried line coin es h st shows.cases es next st (same_tale es) same.rounds same.decisions (λ i c q. refl) (λ i c lt. same_ballots line h next same.broadcasts i c);
  }
