-- After every run the promises hold.
use Rattle.std.proofs.Common.{◌≡◌, ℕ, zero, suc, ◌+◌, ◌-◌, ◌*◌, ◌/◌, ◌<◌, ◌≤◌, ◌↔◌, true, false, List, Some, None, Option, sym, refl, ap, ◌∙◌, subst, ap₂, ⊎_elim, arith}
use Rattle.std.proofs.lemmas.Bool.{and_from, cond-true, cond-false, cases_Bool, cases_lt}
use Rattle.protocol.specs.Numbers.{ballot_number, vote}
use Rattle.protocol.specs.Thresholds.{Sound}
use Rattle.protocol.specs.declared.messages.Message.{Message}
use Rattle.protocol.specs.declared.messages.Subject.TheVariants.{Item, Ballot}
use Rattle.protocol.specs.declared.votes.Side.{Side}
use Rattle.agreement.proofs.Bodies.{none_some, some_once}
use Rattle.plan.specs.Sheet.{thresholds_of}
use Rattle.plan.specs.Kinds.{Line}
use Rattle.plan.proofs.Marked.{few_marked}
use Rattle.protocol.specs.Bags.{addressed}
use Rattle.memory.specs.Contents.{Held}
use Rattle.memory.specs.Places.{within}
use Rattle.agreement.specs.Worlds.{Lawful}
use Rattle.agreement.specs.Runs as machine
use Rattle.agreement.specs.Runs.{State, start}
use Rattle.agreement.specs.Broadcasts as broadcasts
use Rattle.agreement.proofs.Counts.{counted_lawful}
use Rattle.agreement.proofs.Theorem as theorem
use Rattle.protocol.specs.declared.votes.Kind.TheVariants.{Third}
use Rattle.protocol.specs.Phases.{kind}
use Rattle.consensus.specs.Rounds.{BallotMap}
use Rattle.consensus.specs.Validity.{Quorum, Part, Resilient}
use Rattle.consensus.proofs.Accounts.{Account, Outcomes, outcomes}
use Rattle.ballots.specs.Places.{ballots_at}
use Rattle.ballots.proofs.Reading.{ballot_within, covered}
use Rattle.cases.specs.Steps.{round_at, may_advance, step_at, chosen}
use Rattle.cases.proofs.Going.{law}
use Rattle.rules.specs.Turns.{faulty, Coin}
use Rattle.rules.specs.Runs.{Event, refused, announced, opened, forged, delivered, advanced, Run, Happens, begun, after, aside, Told, Advancing, Opened, Ended, Forced, Decided}
use Rattle.rules.specs.Promises.{Correct, Quiet, Stuck, AtRest, Luck, Promises, PromisesKept}
use Rattle.rules.proofs.Stages.{shown_accepted}
use Rattle.rules.proofs.Records.{world_of}
use Rattle.rules.proofs.Cases.{CaseShown, ForcedAt, DecidedAt}
use Rattle.rules.proofs.Ballots.{ballot_accepted, accepted_ballot}
use Rattle.rules.proofs.Shows.{Shows, at_start}
use Rattle.rules.proofs.Steps.{follow}
use Rattle.rules.proofs.CaseSteps.{step_aside}
use Rattle.rules.proofs.Told.{Tells, FirstOf, Thirds, decision_of, decision_told, decision_stands, first_after, first_is_told, stands_first, first_stands}

-- rounds 2, 5, 8 and so on, from 0, are third rounds
third : (m : ℕ) → kind (3 * m + 2) ≡ Third
third zero = refl
third (suc m) = let e : 3 * suc m + 2 ≡ suc (suc (suc (3 * m + 2))) = omega arith in ap kind e ∙ third m

-- and there are no others
third_only : (q : ℕ) → kind q ≡ Third → (m : ℕ) × (q ≡ 3 * m + 2)
third_only zero e = absurd cc
third_only (suc zero) e = absurd cc
third_only (suc (suc zero)) e = (0, omega arith)
third_only (suc (suc (suc q))) e = let m = third_only q e in (suc m.0, omega (arith, m.1))

module _ (line : Line) where
  sound : Sound line.plan.n line.plan.t (thresholds_of line.plan.n line.plan.t).echo (thresholds_of line.plan.n line.plan.t).ready (thresholds_of line.plan.n line.plan.t).accept
  sound =
      let fact = line.plan.tolerated in
      record { meet = omega arith; echoes = omega arith; one_correct = omega arith; enough = omega arith; accepts = omega arith }

  resilient : Resilient line.plan.n line.plan.t (faulty line)
  resilient = record { few = few_marked line.plan.n line.plan.t line.marks line.inside line.few; third = line.plan.tolerated }

  lawful : Lawful (world_of line)
  lawful = counted_lawful line.plan.n line.plan.t _ _ _ (faulty line) line.plan.few resilient.few sound

  module _ (capacity : ℕ) (coin : Coin) where
    -- a run of the machine that comes along
    pub along : (es : List Event) (h : Held) (ws : List Message) → Run line capacity coin es h ws → (st : State) × machine.Reachable (world_of line) st × Shows line coin es h ws st
    along _ _ _ (begun h large) = (start, machine.initially, at_start line h large coin)
    along _ _ _ (after {es} {h} {next} {ws} {left} run e happens) =
        let before = along es h ws run in
        let now = follow line capacity coin es h ws before.0 before.2 e next left happens in
        (now.0, now.1 before.1, now.2)
    along _ _ _ (aside {es} {h} {next} {ws} run same) =
        let before = along es h ws run in
        (before.0, before.1, step_aside line capacity coin es h ws before.0 before.2 next same)

    -- the decision that stands is the first that is told
    pub firsts : (es : List Event) (h : Held) (ws : List Message) → Run line capacity coin es h ws → (i c : ℕ) → Correct line i → FirstOf i c es
    firsts _ _ _ (begun h large) i c ci = λ d e r f v t. absurd t
    firsts _ _ _ (aside {es} {h} {next} {ws} run same) i c ci = firsts es h ws run i c ci
    firsts _ _ _ (after {es} {h} {next} {ws} {left} run (refused turn e) happens) i c ci = λ d told r f v. ⊎_elim (λ z. absurd z) (firsts es h ws run i c ci d told r f v)
    firsts _ _ _ (after {es} {h} {next} {ws} {left} run (announced j b k posted) happens) i c ci = λ d told r f v. ⊎_elim (λ z. absurd z) (firsts es h ws run i c ci d told r f v)
    firsts _ _ _ (after {es} {h} {next} {ws} {left} run (opened j k u posted) happens) i c ci = λ d told r f v. ⊎_elim (λ z. absurd z) (firsts es h ws run i c ci d told r f v)
    firsts _ _ _ (after {es} {h} {next} {ws} {left} run (forged m posted) happens) i c ci = λ d told r f v. ⊎_elim (λ z. absurd z) (firsts es h ws run i c ci d told r f v)
    firsts _ _ _ (after {es} {h} {next} {ws} {left} run (delivered j pick m posted accepted) happens) i c ci = λ d told r f v. ⊎_elim (λ z. absurd z) (firsts es h ws run i c ci d told r f v)
    firsts _ _ _ (after {es} {h} {next} {ws} {left} run (advanced j k q g x reached posted) happens) i c ci =
        first_after i c es j k q g x reached posted (firsts es h ws run i c ci) (λ ji kc r f y t.
        let a = along es h ws run in
        let below = a.2.cases.advancers i c r f y t in
        omega (arith, happens.from, ap₂ (round_at line.plan h) ji kc, ((a.2.cases.each i c ci.0 below).bound r f y t).1))

    -- an advance that decides is from a third round
    third_left : (h : Held) (ws : List Message) (e : Event) (next : Held) (left : List Message) → Happens line capacity h ws coin e next left → (i c r : ℕ) (f : Option Side) (v : Side) → Advancing i c r f (Some v) e → (k : ℕ) × (r ≡ 3 * k)
    third_left h ws (refused turn e) next left a i c r f v z = absurd z
    third_left h ws (announced j b k posted) next left a i c r f v z = absurd z
    third_left h ws (opened j k u posted) next left a i c r f v z = absurd z
    third_left h ws (forged m posted) next left a i c r f v z = absurd z
    third_left h ws (delivered j pick m posted accepted) next left a i c r f v z = absurd z
    third_left h ws (advanced j k q g x reached posted) next left a i c r f v z =
        let m = third_only (round_at line.plan h j k - 1) ((a.law.says.decides v).0 (sym a.decision ∙ z.4)).0 in
        (suc m.0, omega (arith, m.1, a.law.opened, a.from, z.2))

    thirds : (es : List Event) (h : Held) (ws : List Message) → Run line capacity coin es h ws → (i c : ℕ) → Thirds i c es
    thirds _ _ _ (begun h large) i c r f v t = absurd t
    thirds _ _ _ (aside {es} {h} {next} {ws} run same) i c r f v t = thirds es h ws run i c r f v t
    thirds _ _ _ (after {es} {h} {next} {ws} {left} run e happens) i c r f v t = ⊎_elim (third_left h ws e next left happens i c r f v) (thirds es h ws run i c r f v) t

    -- Of a run, the first decision that is told is the one that stands when its events are added
    -- up.
    pub decided_exactly : (es : List Event) (h : Held) (ws : List Message) → Run line capacity coin es h ws → (i c : ℕ) (v : Side) (k : ℕ) → Decided es i c v k ↔ (decision_of es i c ≡ Some (record { side = v; phase = k }))
    decided_exactly es h ws run i c v k = (first_stands i c es v k, stands_first i c es (thirds es h ws run i c) (record { side = v; phase = k }))

  module _ (coin : Coin) (es : List Event) (h : Held) (ws : List Message) (st : State) (run : machine.Reachable (world_of line) st) (shows : Shows line coin es h ws st) (first : (i c : ℕ) → Correct line i → FirstOf i c es) (exactly : (i c : ℕ) (v : Side) (k : ℕ) → Decided es i c v k ↔ (decision_of es i c ≡ Some (record { side = v; phase = k }))) where
    abbrev n : ℕ
    n = line.plan.n

    abbrev last : ℕ
    last = 3 * line.plan.phases

    all : broadcasts.Broadcasts (world_of line) st
    all = theorem.broadcasts (world_of line) lawful st run

    rests : Quiet line ws → broadcasts.QuietIn (world_of line) st
    rests quiet i c = shows.mirrors.waits (addressed i) ∙ quiet i c

    -- one case of the plan
    module _ (c : ℕ) (below : c < line.plan.cases) where
      abbrev own : ℕ → BallotMap
      own i = ballots_at line.plan h i c

      abbrev said : ℕ → ℕ → Option ℕ
      said o r = st.said (Ballot o c (suc r))

      abbrev rounds : ℕ → ℕ
      rounds o = round_at line.plan h o c

      abbrev tossed : ℕ → ℕ → Side
      tossed o r = coin o c (suc r / 3)

      abbrev forced : ℕ → ℕ → Side → Type 0
      forced o r = ForcedAt es o c (suc r)

      abbrev decided : ℕ → ℕ → Side → Type 0
      decided o r = DecidedAt es o c (suc r)

      abbrev held : (i : ℕ) → Correct line i → CaseShown line coin es h st i c
      held i ci = shows.cases.each i c ci.0 below

      accepted : (i o r b : ℕ) → Correct line i → own i o r ≡ Some b → (within line.plan (Ballot o c (suc r)) ≡ true) × ((st.recs i (Ballot o c (suc r))).accepted ≡ Some b)
      accepted i o r b ci e = ballot_accepted line h st.recs shows.mirrors.records i c o r b ci.0 e

      account : Account n line.plan.t last (faulty line) tossed own said rounds forced decided
      account = record {
        alike = λ i j o r b d ci cj x y. all.agreement (Ballot o c (suc r)) i j b d ci cj (accepted i o r b ci x).1 (accepted j o r d cj y).1;
        honest = λ i o r b ci co x. all.validity (Ballot o c (suc r)) i b co ci (accepted i o r b ci x).1;
        spoke = λ o r co. (held o co).spoke r;
        unsaid = λ o r co. (held o co).unsaid r;
        left = λ o r co. (held o co).left r;
      }

      settles : Outcomes n line.plan.t last (faulty line) tossed own said rounds forced decided
      settles = outcomes n line.plan.t last (faulty line) tossed own said rounds forced decided resilient account

      -- a decision that is told was made in a round that was left
      module _ (i : ℕ) (ci : Correct line i) (v : Side) (t : Tells es i c v) where
        abbrev q : ℕ
        q = t.0 - 1

        when_told : (1 ≤ t.0) × (t.0 < rounds i)
        when_told = (held i ci).bound t.0 t.1 (Some v) t.2

        told_at : decided i q v
        told_at = (t.1, subst (λ (r : ℕ). Told (Advancing i c r t.1 (Some v)) es) (omega (arith, when_told.0)) t.2)

        told_left : suc q < rounds i
        told_left = omega (arith, when_told.0, when_told.1)

      agree : (i j : ℕ) (u v : Side) → Correct line i → Correct line j → Tells es i c u → Tells es j c v → u ≡ v
      agree i j u v ci cj x y = settles.agreement i j _ _ u v ci cj (told_left i ci u x) (told_left j cj v y) (told_at i ci u x) (told_at j cj v y)

      -- of one process
      module _ (i : ℕ) (ci : Correct line i) where
        began : (v : Side) → Opened es i c v → 0 < rounds i
        began v t = ⊎_elim (λ (l : 0 < rounds i). l) (λ (l : rounds i ≤ 0). absurd (none_some _ (ballot_number (vote v)) ((held i ci).unsaid 0 l) ((held i ci).votes v t))) (cases_lt 0 (rounds i))

        voted : 0 < rounds i → (v : Side) × Opened es i c v
        voted lt =
            let x = (held i ci).spoke 0 lt (omega (arith, line.plan.first)) in
            let u = x.2.0 in
            (u, (held i ci).voted u (x.1 ∙ ap Some x.2.1))

        -- to the code a process may not advance exactly where it is stuck
        stuck : may_advance line.plan h i c ≡ false → Stuck line h i c
        stuck still r S at early full =
            let none : step_at line.plan h i c ≡ None = cond-false (may_advance line.plan h i c) _ None still in
            let covers = and_from _ _ (ballot_within line.plan i c (rounds i) ci.0 below (omega arith) (omega arith)) shows.mirrors.large in
            (law line.plan h i c None (sym none)).none refl covers S (subst (λ k. Quorum n line.plan.t (own i) k S) (omega arith) full)

        waits : Stuck line h i c → may_advance line.plan h i c ≡ false
        waits held_up = ⊎_elim goes (λ e. e) (cases_Bool (may_advance line.plan h i c))
          where
            goes : may_advance line.plan h i c ≡ true → may_advance line.plan h i c ≡ false
            goes e =
                let step : step_at line.plan h i c ≡ Some _ = cond-true (may_advance line.plan h i c) _ None e in
                let by = law line.plan h i c _ (sym step) in
                let at = covered line.plan h i c (rounds i) (by.covered _ refl) in
                absurd (held_up (rounds i - 1) (chosen line.plan h i c) (omega (arith, at.first)) (omega (arith, at.first, at.last)) (by.goes _ refl).says.quorum)

      unanimous : (v : Side) → ((o : ℕ) (u : Side) → Correct line o → Opened es o c u → u ≡ v) → (o b : ℕ) → Correct line o → said o 0 ≡ Some b → b ≡ ballot_number (vote v)
      unanimous v same o b co e = ⊎_elim open_case (λ (l : rounds o ≤ 0). absurd (none_some _ b ((held o co).unsaid 0 l) e)) (cases_lt 0 (rounds o))
        where
          open_case : 0 < rounds o → b ≡ ballot_number (vote v)
          open_case lt =
              let v = voted o co lt in
              some_once _ b _ e ((held o co).votes v.0 v.1) ∙ ap (λ w. ballot_number (vote w)) (same o v.0 co v.1)

      -- at rest
      module _ (rest : AtRest line h ws) (opened : (o : ℕ) → Correct line o → (v : Side) × Opened es o c v) where
        complete : (i k : ℕ) → Correct line i → Correct line k → Part (own k) (own i)
        complete i k ci ck o r b e =
            let x = accepted k o r b ck e in
            accepted_ballot line h st.recs shows.mirrors.records i c o r b ci.0 x.0 (all.totality (rests rest.quiet) (Ballot o c (suc r)) k i b ck ci x.1)

        said_arrived : (i k r b : ℕ) → Correct line i → Correct line k → r < last → said k r ≡ Some b → own i k r ≡ Some b
        said_arrived i k r b ci ck lt e =
            accepted_ballot line h st.recs shows.mirrors.records i c k r b ci.0 (ballot_within line.plan k c (suc r) ck.0 below (omega arith) (omega arith)) (all.delivery (rests rest.quiet) (Ballot k c (suc r)) i b ck ci e)

        ends : (i : ℕ) → Correct line i → Ended es i c line.plan.phases
        ends i ci = (held i ci).gone last (omega (arith, line.plan.first)) (settles.ending complete said_arrived (λ k r S ck. rest.stuck k c ck below r S) (λ k ck. let v = opened k ck in began k ck v.0 v.1) i ci)

      -- a coin that shows what is forced
      module _ (m : ℕ) (v : Side) (shared : (o : ℕ) → Correct line o → coin o c (suc m) ≡ v) (only : (o : ℕ) (u : Side) → Correct line o → Forced es o c (suc m) u → u ≡ v) (i : ℕ) (ci : Correct line i) (ended : Ended es i c (suc (suc m))) where
        abbrev r : ℕ
        r = 3 * m + 2

        round_is : suc r ≡ 3 * suc m
        round_is = omega arith

        decides : decided i (3 * suc m + 2) v
        decides =
            settles.luck r v (third m) (λ o co. ap (coin o c) (omega (arith, round_is)) ∙ shared o co) (λ o u co lt x. only o u co (x.0, subst (λ (k : ℕ). Told (Advancing o c k (Some u) x.0) es) round_is x.1)) i (3 * suc m + 2) ci (third (suc m)) (omega arith)
            (omega (arith, ((held i ci).bound (3 * suc (suc m)) ended.0 ended.1 ended.2).1))

        lucky : (l : ℕ) × (l ≤ suc (suc m)) × Decided es i c v l
        lucky =
            let d = decides in
            let s = decision_stands i c es (suc (3 * suc m + 2)) d.0 v d.1 in
            let is = agree i i s.0.side v ci ci (decision_told i c es s.0 s.1) (suc (3 * suc m + 2), d.0, d.1) in
            (s.0.phase, omega (arith, first i c ci s.0 s.1 (suc (3 * suc m + 2)) d.0 v d.1), (exactly i c v s.0.phase).1 (s.1 ∙ ap (λ w. Some (record { side = w; phase = s.0.phase })) is))

    tells_below : (i c : ℕ) (v : Side) → Tells es i c v → c < line.plan.cases
    tells_below i c v t = shows.cases.advancers i c t.0 t.1 (Some v) t.2

    told_decision : (i c k : ℕ) (v : Side) → Decided es i c v k → Tells es i c v
    told_decision i c k v d = (3 * k, d.0, first_is_told _ _ es d.1)

    luck : Luck line coin es
    luck c zero v from_one shared only i ci ended = absurd (omega arith)
    luck c (suc m) v from_one shared only i ci ended =
        let next : suc m + 1 ≡ suc (suc m) = omega arith in
        let e = subst (Ended es i c) next ended in
        let l = lucky c (shows.cases.advancers i c _ e.0 e.1 e.2) m v shared only i ci e in
        (l.0, omega (arith, l.1), l.2)

    promises : Promises line coin es h ws
    promises = record {
      agreement = record {
        bodies = λ s i j b c ci cj x y. all.agreement s i j b c ci cj (shows.bodies.accepts i s b x) (shows.bodies.accepts j s c y);
        items = λ i j k b ci cj x. shows.items.announced i k b (all.validity (Item i k) j b ci cj (shows.bodies.accepts j (Item i k) b x));
        decisions = λ c i j k l u v ci cj x y. let t = told_decision i c k u x in agree c (tells_below i c u t) i j u v ci cj t (told_decision j c l v y);
        votes = λ c v same i k u ci x.
            let t = told_decision i c k u x in
            let below = tells_below i c u t in
            (settles c below).validity v (unanimous c below v same) i _ u ci (told_left c below i ci u t) (told_at c below i ci u t);
      };
      rest = λ rest. record {
        accepted = λ s i j b ci cj x. shows.bodies.accepted j s b (all.totality (rests rest.quiet) s i j b ci cj (shows.bodies.accepts i s b x));
        announced = λ i j k b ci cj x. shows.bodies.accepted j (Item i k) b (all.delivery (rests rest.quiet) (Item i k) j b ci cj (shows.items.announces i k b x));
        ended = λ c opened i ci. ends c (shows.cases.openers i c _ (opened i ci).1) rest opened i ci;
      };
      luck = luck;
      recorded = record {
        kept = λ s i b ci x. shown_accepted _ _ _ _ (shows.mirrors.records i s ci.0 (shows.bodies.inside i s b x)).stage ∙ shows.bodies.accepts i s b x;
        only = λ s i b ci inside x. shows.bodies.accepted i s b (sym (shown_accepted _ _ _ _ (shows.mirrors.records i s ci.0 inside).stage) ∙ x);
        inside = λ s i b. shows.bodies.inside i s b;
        decided = λ i c ci below v k.
            let stored = (shows.cases.each i c ci.0 below).decision in
            ((λ e. (exactly i c v k).1 (sym stored ∙ e)), (λ d. stored ∙ (exactly i c v k).0 d));
        opened = λ i c ci. (
          (λ t. let below = shows.cases.openers i c t.0 t.1 in (below, began c below i ci t.0 t.1)),
          (λ x. voted c x.0 i ci x.1),
        );
        ended = λ i c k ci first. (
          (λ e. let below = shows.cases.advancers i c _ e.0 e.1 e.2 in (below, ((shows.cases.each i c ci.0 below).bound _ e.0 e.1 e.2).1)),
          (λ x. (shows.cases.each i c ci.0 x.0).gone (3 * k) (omega arith) x.1),
        );
      };
      counted = λ i c ci below. (stuck c below i ci, waits c below i ci);
    }

pub kept : (line : Line) (capacity : ℕ) (coin : Coin) → PromisesKept line capacity coin
kept line capacity coin es h ws run = let a = along line capacity coin es h ws run in promises line coin es h ws a.0 a.1 a.2 (firsts line capacity coin es h ws run) (decided_exactly line capacity coin es h ws run)
