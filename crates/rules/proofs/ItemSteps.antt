-- Turns on items are turns of the machine of broadcasts, and a refused one changes nothing.
use Rattle.std.proofs.Common.{◌≡◌, ℕ, suc, ◌+◌, ◌<◌, ◌≤◌, Bool, true, false, cond, ◌&&◌, eqb, List, [], ◌∷◌, ◌++◌, length, get_or, set, Some, None, Option, sym, refl, ap, ◌∙◌, subst, ap₂, subst₂, inl, inr, ⊎_elim, arith, length-set, get_or-set_other, get_or-set_same}
use Rattle.std.proofs.lemmas.Bool.{both_ways, eqb-true, eqb-false, eq-eqb, and_parts, and_from, lt-ltb, cond-true, cond-false, cases_Bool}
use Rattle.protocol.specs.Bags.{count, Same}
use Rattle.protocol.specs.Sending.{to_all}
use Rattle.protocol.specs.declared.messages.Message.{Message}
use Rattle.protocol.specs.declared.messages.Step.{Step}
use Rattle.protocol.specs.declared.messages.Step.TheVariants.{Initial, Echo, Ready}
use Rattle.protocol.specs.declared.messages.Subject.{Subject}
use Rattle.protocol.specs.declared.messages.Subject.TheVariants.{Item, Ballot}
use Rattle.protocol.specs.declared.refusals.Refusal.{Refusal}
use Rattle.protocol.specs.declared.votes.Side.{Side}
use Rattle.protocol.proofs.Bags.{count_none, count_cons, count_append}
use Rattle.plan.specs.Kinds.{Line}
use Rattle.memory.specs.Contents.{Held, serial_at, with_serial}
use Rattle.memory.specs.Places.{enough, within}
use Rattle.memory.proofs.Sizes.{sizes}
use Rattle.broadcast.specs.Receiving.{Outcome, outcome}
use Rattle.broadcast.specs.Stages.{nothing}
use Rattle.broadcast.specs.declared.reactions.Reaction.{Reaction}
use Rattle.agreement.specs.Records.{Rec}
use Rattle.agreement.specs.Runs as machine
use Rattle.agreement.specs.Runs.{State, after_telling, leaving, after_receiving, sends}
use Rattle.agreement.proofs.Bodies.{when_stays, when_set, when_from}
use Rattle.agreement.proofs.Theorem.{lasts}
use Rattle.consensus.specs.Validity.{Part}
use Rattle.ballots.specs.Places.{ballots_at}
use Rattle.rules.specs.Turns.{faulty, refusal, Deliver, reacted, replies, effect, Done, Coin}
use Rattle.rules.specs.Runs.{Event, refused, announced, forged, delivered, Announces, Delivers, Happens, Announcing, Accepting, Advancing, Opening}
use Rattle.rules.proofs.Told.{decision_of}
use Rattle.rules.proofs.Records.{world_of}
use Rattle.rules.proofs.Ballots.{same_ballots, ballot_accepted, accepted_ballot}
use Rattle.rules.proofs.Shows.{Shows, as_large, items_on, bodies_on, stranger, AnnounceAllowed, announce_allowed, forge_allowed, deliver_allowed, no_stranger, no_strange_sender, not_stranger}
use Rattle.rules.proofs.Deliveries as deliveries
use Rattle.rules.proofs.Follows.{Follow, joined, known_told, still}

module _ (line : Line) (capacity : ℕ) (coin : Coin) (es : List Event) (h : Held) (ws : List Message) (st : State) (shows : Shows line coin es h ws st) where
  -- an event that tells nothing and changes no more than what waits
  quiet : (e : Event) (now : List Message) (next : Held) (left : List Message) → ((i k b : ℕ) → Announcing i k b e → ⊥) → ((i : ℕ) (s : Subject) (b : ℕ) → Accepting i s b e → ⊥) → ((j d r : ℕ) (f x : Option Side) → Advancing j d r f x e → ⊥) → ((j d : ℕ) (v : Side) → Opening j d v e → ⊥) → ((j d : ℕ) → decision_of (e ∷ es) j d ≡ decision_of es j d) → next ≡ h → Same now left → count (stranger line) left ≡ 0 → Shows line coin (e ∷ es) next left (leaving now st)
  quiet e now next left no_announce no_accept no_advance no_open undecided same waits known =
      subst (λ x. Shows line coin (e ∷ es) x left (leaving now st)) (sym same) (record {
        mirrors = record {
          large = shows.mirrors.large;
          records = shows.mirrors.records;
          fresh = shows.mirrors.fresh;
          waits = waits;
          known = known;
        };
        items = items_on e es st (leaving now st) no_announce (λ i k. refl) shows.items;
        bodies = bodies_on line e es st (leaving now st) no_accept (λ i s. refl) shows.bodies;
        cases = still line capacity coin es h ws st shows e h (leaving now st) no_advance no_open undecided refl (λ j d q. refl) (λ j d lt o r b x. x);
      })

  pub by_refused : (turn : _) (e : Refusal) (after : Held) (left : List Message) → Happens line capacity h ws coin (refused turn e) after left → Follow line coin st (refused turn e ∷ es) after left
  by_refused turn e after left r = (
    st,
    λ run. run,
    quiet (refused turn e) st.waiting after left (λ i k b x. x) (λ i s b x. x) (λ j d r f x z. z) (λ j d v z. z) (λ j d. refl) r.memory (subst (Same st.waiting) (sym r.carrier) shows.mirrors.waits) (ap (count (stranger line)) r.carrier ∙ shows.mirrors.known),
  )

  pub by_forged : (m : Message) (posted : ℕ) (after : Held) (left : List Message) → Happens line capacity h ws coin (forged m posted) after left → Follow line coin st (forged m posted ∷ es) after left
  by_forged m posted after left d =
      let may = forge_allowed line capacity h ws m d.allowed in
      let here = no_strange_sender line m may.sender may.inside in (
        leaving left st,
        λ run. machine.by_transition run (machine.forges m left may.sender may.faulty (λ p. omega (arith, d.carrier p, count_cons p m ws, count_cons p m st.waiting, shows.mirrors.waits p))),
        quiet (forged m posted) left after left (λ i k b x. x) (λ i s b x. x) (λ j d r f x z. z) (λ j d v z. z) (λ j d. refl) d.memory (λ p. refl)
            (omega (arith, d.carrier (stranger line), count_cons (stranger line) m ws, cond-false {A = ℕ} (stranger line m) 1 0 here, shows.mirrors.known)),
      )

  module _ (i b k posted : ℕ) (after : Held) (left : List Message) (a : Announces line capacity h ws i b k posted after left) where
    may : AnnounceAllowed line h i
    may = announce_allowed line capacity h ws i b a.done.allowed

    item_inside : within line.plan (Item i k) ≡ true
    item_inside = and_from _ _ (lt-ltb i line.plan.n may.process) (lt-ltb k line.plan.serials (omega (arith, may.unused, a.serial)))

    none_said : st.said (Item i k) ≡ None
    none_said = shows.mirrors.fresh i k may.process (omega (arith, a.serial))

    abbrev later : Held
    later = with_serial i (k + 1) h

    here : i < length h.serials
    here = omega (arith, (sizes line.plan h shows.mirrors.large).serials, may.process)

    grown : (j : ℕ) → serial_at h j ≤ serial_at later j
    grown j =
        ⊎_elim (λ (t : eqb j i ≡ true). let is = eqb-true j i t in
        omega (arith, ap (λ (x : ℕ). get_or (set h.serials i (k + 1)) x 0) is, ap (λ (x : ℕ). get_or h.serials x 0) is, get_or-set_same h.serials i (k + 1) 0 here, a.serial))
        (λ (t : eqb j i ≡ false). omega (arith, get_or-set_other h.serials i j (k + 1) 0 (eqb-false j i t)))
        (cases_Bool (eqb j i))

    abbrev next : State
    next = after_telling (Item i k) b left st

    -- the item was told just now, or another one before
    fresh_next : (j l : ℕ) → j < line.plan.n → serial_at later j ≤ l → next.said (Item j l) ≡ None
    fresh_next j l below used =
        ⊎_elim (λ (t : (eqb j i && eqb l k) ≡ true).
        let same = and_parts _ _ t in
        let j_is = eqb-true j i same.0 in
        let l_is = eqb-true l k same.1 in
        absurd (omega (arith, ap (λ (x : ℕ). serial_at later x) j_is, get_or-set_same h.serials i (k + 1) 0 here)))
        (λ (t : (eqb j i && eqb l k) ≡ false). cond-false _ _ _ t ∙ shows.mirrors.fresh j l below (omega (arith, grown j)))
        (cases_Bool (eqb j i && eqb l k))

    later_large : enough line.plan later ≡ true
    later_large = as_large line.plan h later refl refl refl (length-set h.serials i (k + 1)) shows.mirrors.large

    shown : Shows line coin (announced i b k posted ∷ es) later left next
    shown = record {
      mirrors = record {
        large = later_large;
        records = λ j s lt inside. let kept = shows.mirrors.records j s lt inside in record { stage = kept.stage; rows = kept.rows };
        fresh = fresh_next;
        waits = λ p. refl;
        known = known_told line capacity coin es h ws st shows i (Item i k) b left may.process item_inside a.done.carrier;
      };
      items = record {
        announces = λ j l c t.
            ⊎_elim (λ x. when_set (eqb j i && eqb l k) (st.said (Item j l)) b (and_from _ _ (eq-eqb j i (sym x.0)) (eq-eqb l k (sym x.1))) (ap₂ (λ y z. st.said (Item y z)) (sym x.0) (sym x.1) ∙ none_said) ∙ ap Some x.2)
            (λ x. when_stays (eqb j i && eqb l k) (st.said (Item j l)) b c (shows.items.announces j l c x)) t;
        announced = λ j l c x.
            ⊎_elim (λ y. inr (shows.items.announced j l c y)) (λ y.
            let same = and_parts _ _ y.0 in
            inl (sym (eqb-true j i same.0), sym (eqb-true l k same.1), y.1))
            (when_from (eqb j i && eqb l k) (st.said (Item j l)) b c x);
      };
      bodies = bodies_on line (announced i b k posted) es st next (λ j s c x. x) (λ j s. refl) shows.bodies;
      cases = still line capacity coin es h ws st shows (announced i b k posted) later next (λ j d r f x z. z) (λ j d v z. z) (λ j d. refl) refl (λ j d q. refl) (λ j d lt. same_ballots line h later refl j d);
    }

    pub by_announced : Follow line coin st (announced i b k posted ∷ es) after left
    by_announced = (
      next,
      λ run. machine.by_transition run (machine.tells (Item i k) b left (may.process, may.correct) none_said (joined line capacity coin es h ws st shows (to_all line.plan.n i Initial (Item i k) b) left a.done.carrier)),
      subst (λ x. Shows line coin (announced i b k posted ∷ es) x left next) (sym a.done.memory) shown,
    )

  module _ (i pick : ℕ) (m : Message) (posted : ℕ) (accepting : Bool) (after : Held) (left : List Message) (d : Delivers line capacity h ws i pick m posted accepting after left) where
    to : m.addressee < line.plan.n
    to = subst (λ x. x < line.plan.n) (sym d.addressee) (deliver_allowed line capacity h ws i pick d.done.allowed)

    counted : count (stranger line) ws ≡ cond (stranger line m) 1 0 + count (stranger line) d.rest
    counted = d.taken (stranger line) ∙ count_cons (stranger line) m d.rest

    rest_known : count (stranger line) d.rest ≡ 0
    rest_known = omega (arith, counted, shows.mirrors.known)

    no_strange : stranger line m ≡ false
    no_strange = ⊎_elim (λ (t : stranger line m ≡ true). absurd (omega (arith, counted, shows.mirrors.known, cond-true {A = ℕ} (stranger line m) 1 0 t))) (λ t. t) (cases_Bool (stranger line m))

    taken : Same st.waiting (m ∷ d.rest)
    taken p = shows.mirrors.waits p ∙ d.taken p

    -- the turn with what the message did
    done : (o : Outcome) → reacted line m h ≡ o → Done (refusal line capacity h ws (Deliver i pick)) (effect o.held (replies line.plan.n m o.reaction)) after d.rest left posted
    done o e = subst (λ (x : Outcome). Done (refusal line capacity h ws (Deliver i pick)) (effect x.held (replies line.plan.n m x.reaction)) after d.rest left posted) e d.done

    answer : (o : Outcome) → reacted line m h ≡ o → accepting ≡ o.reaction.accepted
    answer o e = d.answer ∙ ap (λ (x : Outcome). x.reaction.accepted) e

    by_dropped : faulty line m.addressee ≡ true → Follow line coin st (delivered i pick m posted accepting ∷ es) after left
    by_dropped bad =
        let is = cond-true (faulty line m.addressee) (outcome h nothing) _ bad in
        let end = done (outcome h nothing) is in
        let no_one = answer (outcome h nothing) is in (
          leaving left st,
          λ run. machine.by_transition run (machine.drops m left to bad (λ p. omega (arith, taken p, count_cons p m d.rest, count_cons p m left, end.carrier p))),
          quiet (delivered i pick m posted accepting) left after left (λ j k b x. x) (λ j s b x. both_ways accepting no_one x.0) (λ j d r f x z. z) (λ j d v z. z) (λ j d. refl) end.memory (λ p. refl)
              (omega (arith, end.carrier (stranger line), rest_known)),
        )

    -- what a reaction sends has no stranger
    replies_known : (r : Reaction) → within line.plan m.subject ≡ true → count (stranger line) (replies line.plan.n m r) ≡ 0
    replies_known r inside =
        omega (arith, count_append (stranger line) (cond r.echo (to_all line.plan.n m.addressee Echo m.subject m.body) []) (cond r.ready (to_all line.plan.n m.addressee Ready m.subject m.body) []), part r.echo Echo, part r.ready Ready)
      where
        part : (t : Bool) (step : Step) → count (stranger line) (cond t (to_all line.plan.n m.addressee step m.subject m.body) []) ≡ 0
        part true step = no_stranger line line.plan.n m.addressee step m.subject m.body to inside
        part false step = count_none (stranger line)

    by_landed : faulty line m.addressee ≡ false → Follow line coin st (delivered i pick m posted accepting ∷ es) after left
    by_landed good =
        let sound = not_stranger line m no_strange in
        let o = outcome (deliveries.landed line h shows.mirrors.large m to sound.0 sound.1) (deliveries.turned line h shows.mirrors.large m to sound.0 sound.1).reaction in
        let is = cond-false (faulty line m.addressee) (outcome h nothing) _ good ∙ deliveries.received_is line h shows.mirrors.large m to sound.0 sound.1 in
        let end = done o is in
        let next = after_receiving (world_of line) m left st in
        let at = deliveries.follows line h shows.mirrors.large m to sound.0 sound.1 st.recs shows.mirrors.records in
        let here = deliveries.here_is line h shows.mirrors.large m to sound.0 sound.1 st.recs shows.mirrors.records in
        let a = m.addressee in
        let sent : Same left (sends line.plan.n a m.subject (st.recs a m.subject) (machine.records_after (world_of line) m st.recs a m.subject) ++ d.rest) =
        subst (λ (r : Rec). Same left (sends line.plan.n a m.subject (st.recs a m.subject) r ++ d.rest)) (sym here) (subst (λ (xs : List Message). Same left (xs ++ d.rest)) at.sent end.carrier) in
        let turn : machine.Transition (world_of line) st next = machine.delivers m d.rest left (to, good) taken sent in
        let grows : (j d : ℕ) → j < line.plan.n → Part (ballots_at line.plan h j d) (ballots_at line.plan o.held j d) = λ j d lt k r b x.
        let old = ballot_accepted line h st.recs shows.mirrors.records j d k r b lt x in
        accepted_ballot line o.held next.recs (deliveries.keeps_landed line h shows.mirrors.large m to sound.0 sound.1 st.recs shows.mirrors.records) j d k r b lt old.0 ((lasts (world_of line) st next turn).accepted (Ballot k d (suc r)) j b old.1) in
        let now = deliveries.accepts line h shows.mirrors.large m to sound.0 sound.1 st.recs shows.mirrors.records in (
          next,
          λ run. machine.by_transition run turn,
          subst (λ x. Shows line coin (delivered i pick m posted accepting ∷ es) x left next) (sym end.memory) (record {
            mirrors = record {
              large = deliveries.landed_large line h shows.mirrors.large m to sound.0 sound.1;
              records = deliveries.keeps_landed line h shows.mirrors.large m to sound.0 sound.1 st.recs shows.mirrors.records;
              fresh = shows.mirrors.fresh;
              waits = λ p. refl;
              known = omega (arith, end.carrier (stranger line), count_append (stranger line) (replies line.plan.n m o.reaction) d.rest, replies_known o.reaction sound.1, rest_known);
            };
            items = items_on (delivered i pick m posted accepting) es st next (λ j k b x. x) (λ j k. refl) shows.items;
            bodies = record {
              accepts = λ j s b t.
                  ⊎_elim (λ x. subst₂ (λ v u. (next.recs v u).accepted ≡ Some b) (d.addressee ∙ x.1) x.2 (now (sym (answer o is) ∙ x.0) ∙ ap Some x.3))
                  (λ x. (lasts (world_of line) st next turn).accepted s j b (shows.bodies.accepts j s b x)) t;
              accepted = λ j s b x.
                  ⊎_elim (λ y. inr (shows.bodies.accepted j s b y)) (λ y. inl (answer o is ∙ y.0, sym d.addressee ∙ y.1, y.2, y.3))
                  (deliveries.from line h shows.mirrors.large m to sound.0 sound.1 st.recs shows.mirrors.records j s b x);
              inside = λ j s b t. ⊎_elim (λ x. ap (within line.plan) (sym x.2) ∙ sound.1) (shows.bodies.inside j s b) t;
            };
            cases = still line capacity coin es h ws st shows (delivered i pick m posted accepting) o.held next (λ j d r f x z. z) (λ j d v z. z) (λ j d. refl) refl (λ j d q. refl) grows;
          }),
        )

    pub by_delivered : Follow line coin st (delivered i pick m posted accepting ∷ es) after left
    by_delivered = ⊎_elim by_dropped by_landed (cases_Bool (faulty line m.addressee))
