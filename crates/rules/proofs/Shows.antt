-- How a run stands to a run of the machine of broadcasts.
use Rattle.std.proofs.Common.{◌≡◌, ℕ, zero, suc, ◌<◌, ◌≤◌, Bool, true, false, not, ◌&&◌, ltb, leb, List, [], ◌∷◌, length, Some, None, Option, sym, refl, ap, ◌∙◌, subst, inr, ⊎_elim, arith}
use Rattle.std.proofs.lemmas.Bool.Decides.{nat_tests}
use Rattle.std.proofs.lemmas.Bool.{and_parts, and_from, not-false, not_from_true, lt-ltb, ltb-true, cond-false}
use Rattle.protocol.specs.Bags.{count, Same}
use Rattle.protocol.specs.Messages.{message}
use Rattle.protocol.specs.Sending.{to_all}
use Rattle.protocol.specs.declared.messages.Message.{Message}
use Rattle.protocol.specs.declared.messages.Step.{Step}
use Rattle.protocol.specs.declared.messages.Subject.{Subject}
use Rattle.protocol.specs.declared.messages.Subject.TheVariants.{Item}
use Rattle.agreement.proofs.Bodies.{none_some}
use Rattle.protocol.proofs.Bags.{count_none, count_cons, count_append}
use Rattle.protocol.proofs.Parts.{sender_of, subject_of}
use Rattle.plan.specs.Plans.{needs_of}
use Rattle.plan.specs.Kinds.{Line}
use Rattle.plan.specs.declared.plans.Plan.{Plan}
use Rattle.memory.specs.Contents.{Held, cleared, silent, unopened, stage_at, case_at, serial_at}
use Rattle.memory.specs.Places.{enough, within, record_place, case_place}
use Rattle.memory.specs.declared.records.CaseRecord.{CaseRecord}
use Rattle.memory.proofs.Grid.{laid}
use Rattle.memory.proofs.Wiping.{wiped_length, wiped_at}
use Rattle.agreement.specs.Records.{Rec}
use Rattle.agreement.specs.Runs.{State, start}
use Rattle.cases.specs.Steps.{round_at}
use Rattle.rules.specs.Turns.{faulty, refusal, Announce, Open, Forge, Deliver, Advance, Coin}
use Rattle.rules.specs.Runs.{Event, Announcing, Accepting, Announced, Accepted}
use Rattle.rules.proofs.Stages as stages
use Rattle.rules.proofs.Stages.{Shown}
use Rattle.rules.proofs.Records.{Rows}
use Rattle.rules.proofs.Cases.{CaseShown, CasesShown}

-- memory whose parts are as long is as large
pub as_large : (plan : Plan) (h next : Held) → length next.broadcasts ≡ length h.broadcasts → length next.bodies ≡ length h.bodies → length next.cases ≡ length h.cases → length next.serials ≡ length h.serials → enough plan h ≡ true → enough plan next ≡ true
as_large plan h next b o c s large =
    let needs = needs_of plan in
    (λ j. leb needs.broadcast_records (b j) && (leb needs.body_places (o j) && (leb needs.case_records (c j) && leb needs.next_serials (s j)))) ∙ large

-- memory has the machine's record
pub record Keeps (line : Line) (h : Held) (i : ℕ) (s : Subject) (r : Rec) : Type 0 where
  pub stage : Shown (stage_at h (record_place line.plan i s)) r.echoed r.readied r.accepted
  pub rows : Rows line (record_place line.plan i s) h.bodies r.echo r.ready

-- a message that no process of the line sends
abbrev pub stranger : Line → Message → Bool
stranger line m = not (ltb m.sender line.plan.n && within line.plan m.subject)

-- the items that were announced are those that the machine was told
pub record ItemsTold (es : List Event) (st : State) : Type 0 where
  pub announces : (i k b : ℕ) → Announced es i k b → st.said (Item i k) ≡ Some b
  pub announced : (i k b : ℕ) → st.said (Item i k) ≡ Some b → Announced es i k b

-- and what was accepted is what it has as accepted
pub record BodiesTold (line : Line) (es : List Event) (st : State) : Type 0 where
  pub accepts : (i : ℕ) (s : Subject) (b : ℕ) → Accepted es i s b → (st.recs i s).accepted ≡ Some b
  pub accepted : (i : ℕ) (s : Subject) (b : ℕ) → (st.recs i s).accepted ≡ Some b → Accepted es i s b
  pub inside : (i : ℕ) (s : Subject) (b : ℕ) → Accepted es i s b → within line.plan s ≡ true

-- memory and carrier have what the machine has
pub record Mirrors (line : Line) (h : Held) (ws : List Message) (st : State) : Type 0 where
  pub large : enough line.plan h ≡ true
  pub records : (i : ℕ) (s : Subject) → i < line.plan.n → within line.plan s ≡ true → Keeps line h i s (st.recs i s)
  -- an item is not told before its serial is used
  pub fresh : (i k : ℕ) → i < line.plan.n → serial_at h i ≤ k → st.said (Item i k) ≡ None
  pub waits : Same st.waiting ws
  pub known : count (stranger line) ws ≡ 0

-- the run told es and came to memory h and waiting messages ws, and the machine came to st
pub record Shows (line : Line) (coin : Coin) (es : List Event) (h : Held) (ws : List Message) (st : State) : Type 0 where
  pub mirrors : Mirrors line h ws st
  pub items : ItemsTold es st
  pub bodies : BodiesTold line es st
  pub cases : CasesShown line coin es h st

-- an event that announces nothing, and one by which nothing is accepted
pub items_on : (e : Event) (es : List Event) (st now : State) → ((i k b : ℕ) → Announcing i k b e → ⊥) → ((i k : ℕ) → now.said (Item i k) ≡ st.said (Item i k)) → ItemsTold es st → ItemsTold (e ∷ es) now
items_on e es st now nothing same told = record {
  announces = λ i k b t. ⊎_elim (λ x. absurd (nothing i k b x)) (λ x. same i k ∙ told.announces i k b x) t;
  announced = λ i k b x. inr (told.announced i k b (sym (same i k) ∙ x));
}

pub bodies_on : (line : Line) (e : Event) (es : List Event) (st now : State) → ((i : ℕ) (s : Subject) (b : ℕ) → Accepting i s b e → ⊥) → ((i : ℕ) (s : Subject) → (now.recs i s).accepted ≡ (st.recs i s).accepted) → BodiesTold line es st → BodiesTold line (e ∷ es) now
bodies_on line e es st now nothing same told = record {
  accepts = λ i s b t. ⊎_elim (λ x. absurd (nothing i s b x)) (λ x. same i s ∙ told.accepts i s b x) t;
  accepted = λ i s b x. inr (told.accepted i s b (sym (same i s) ∙ x));
  inside = λ i s b t. ⊎_elim (λ x. absurd (nothing i s b x)) (told.inside i s b) t;
}

-- what is known where a turn is not refused
pub record AnnounceAllowed (line : Line) (h : Held) (i : ℕ) : Type 0 where
  pub process : i < line.plan.n
  pub correct : faulty line i ≡ false
  pub unused : serial_at h i < line.plan.serials

pub announce_allowed : (line : Line) (capacity : ℕ) (h : Held) (ws : List Message) (i b : ℕ) → refusal line capacity h ws (Announce i b) ≡ None → AnnounceAllowed line h i
announce_allowed line capacity h ws i b e = record { process = grind (arith, nat_tests); correct = grind (arith, nat_tests); unused = grind (arith, nat_tests) }

pub record ForgeAllowed (line : Line) (m : Message) : Type 0 where
  pub sender : m.sender < line.plan.n
  pub faulty : faulty line m.sender ≡ true
  pub inside : within line.plan m.subject ≡ true

pub forge_allowed : (line : Line) (capacity : ℕ) (h : Held) (ws : List Message) (m : Message) → refusal line capacity h ws (Forge m) ≡ None → ForgeAllowed line m
forge_allowed line capacity h ws m e = record { sender = grind (arith, nat_tests); faulty = grind (arith, nat_tests); inside = grind (arith, nat_tests) }

pub deliver_allowed : (line : Line) (capacity : ℕ) (h : Held) (ws : List Message) (i pick : ℕ) → refusal line capacity h ws (Deliver i pick) ≡ None → i < line.plan.n
deliver_allowed line capacity h ws i pick e = grind (arith, nat_tests)

pub record OpenAllowed (line : Line) (h : Held) (i c v : ℕ) : Type 0 where
  pub process : i < line.plan.n
  pub correct : faulty line i ≡ false
  pub case : c < line.plan.cases
  pub vote : v ≤ 1
  pub unopened : round_at line.plan h i c ≡ 0

pub open_allowed : (line : Line) (capacity : ℕ) (h : Held) (ws : List Message) (i c v : ℕ) → refusal line capacity h ws (Open i c v) ≡ None → OpenAllowed line h i c v
open_allowed line capacity h ws i c v e =
    record { process = grind (arith, nat_tests); correct = grind (arith, nat_tests); case = grind (arith, nat_tests); vote = grind (arith, nat_tests); unopened = grind (arith, nat_tests) }

pub record AdvanceAllowed (line : Line) (h : Held) (i c : ℕ) : Type 0 where
  pub process : i < line.plan.n
  pub correct : faulty line i ≡ false
  pub case : c < line.plan.cases

pub advance_allowed : (line : Line) (capacity : ℕ) (h : Held) (ws : List Message) (i c : ℕ) → refusal line capacity h ws (Advance i c) ≡ None → AdvanceAllowed line h i c
advance_allowed line capacity h ws i c e = record { process = grind (arith, nat_tests); correct = grind (arith, nat_tests); case = grind (arith, nat_tests) }

module _ (line : Line) where
  -- what a process of the line sends of a subject of the plan
  pub no_stranger : (n i : ℕ) (step : Step) (s : Subject) (b : ℕ) → i < line.plan.n → within line.plan s ≡ true → count (stranger line) (to_all n i step s b) ≡ 0
  unfolding to_all
  no_stranger zero i step s b lt inside = count_none (stranger line)
  no_stranger (suc n) i step s b lt inside =
      let m = message i n step s b in
      let from : m.sender < line.plan.n = subst (λ k. k < line.plan.n) (sym (sender_of i n step s b (omega (arith, line.plan.few)))) lt in
      let of = ap (within line.plan) (subject_of i n step s b) ∙ inside in
      let here = not_from_true _ (and_from _ _ (lt-ltb m.sender line.plan.n from) of) in
      omega (arith, count_append (stranger line) (to_all n i step s b) (m ∷ []), count_cons (stranger line) m [], count_none (stranger line), cond-false {A = ℕ} (stranger line m) 1 0 here, no_stranger n i step s b lt inside)

  pub no_strange_sender : (m : Message) → m.sender < line.plan.n → within line.plan m.subject ≡ true → stranger line m ≡ false
  no_strange_sender m from inside = not_from_true _ (and_from _ _ (lt-ltb m.sender line.plan.n from) inside)

  pub not_stranger : (m : Message) → stranger line m ≡ false → (m.sender < line.plan.n) × (within line.plan m.subject ≡ true)
  not_stranger m e = let both = and_parts _ _ (not-false _ e) in (ltb-true m.sender line.plan.n both.0, both.1)

  -- the start
  module _ (h : Held) (large : enough line.plan h ≡ true) where
    abbrev opened : Held
    opened = cleared line.plan h

    cleared_large : enough line.plan opened ≡ true
    cleared_large =
        as_large line.plan h opened (wiped_length silent _ h.broadcasts) (wiped_length {X = Option ℕ} None _ h.bodies) (wiped_length unopened _ h.cases) (wiped_length {X = ℕ} 0 _ h.serials) large

    none_opened : (i c : ℕ) → i < line.plan.n → c < line.plan.cases → case_at opened (case_place line.plan i c) ≡ unopened
    none_opened i c lt below = wiped_at unopened _ (case_place line.plan i c) h.cases ((laid line.plan).case_inside i c lt below)

    case_start : (coin : Coin) (i c : ℕ) → i < line.plan.n → c < line.plan.cases → CaseShown line coin [] opened start i c
    case_start coin i c lt below =
        let round = ap (λ (r : CaseRecord). r.round) (none_opened i c lt below) in
        record {
          unsaid = λ q le. refl;
          spoke = λ q early last. absurd (omega (arith, round));
          left = λ q early. absurd (omega (arith, round));
          bound = λ r f x t. absurd t;
          gone = λ r le early. absurd (omega (arith, round));
          decision = ap (λ (r : CaseRecord). r.decision) (none_opened i c lt below);
          votes = λ v t. absurd t;
          voted = λ v e. absurd cc;
        }

    pub at_start : (coin : Coin) → Shows line coin [] opened [] start
    at_start coin = record {
      mirrors = record {
        large = cleared_large;
        records = λ i s lt inside.
            let at = (laid line.plan).inside i s lt inside in
            record {
              stage = subst (λ x. Shown x None None None) (sym (ap (λ r. r.stage) (wiped_at silent _ (record_place line.plan i s) h.broadcasts at))) stages.silent;
              rows = record {
                echo = λ j below. wiped_at None _ _ h.bodies ((laid line.plan).echo_inside (record_place line.plan i s) j at below);
                ready = λ j below. wiped_at None _ _ h.bodies ((laid line.plan).ready_inside (record_place line.plan i s) j at below);
              };
            };
        fresh = λ i k lt used. refl;
        waits = λ p. refl;
        known = count_none (stranger line);
      };
      items = record { announces = λ i k b t. absurd t; announced = λ i k b e. absurd (none_some None b refl e) };
      bodies = record { accepts = λ i s b t. absurd t; accepted = λ i s b e. absurd (none_some None b refl e); inside = λ i s b t. absurd t };
      cases = record { each = case_start coin; openers = λ i c v t. absurd t; advancers = λ i c r f x t. absurd t };
    }
