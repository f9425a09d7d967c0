-- What acting on a form tells by its definition: events by the rules, so that the promises hold.
use Rattle.std.proofs.Common.{◌≡◌, ℕ, ◌+◌, ◌^◌, ◌<◌, ◌≤◌, Bool, true, false, cond, ◌||◌, leb, is_ok, List, [], ◌∷◌, ◌++◌, length, Some, None, Ok, Err, Option, Result, sym, refl, ap, ◌∙◌, subst, mod-lt, pow_pos, arith}
use lib.Bits.{bit_or}
use lib.Count.{ones}
use Rattle.std.proofs.lemmas.Bool.Decides.{nat_tests}
use Rattle.std.proofs.lemmas.Bool.{leb-false, cond-true}
use Rattle.protocol.specs.Bags.{waiting_for}
use Rattle.protocol.proofs.Bags.{same_swap}
use Rattle.protocol.specs.declared.messages.Message.{Message}
use Rattle.protocol.specs.declared.refusals.Refusal.{Refusal}
use Rattle.protocol.specs.declared.refusals.Refusal.TheVariants.{ProcessOutOfRange, MarkRefused}
use Rattle.plan.specs.Kinds.{Line}
use Rattle.plan.specs.Marks.{marked}
use Rattle.plan.specs.Plans.{planned}
use Rattle.plan.specs.declared.plans.Plan.{Plan}
use Rattle.plan.proofs.Marked.{set_inside, set_ones}
use Rattle.carrier.specs.Waiting.{Taken}
use Rattle.memory.specs.Contents.{Held, cleared, serial_at}
use Rattle.memory.specs.Places.{enough}
use Rattle.row.specs.Order.{answer_at, left_at, picked}
use Rattle.row.proofs.Order as order
use Rattle.cases.specs.Steps.{round_at, may_advance, step_at}
use Rattle.cases.specs.declared.steps.Progress.{Progress}
use Rattle.line.specs.Opening.{open_refusal}
use Rattle.line.proofs.Opened.{opened_idle}
use Rattle.form.specs.declared.forms.Form.{Form}
use Rattle.form.specs.declared.forms.Form.TheVariants as form
use Rattle.form.specs.declared.forms.LineForm.{LineForm}
use Rattle.rules.specs.Turns.{Turn, Announce, Open, Forge, Deliver, Advance, Coin, Effect, Done, refusal, reacted, announcing, opening, forging, delivering, advancing}
use Rattle.rules.specs.Runs.{Event, Run, begun, turn_of, Happens}
use Rattle.rules.specs.Runs as runs
use Rattle.rules.proofs.Theorem.{kept}
use Rattle.runs.specs.Performed.{answer_of}
use Rattle.runs.specs.declared.turns.Answer.{Answer}
use Rattle.desk.specs.declared.said.Said.{Said}
use Rattle.desk.specs.Act.{Acted, takes, goes, doing, acting_by, act}
use Rattle.desk.specs.Desk.{AtDesk, desk, DeskAfter, desk_after, keeping, past, marking, LineMade, line_made, opens_with, opens_marked, opens_planned, opens, asks, answered, turns, turned, begins, acts_at, acts}
use Rattle.desk.specs.Telling.{AsksFor, no_plan, no_marks, not_opened, OpensNone, none_opened, line_opened, no_turn, by_turn, KeptOn, Tells}
use Rattle.line.proofs.Taking.{passed}
use Rattle.rules.proofs.Going.{goes_on}
use Rattle.desk.proofs.Lines.{line_of_lem}

-- what is done is what an event of the turn does that happens
record OfEvent (line : Line) (coin : Coin) (h : Held) (ws : List Message) (capacity : ℕ) (turn : Turn) (a : Acted) : Type 0 where
  event : Event
  told : turn_of event ≡ turn
  answer : a.answer ≡ answer_of event
  happens : Happens line capacity h ws coin event a.memory a.waiting

module _ (line : Line) (coin : Coin) (h : Held) (ws : List Message) (capacity : ℕ) where
  abbrev By : Turn → Acted → Type 0
  By turn a = OfEvent line coin h ws capacity turn a

  -- what is sent waits behind what is left
  done : {why : Option Refusal} (e : Effect) (left : List Message) → why ≡ None → Done why e e.held left (left ++ e.sent) (length e.sent)
  done e left allowed = record { allowed = allowed; memory = refl; carrier = same_swap left e.sent; counted = refl }

  event_taken : (i pick : ℕ) (r : Result Message Refusal) → refusal line capacity h ws (Deliver i pick) ≡ None → 0 < waiting_for i ws → Taken r i ws (left_at i (picked i pick ws) ws) → By (Deliver i pick) (takes line coin h ws r (left_at i (picked i pick ws) ws))
  event_taken i pick (Ok m) allowed some taken = record {
    event = runs.delivered i pick m _ (reacted line m h).reaction.accepted;
    told = refl;
    answer = refl;
    happens = record {
      rest = left_at i (picked i pick ws) ws;
      addressee = taken.addressee;
      taken = taken.same;
      done = done (delivering line h m) (left_at i (picked i pick ws) ws) allowed;
      answer = refl;
    };
  }
  event_taken i pick (Err e) allowed some taken = let none = taken.none in absurd (omega arith)

  event_gone : (i c : ℕ) (o : Option Progress) → refusal line capacity h ws (Advance i c) ≡ None → may_advance line.plan h i c ≡ true → step_at line.plan h i c ≡ o → By (Advance i c) (goes line coin h ws i c (round_at line.plan h i c) o)
  event_gone i c (Some step) allowed may is = record {
    event = runs.advanced i c (round_at line.plan h i c) step.forced step.decides (round_at line.plan h i c + 1) _;
    told = refl;
    answer = refl;
    happens = goes_on line capacity h ws coin i c step _ _ _ is (done (advancing line h coin i c (round_at line.plan h i c) step) ws allowed);
  }
  event_gone i c None allowed may is = absurd (let e : Some _ ≡ None = sym (cond-true (may_advance line.plan h i c) _ None may) ∙ is in cc)

  event_allowed : (turn : Turn) → refusal line capacity h ws turn ≡ None → By turn (doing line coin h ws turn)
  event_allowed (Announce i b) allowed = record {
    event = runs.announced i b (serial_at h i) _;
    told = refl;
    answer = refl;
    happens = record { serial = refl; done = done (announcing line h i (serial_at h i) b) ws allowed };
  }
  event_allowed (Open i c v) allowed = record { event = runs.opened i c v _; told = refl; answer = refl; happens = done (opening line h i c v) ws allowed }
  event_allowed (Forge m) allowed = record { event = runs.forged m _; told = refl; answer = refl; happens = done (forging line h m) ws allowed }
  event_allowed (Deliver i pick) allowed =
      let some : 0 < waiting_for i ws = grind (arith, nat_tests) in
      event_taken i pick (answer_at i (picked i pick ws) ws) allowed some
      (order.lawful i (picked i pick ws) ws _ _ (λ x. mod-lt pick x) refl refl)
  event_allowed (Advance i c) allowed =
      let may : may_advance line.plan h i c ≡ true = grind (arith, nat_tests) in
      event_gone i c (step_at line.plan h i c) allowed may refl

  event_by : (turn : Turn) (o : Option Refusal) → refusal line capacity h ws turn ≡ o → By turn (acting_by line coin h ws o turn)
  event_by turn (Some e) denied = record { event = runs.refused turn e; told = refl; answer = refl; happens = record { first = denied; memory = refl; carrier = refl } }
  event_by turn None allowed = event_allowed turn allowed

  -- what a turn does is an event of it
  of_event : (turn : Turn) → By turn (act line coin h ws capacity turn)
  unfolding act
  of_event turn = event_by turn (refusal line capacity h ws turn) refl

-- marks that were made one after another are those of a line: at most t, and all in the plan
module _ (plan : Plan) where
  abbrev Lawful : ℕ → Type 0
  Lawful m = (ones m ≤ plan.t) × (m < 2 ^ plan.n)

  none_lawful : Lawful 0
  unfolding ones
  none_lawful = (omega arith, pow_pos plan.n)

  one_more_mark : (m i : ℕ) (is : List ℕ) (k : ℕ) → Lawful m → ((j : ℕ) → Lawful j → marking plan j is ≡ Ok k → Lawful k) → marking plan m (i ∷ is) ≡ Ok k → Lawful k
  one_more_mark m i is k before rest e = go (leb plan.n i) (marked m i) (leb plan.t (ones m)) refl refl refl e where
    answer : Bool → Bool → Bool → Result (Unit {0}) Refusal
    answer a b c = cond a (Err ProcessOutOfRange) (cond (b || c) (Err MarkRefused) (Ok tt))

    go : (a b c : Bool) → leb plan.n i ≡ a → marked m i ≡ b → leb plan.t (ones m) ≡ c → past (answer a b c) (marking plan (cond (is_ok (answer a b c)) (bit_or m (2 ^ i)) m) is) ≡ Ok k → Lawful k
    go true b c x y z e = absurd cc
    go false true c x y z e = absurd cc
    go false false true x y z e = absurd cc
    go false false false x y z e =
        let some : i < plan.n = leb-false plan.n i x in
        let few : ones m < plan.t = leb-false plan.t (ones m) z in
        rest (bit_or m (2 ^ i)) (omega (arith, set_ones m i y), set_inside plan.n m i before.1 some) e

  marked_lawful : (is : List ℕ) (m k : ℕ) → Lawful m → marking plan m is ≡ Ok k → Lawful k
  marked_lawful [] m k before e = let same : m ≡ k = cc in subst Lawful same before
  marked_lawful (i ∷ is) m k before e = one_more_mark m i is k before (λ j x. marked_lawful is j k x) e

module _ (capacity : ℕ) (h : Held) (ws : List Message) where
  -- at a desk with no line open
  tells_nothing : (f : Form) (e : Refusal) → OpensNone h ws f e → Tells capacity (desk None h ws) f (Err e) (desk None h ws)
  tells_nothing f e why = record { told = []; acted = none_opened why; stands = λ es x. x }

  module _ (l : LineForm) where
    abbrev Begins : LineMade → Type 0
    Begins o = Tells capacity (desk None h ws) (form.Line l) (begins ws o).said (begins ws o).desk

    begun_on : (line : Line) → AsksFor l line → open_refusal line.plan h ws ≡ None → Begins (line_made (Ok line) (cleared line.plan h))
    begun_on line asked allowed =
        let large : enough line.plan h ≡ true = (passed (enough line.plan h) _ _ allowed).0 in
        let run = subst (λ xs. Run line capacity keeping [] (cleared line.plan h) xs) (sym (opened_idle line.plan h ws allowed)) (begun h large) in
        record {
          told = [];
          acted = line_opened asked allowed;
          stands = λ es none. subst (λ xs. KeptOn capacity line (cleared line.plan h) ws xs) (sym none) (record { run = run; promises = kept line capacity keeping [] _ ws run });
        }

    begins_by : (line : Line) → AsksFor l line → (o : Option Refusal) → open_refusal line.plan h ws ≡ o → Begins (opens_with h ws line.plan o (Ok line))
    begins_by line asked (Some e) first = tells_nothing _ e (not_opened line asked first)
    begins_by line asked None allowed = begun_on line asked allowed

    begins_marked : (plan : Plan) → planned l.counters l.tolerate 2 1 3 ≡ Ok plan → (r : Result ℕ Refusal) → marking plan 0 l.strange ≡ r → Begins (opens_marked h ws plan r)
    begins_marked plan p (Err e) q = tells_nothing _ e (no_marks plan p q)
    begins_marked plan p (Ok marks) q =
        let fits = marked_lawful plan l.strange 0 marks (none_lawful plan) q in
        let line : Line = record { plan = plan; marks = marks; state = record {}; few = fits.0; inside = fits.1 } in
        subst (λ (r : Result Line Refusal). Begins (opens_with h ws plan (open_refusal plan h ws) r)) (sym (line_of_lem line plan marks refl refl))
        (begins_by line (record { plan = p; marks = q }) (open_refusal plan h ws) refl)

    begins_planned : (r : Result Plan Refusal) → planned l.counters l.tolerate 2 1 3 ≡ r → Begins (opens_planned h ws r l.strange)
    begins_planned (Err e) p = tells_nothing _ e (no_plan p)
    begins_planned (Ok plan) p = begins_marked plan p (marking plan 0 l.strange) refl

  tells_first : (f : Form) → Tells capacity (desk None h ws) f (acts_at capacity None h ws f).said (acts_at capacity None h ws f).desk
  unfolding opens
  tells_first (form.Line l) = begins_planned l (planned l.counters l.tolerate 2 1 3) refl
  tells_first (form.Announce c t) = tells_nothing _ _ refl
  tells_first (form.Open c k v) = tells_nothing _ _ refl
  tells_first (form.Forge g) = tells_nothing _ _ refl
  tells_first (form.Deliver c p) = tells_nothing _ _ refl
  tells_first (form.Advance c k) = tells_nothing _ _ refl

  -- at a desk with a line open
  module _ (line : Line) (f : Form) where
    abbrev Turns : Acted → Type 0
    Turns a = Tells capacity (desk (Some line) h ws) f (turned line a).said (turned line a).desk

    tells_event : (asked : Turn) (a : Acted) → asks f ≡ Ok asked → OfEvent line keeping h ws capacity asked a → Turns a
    tells_event asked a is o =
        let e = o.event in
        subst (λ (r : Result Answer Refusal). Tells capacity (desk (Some line) h ws) f (answered r) (desk (Some line) a.memory a.waiting)) (sym o.answer)
        (record {
          told = e ∷ [];
          acted = by_turn e (is ∙ ap Ok (sym o.told)) o.happens;
          stands = λ es before. let run = runs.after before.run e o.happens in record { run = run; promises = kept line capacity keeping _ _ _ run };
        })

    tells_turn : (r : Result Turn Refusal) → asks f ≡ r → Turns (turns capacity line h ws r)
    tells_turn (Err e) is = record { told = []; acted = no_turn is; stands = λ es x. x }
    tells_turn (Ok asked) is = tells_event asked _ is (of_event line keeping h ws capacity asked)

-- acting by the definition obeys the rules
pub tells : (capacity : ℕ) (d : AtDesk) (f : Form) → Tells capacity d f (acts capacity d f).said (acts capacity d f).desk
tells capacity d f = at d.line where
  at : (o : Option Line) → Tells capacity (desk o d.memory d.waiting) f (acts_at capacity o d.memory d.waiting f).said (acts_at capacity o d.memory d.waiting f).desk
  at None = tells_first capacity d.memory d.waiting f
  at (Some line) = tells_turn capacity d.memory d.waiting line f (asks f) refl

-- and so does what acts as it says
pub tells_as : (capacity : ℕ) (d : AtDesk) (f : Form) (r : Result Said Refusal) (after : AtDesk) → desk_after r after ≡ acts capacity d f → Tells capacity d f r after
tells_as capacity d f r after e = subst (λ (a : DeskAfter). Tells capacity d f a.said a.desk) (sym e) (tells capacity d f)
