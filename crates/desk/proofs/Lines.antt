-- The line of a draft, and of a form.
use Rattle.std.proofs.Common.{◌≡◌, ℕ, suc, ◌^◌, ◌<◌, ◌≤◌, Bool, true, false, List, Some, None, Ok, Err, Option, Result, MatchResult, IsErrAnd, sym, refl, ap, ◌∙◌}
use mathlib.Core.HLevel.{is_prop→PathP}
use native.Mathlib.Bridge.{le_prop}
use lib.Count.{ones}
use Rattle.std.proofs.lemmas.Bool.{and_from, le-leb, lt-ltb, true≢false}
use Rattle.protocol.specs.declared.refusals.Refusal.{Refusal}
use Rattle.plan.specs.Plans.{planned}
use Rattle.plan.specs.declared.plans.Plan.{Plan}
use Rattle.plan.specs.Kinds.{Draft, Line}
use Rattle.protocol.specs.declared.messages.Message.{Message}
use Rattle.form.specs.declared.forms.Form.{Form}
use Rattle.form.specs.declared.forms.Form.TheVariants as form
use Rattle.form.specs.declared.forms.LineForm.{LineForm}
use Rattle.memory.specs.Contents.{Held, cleared}
use Rattle.line.specs.Opening.{open_refusal, LineOpened, LineNotOpened, OpensLine}
use Rattle.desk.specs.Desk.{marking, marks_lawful, line_if, line_of, line_made, opens_with, opens_marked, opens_planned, opens, opens_by}

-- lines with equal plans and marks are equal
same_line : (l k : Line) → l.plan ≡ k.plan → l.marks ≡ k.marks → l ≡ k
same_line l k plan marks = λ i.
    record {
      plan = plan i;
      marks = marks i;
      state = record {};
      few = is_prop→PathP (λ j. ones (marks j) ≤ (plan j).t) (λ j. le_prop {n = ones (marks j)} {m = (plan j).t}) l.few k.few i;
      inside = is_prop→PathP (λ j. marks j < 2 ^ (plan j).n) (λ j. le_prop {n = suc (marks j)} {m = 2 ^ (plan j).n}) l.inside k.inside i;
    }

-- a line is what its plan and marks make
line_is : (line : Line) → line_of line.plan line.marks ≡ Ok line
unfolding line_of
line_is line = go (marks_lawful line.plan line.marks) refl where
  go : (b : Bool) (e : marks_lawful line.plan line.marks ≡ b) → line_if line.plan line.marks b e ≡ Ok line
  go true e = ap Ok (same_line _ line refl refl)
  go false e = absurd (true≢false (sym (and_from _ _ (le-leb (ones line.marks) line.plan.t line.few) (lt-ltb line.marks (2 ^ line.plan.n) line.inside)) ∙ e))

pub line_of_lem : (line : Line) (plan : Plan) (marks : ℕ) → line.plan ≡ plan → line.marks ≡ marks → line_of plan marks ≡ Ok line
line_of_lem line plan marks e f = (λ i. line_of (sym e i) (sym f i)) ∙ line_is line

-- opening the line of a form, from its plan on
module _ (h : Held) (ws : List Message) (l : LineForm) (f : Form) (is : f ≡ form.Line l) where
  pub no_plan : (e : Refusal) → Err e ≡ planned l.counters l.tolerate 2 1 3 → line_made (Err e) h ≡ opens_by h ws f
  unfolding opens
  no_plan e p = ap (λ (r : Result Plan Refusal). opens_planned h ws r l.strange) p ∙ ap (opens_by h ws) (sym is)

  module _ (plan : Plan) (p : Ok plan ≡ planned l.counters l.tolerate 2 1 3) where
    by_marks : (r : Result ℕ Refusal) → r ≡ marking plan 0 l.strange → opens_marked h ws plan r ≡ opens_by h ws f
    unfolding opens
    by_marks r q = ap (opens_marked h ws plan) q ∙ (ap (λ (x : Result Plan Refusal). opens_planned h ws x l.strange) p ∙ ap (opens_by h ws) (sym is))

    pub no_marks : (e : Refusal) → Err e ≡ marking plan 0 l.strange → line_made (Err e) h ≡ opens_by h ws f
    no_marks e q = by_marks (Err e) q

    module _ (draft : Draft) (same : draft.plan ≡ plan) (q : Ok draft.marks ≡ marking plan 0 l.strange) where
      opened : (line : Line) (after : Held) → LineOpened draft h ws line after → line_made (Ok line) after ≡ opens_by h ws f
      opened line after o =
          let allowed : open_refusal plan h ws ≡ None = ap (λ (x : Plan). open_refusal x h ws) (sym same) ∙ o.allowed in
          let memory : after ≡ cleared plan h = o.memory ∙ ap (λ (x : Plan). cleared x h) same in
          ap (line_made (Ok line)) memory
          ∙ ((λ i. opens_with h ws plan (sym allowed i) (sym (line_of_lem line plan draft.marks (o.became.plan ∙ same) o.became.marks) i)) ∙ by_marks (Ok draft.marks) q)

      not_opened : (e : Refusal) (back : Draft) (after : Held) → LineNotOpened draft h ws e back after → line_made (Err e) after ≡ opens_by h ws f
      not_opened e back after o =
          let why : open_refusal plan h ws ≡ Some e = ap (λ (x : Plan). open_refusal x h ws) (sym same) ∙ o.first in
          ap (line_made (Err e)) o.memory
          ∙ (ap (λ (r : Option Refusal). opens_with h ws plan r (line_of plan draft.marks)) (sym why) ∙ by_marks (Ok draft.marks) q)

      -- the line, or the refusal without the draft
      pub opened_or_not : (r : Result Line (Refusal × Draft)) (q : Result Line Refusal) (after : Held) → OpensLine draft h ws r after → MatchResult r (λ l. q ≡ Ok l) (λ e. IsErrAnd q (λ x. x ≡ e.0)) → line_made q after ≡ opens_by h ws f
      opened_or_not (Ok line) q after o e = ap (λ (x : Result Line Refusal). line_made x after) e ∙ opened line after o
      opened_or_not (Err refused) (Ok line) after o e = absurd e
      opened_or_not (Err refused) (Err x) after o e = ap (λ (y : Refusal). line_made (Err y) after) e ∙ not_opened refused.0 refused.1 after o
