-- What acting on a form tells of a run, and that the promises hold where it leads.
use Rattle.std.specs.Prelude.{◌≡◌, ℕ, List, [], ◌∷◌, ◌++◌, Some, None, Ok, Err, Option, Result}
use Rattle.protocol.specs.declared.messages.Message.{Message}
use Rattle.protocol.specs.declared.refusals.Refusal.{Refusal}
use Rattle.protocol.specs.declared.refusals.Refusal.TheVariants.{LineOutOfPlace}
use Rattle.plan.specs.Kinds.{Line}
use Rattle.plan.specs.Plans.{planned}
use Rattle.plan.specs.declared.plans.Plan.{Plan}
use Rattle.memory.specs.Contents.{Held, cleared}
use Rattle.line.specs.Opening.{open_refusal}
use Rattle.form.specs.declared.forms.Form.{Form}
use Rattle.form.specs.declared.forms.Form.TheVariants as form
use Rattle.form.specs.declared.forms.LineForm.{LineForm}
use Rattle.rules.specs.Runs.{Event, Run, turn_of, Happens}
use Rattle.rules.specs.Promises.{Promises}
use Rattle.runs.specs.Performed.{answer_of}
use Rattle.desk.specs.declared.said.Said.{Said}
use Rattle.desk.specs.declared.said.Said.TheVariants.{Opened}
use Rattle.desk.specs.Desk.{AtDesk, desk, keeping, marking, asks, answered}

-- The line that a form asks for: the plan is that of its numbers with 2 serials, 1 case and 3
-- phases, and its marks were made one after another.
pub record AsksFor (l : LineForm) (line : Line) : Type 0 where
  pub plan : planned l.counters l.tolerate 2 1 3 ≡ Ok line.plan
  pub marks : marking line.plan 0 l.strange ≡ Ok line.marks

module _ (h : Held) (ws : List Message) where
  -- why a `line` form opens no line: its numbers make no plan, a mark is refused, or opening is
  pub data LineRefused (l : LineForm) (e : Refusal) : Type 0 where
    no_plan : planned l.counters l.tolerate 2 1 3 ≡ Err e → LineRefused l e
    no_marks : (plan : Plan) → planned l.counters l.tolerate 2 1 3 ≡ Ok plan → marking plan 0 l.strange ≡ Err e → LineRefused l e
    not_opened : (line : Line) → AsksFor l line → open_refusal line.plan h ws ≡ Some e → LineRefused l e

  -- why any form opens none: one that is not for a line is out of place
  abbrev pub OpensNone : Form → Refusal → Type 0
  OpensNone (form.Line l) e = LineRefused l e
  OpensNone _ e = e ≡ LineOutOfPlace

module _ (capacity : ℕ) where
  -- A form is acted on at a desk with this reply, which leaves the desk so and tells these events.
  pub data ActedOn : AtDesk → Form → Result Said Refusal → AtDesk → List Event → Type 0 where
    -- with no line open the form opens none: nothing changes
    none_opened : {h : Held} {ws : List Message} {f : Form} {e : Refusal} → OpensNone h ws f e → ActedOn (desk None h ws) f (Err e) (desk None h ws) []
    -- or the line that it asks for is opened, over a cleared memory
    line_opened : {h : Held} {ws : List Message} {l : LineForm} {line : Line} → AsksFor l line → open_refusal line.plan h ws ≡ None → ActedOn (desk None h ws) (form.Line l) (Ok Opened) (desk (Some line) (cleared line.plan h) ws) []
    -- with a line open the form asks for no turn: nothing changes
    no_turn : {line : Line} {h : Held} {ws : List Message} {f : Form} {e : Refusal} → asks f ≡ Err e → ActedOn (desk (Some line) h ws) f (Err e) (desk (Some line) h ws) []
    -- or an event of the turn that it asks for happens, and the reply is its answer
    by_turn : {line : Line} {h next : Held} {ws left : List Message} {f : Form} → (event : Event) → asks f ≡ Ok (turn_of event) → Happens line capacity h ws keeping event next left → ActedOn (desk (Some line) h ws) f (answered (answer_of event)) (desk (Some line) next left) (event ∷ [])

  -- the events are a run on the line that led to this memory and basket; so the promises hold of it
  pub record KeptOn (line : Line) (h : Held) (ws : List Message) (es : List Event) : Type 0 where
    pub run : Run line capacity keeping es h ws
    pub promises : Promises line keeping es h ws

  -- these events, the newest first, led to the desk as it stands; with no line open nothing was
  -- told
  abbrev pub StandsAt : Option Line → Held → List Message → List Event → Type 0
  StandsAt None h ws es = es ≡ []
  StandsAt (Some line) h ws es = KeptOn line h ws es

  abbrev pub Stands : AtDesk → List Event → Type 0
  Stands d es = StandsAt d.line d.memory d.waiting es

  -- Acting on a form tells events by the rules. What led to the desk before leads, with these, to
  -- the desk after.
  pub record Tells (before : AtDesk) (f : Form) (r : Result Said Refusal) (after : AtDesk) : Type 0 where
    pub told : List Event
    pub acted : ActedOn before f r after told
    pub stands : (es : List Event) → Stands before es → Stands after (told ++ es)
