-- What a form does at a desk: with no line open it may open one, and then it may be a turn.
use Rattle.std.specs.Prelude.{◌≡◌, ℕ, ◌^◌, Bool, true, false, ◌&&◌, List, [], ◌∷◌, Some, None, Ok, Err, Option, Result, count_ones, nat_le, nat_lt, refl}
use Rattle.std.proofs.lemmas.Bool.{and_parts, leb-true, ltb-true}
use Rattle.protocol.specs.Messages.{made}
use Rattle.protocol.specs.declared.messages.Message.{Message}
use Rattle.protocol.specs.declared.refusals.Refusal.{Refusal}
use Rattle.protocol.specs.declared.refusals.Refusal.TheVariants.{MarkRefused, LineOutOfPlace}
use Rattle.plan.specs.Marks.{mark_answer, marks_after}
use Rattle.plan.specs.Plans.{planned}
use Rattle.plan.specs.declared.plans.Plan.{Plan}
use Rattle.plan.specs.Kinds.{Draft, Line}
use Rattle.item.specs.Tags.{tagged, tag_body}
use Rattle.item.specs.declared.tags.Tag.{Tag}
use Rattle.coin.specs.Sides.{word_side}
use Rattle.form.specs.declared.forms.Form.{Form}
use Rattle.form.specs.declared.forms.Form.TheVariants as form
use Rattle.memory.specs.Contents.{Held, held, cleared}
use Rattle.row.specs.Order.{listed, room}
use Rattle.carriers.specs.Kinds.{Basket}
use Rattle.line.specs.Opening.{open_refusal}
use Rattle.rules.specs.Turns.{Turn, Announce, Open, Forge, Deliver, Advance, Coin}
use Rattle.runs.specs.Performed.{asked}
use Rattle.runs.specs.declared.turns.Answer.{Answer}
use Rattle.runs.specs.declared.turns.Turn as runs
use Rattle.desk.specs.declared.said.Said.{Said}
use Rattle.desk.specs.declared.said.Said.TheVariants.{Opened, Did}
use Rattle.desk.specs.declared.desks.Desk.{Desk}
use Rattle.desk.specs.Act.{Acted, acted, act}

-- what waits in a basket, in order of age, and its places
abbrev pub waiting_in : Basket → List Message
waiting_in b = listed b.row

abbrev pub places_of : Basket → ℕ
places_of b = room b.row

-- the coin that shows keep to all
abbrev pub keeping : Coin
keeping process = word_side 0

-- Processes are marked one after another, and the first refusal counts.
abbrev pub past : Result (Unit {0}) Refusal → Result ℕ Refusal → Result ℕ Refusal
past (Ok _) rest = rest
past (Err e) rest = Err e

abbrev pub marking : Plan → ℕ → List ℕ → Result ℕ Refusal
marking plan marks [] = Ok marks
marking plan marks (i ∷ is) = past (mark_answer plan marks i) (marking plan (marks_after plan marks i) is)

-- the marks of a draft, if it was made
abbrev pub drafted : Result Draft Refusal → Result ℕ Refusal
drafted (Ok draft) = Ok draft.marks
drafted (Err e) = Err e

module _ (plan : Plan) (marks : ℕ) where
  abbrev pub marks_lawful : Bool
  marks_lawful = nat_le (count_ones marks) plan.t && nat_lt marks (2 ^ plan.n)

  abbrev pub line_if : (b : Bool) → marks_lawful ≡ b → Result Line Refusal
  line_if false e = Err MarkRefused
  line_if true e =
      let a = and_parts (nat_le (count_ones marks) plan.t) (nat_lt marks (2 ^ plan.n)) e in
      Ok record { plan = plan; marks = marks; state = record {}; few = leb-true (count_ones marks) plan.t a.0; inside = ltb-true marks (2 ^ plan.n) a.1 }

  -- the line with this plan and these marks; the marks of a draft make one
  unfoldable pub line_of : Result Line Refusal
  line_of = line_if marks_lawful refl

-- what opening a line answers, and what is then in memory
pub record LineMade : Type 0 where
  pub answer : Result Line Refusal
  pub memory : Held

abbrev pub line_made : Result Line Refusal → Held → LineMade
line_made r h = record { answer = r; memory = h }

module _ (h : Held) (ws : List Message) where
  -- the last case but one does not come: what was drafted makes a line
  abbrev pub opens_with : Plan → Option Refusal → Result Line Refusal → LineMade
  opens_with plan (Some e) line = line_made (Err e) h
  opens_with plan None (Err e) = line_made (Err e) h
  opens_with plan None (Ok line) = line_made (Ok line) (cleared plan h)

  abbrev pub opens_marked : Plan → Result ℕ Refusal → LineMade
  opens_marked plan (Err e) = line_made (Err e) h
  opens_marked plan (Ok marks) = opens_with plan (open_refusal plan h ws) (line_of plan marks)

  abbrev pub opens_planned : Result Plan Refusal → List ℕ → LineMade
  opens_planned (Err e) ms = line_made (Err e) h
  opens_planned (Ok plan) ms = opens_marked plan (marking plan 0 ms)

  -- a line of n processes of which t may be faulty and these are, with 2 serials, 1 case and 3
  -- phases
  unfoldable pub opens : ℕ → ℕ → List ℕ → LineMade
  opens n t ms = opens_planned (planned n t 2 1 3) ms

  -- a form that is not for a line is out of place
  abbrev pub opens_by : Form → LineMade
  opens_by (form.Line l) = opens l.counters l.tolerate l.strange
  opens_by (form.Announce c t) = line_made (Err LineOutOfPlace) h
  opens_by (form.Open c k v) = line_made (Err LineOutOfPlace) h
  opens_by (form.Forge g) = line_made (Err LineOutOfPlace) h
  opens_by (form.Deliver c p) = line_made (Err LineOutOfPlace) h
  opens_by (form.Advance c k) = line_made (Err LineOutOfPlace) h

-- The turn that a form asks for where a line is open: its tag or its message is made first.
abbrev pub announce_turn : ℕ → Result Tag Refusal → Result Turn Refusal
announce_turn i (Ok tag) = Ok (Announce i (tag_body tag))
announce_turn i (Err e) = Err e

abbrev pub forge_turn : Result Message Refusal → Result Turn Refusal
forge_turn (Ok m) = Ok (Forge m)
forge_turn (Err e) = Err e

abbrev pub asks : Form → Result Turn Refusal
asks (form.Line l) = Err LineOutOfPlace
asks (form.Announce c t) = announce_turn c (tagged t)
asks (form.Open c k v) = Ok (Open c k v)
asks (form.Forge g) = forge_turn (made g.from g.to g.step g.subject g.body)
asks (form.Deliver c p) = Ok (Deliver c p)
asks (form.Advance c k) = Ok (Advance c k)

-- a turn that was made, by the rules
abbrev pub asking : Result (runs.Turn Tag) Refusal → Result Turn Refusal
asking (Ok turn) = Ok (asked tag_body turn)
asking (Err e) = Err e

-- what is at a desk
pub record AtDesk : Type 0 where
  pub line : Option Line
  pub memory : Held
  pub waiting : List Message

abbrev pub desk : Option Line → Held → List Message → AtDesk
desk line h ws = record { line = line; memory = h; waiting = ws }

abbrev pub state : Desk → AtDesk
state d = desk d.line (held d.memory) (waiting_in d.basket)

-- the places of its basket
abbrev pub places : Desk → ℕ
places d = places_of d.basket

-- what a form is answered, and what is then at the desk
pub record DeskAfter : Type 0 where
  pub said : Result Said Refusal
  pub desk : AtDesk

abbrev pub desk_after : Result Said Refusal → AtDesk → DeskAfter
desk_after s d = record { said = s; desk = d }

abbrev pub answered : Result Answer Refusal → Result Said Refusal
answered (Ok a) = Ok (Did a)
answered (Err e) = Err e

-- a turn on a line
abbrev pub turns : ℕ → Line → Held → List Message → Result Turn Refusal → Acted
turns capacity line h ws (Err e) = acted (Err e) h ws
turns capacity line h ws (Ok turn) = act line keeping h ws capacity turn

abbrev pub turned : Line → Acted → DeskAfter
turned line a = desk_after (answered a.answer) (desk (Some line) a.memory a.waiting)

abbrev pub opened_by : Result Line Refusal → Held → List Message → DeskAfter
opened_by (Ok line) h ws = desk_after (Ok Opened) (desk (Some line) h ws)
opened_by (Err e) h ws = desk_after (Err e) (desk None h ws)

abbrev pub begins : List Message → LineMade → DeskAfter
begins ws o = opened_by o.answer o.memory ws

-- Before a line is open a form may open one, and from then on it may be a turn.
abbrev pub acts_at : ℕ → Option Line → Held → List Message → Form → DeskAfter
acts_at capacity None h ws f = begins ws (opens_by h ws f)
acts_at capacity (Some line) h ws f = turned line (turns capacity line h ws (asks f))

-- what a form does at a desk with a basket of so many places
abbrev pub acts : ℕ → AtDesk → Form → DeskAfter
acts capacity d f = acts_at capacity d.line d.memory d.waiting f
