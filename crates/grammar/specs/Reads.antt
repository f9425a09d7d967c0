-- What the reader's functions do to a cursor, whatever the line goes on with.
use Rattle.std.specs.Prelude.{◌≡◌, ℕ, Bool, cond, List, [], ◌∷◌, length, Some, None, Ok, Err, Option, Result}
use Rattle.token.specs.declared.cursor.Cursor.{Cursor}
use Rattle.token.specs.declared.fault.Position.{Position}
use Rattle.token.specs.Scan.{left, here, bytes_on}
use Rattle.token.specs.Tokens.{lawful, spelling, Suits}
use Rattle.grammar.specs.declared.fault.FormFault.{FormFault}
use Rattle.grammar.specs.declared.fault.FormFault.TheVariants.{Unexpected}
use Rattle.grammar.specs.declared.parts.Found.{Found}
use Rattle.form.specs.declared.forms.Form.{Form}
use Rattle.grammar.specs.Grammar.{Shape, done, next, run}

-- where the machine stops: the form that it has come to, if it has, and the place and the tokens
-- of what is left
pub record Stop : Type 0 where
  pub form : Option Form
  pub place : Position
  pub tokens : List (List ℕ)

abbrev pub short_of_form : Position → List (List ℕ) → Stop
short_of_form at ps = record { form = None; place = at; tokens = ps }

-- A token that is not lawful is left, and any other that does not fit is taken.
unfoldable pub halt : Shape → Position → List (List ℕ) → Stop
halt (done f) at ps = record { form = Some f; place = at; tokens = ps }
halt (next fits then) at [] = short_of_form at []
halt (next fits then) at (p ∷ ps) =
    cond (lawful p) (cond (fits p) (halt (then p) (bytes_on at (length p)) ps) (short_of_form (bytes_on at (length p)) ps)) (short_of_form at (p ∷ ps))

-- what reading a line comes to: its answer, and where the machine then stops
pub record Sequel : Type 0 where
  pub answer : Result Form FormFault
  pub stop : Stop

abbrev pub comes_to : Result Form FormFault → Stop → Sequel
comes_to r x = record { answer = r; stop = x }

-- what a line comes to from a cursor on
unfoldable pub sequel : Cursor → Shape → Sequel
sequel c s = comes_to (run s (here c) (left c)) (halt s (here c) (left c))

-- a line that comes to a fault, where a cursor then stands
abbrev pub stopped : Cursor → FormFault → Sequel
stopped d e = comes_to (Err e) (short_of_form (here d) (left d))

-- what a line comes to behind an answer: the answer's value is used from the new place on, and
-- its fault is the line's
abbrev pub sequel_after : {X : Type 0} → Cursor → Result X FormFault → (X → Shape) → Sequel
sequel_after d (Ok x) k = sequel d (k x)
sequel_after d (Err e) k = stopped d e

-- From cursor c to d the part G of a form was read, with the answer r, for every k that goes on
-- from its value. This fixes r and where d stands, behind a fault too.
abbrev pub Reads : {X : Type 0} → Cursor → Cursor → Result X FormFault → ((X → Shape) → Shape) → Type 0
Reads {X} c d r G = (k : X → Shape) → sequel c (G k) ≡ sequel_after d r k

-- a token of any kind, and its place
abbrev pub Pulled : Cursor → Cursor → Result Found FormFault → Type 0
Pulled c d (Ok t) = (t.place ≡ here c) × (Suits t.token (spelling t.token) × ((fits : List ℕ → Bool) (then : List ℕ → Shape) → sequel c (next fits then) ≡ cond (fits (spelling t.token)) (sequel d (then (spelling t.token))) (stopped d (Unexpected t.place))))
Pulled c d (Err e) = (fits : List ℕ → Bool) (then : List ℕ → Shape) → sequel c (next fits then) ≡ stopped d e

-- behind the form f the line ends, or its first token there is the fault
abbrev pub Ends : Cursor → Form → Result Form FormFault → Type 0
Ends c f r = (sequel c (done f)).answer ≡ r
