-- A rehearsal as a session at one desk: what is printed are its replies, and they tell a run.
use Rattle.std.specs.Prelude.{◌≡◌, ℕ, ◌+◌, List, [], ◌∷◌, ◌++◌, Ok, Err, Result}
use Rattle.protocol.specs.declared.refusals.Refusal.{Refusal}
use Rattle.form.specs.declared.forms.Form.{Form}
use Rattle.script.specs.declared.fault.ScriptFault.{ScriptFault}
use Rattle.script.specs.Lint.{told, checked, lines}
use Rattle.rules.specs.Runs.{Event}
use Rattle.desk.specs.Desk.{AtDesk}
use Rattle.desk.specs.Telling.{ActedOn, Stands}
use Rattle.desk.specs.Wording.{said_text}
use Rattle.desk.specs.declared.said.Said.{Said}
use Rattle.rehearse.specs.Rehearsed.{refused_as_fault, at_start}

module _ (places : ℕ) where
  -- Lines, of which the first has number n, get these replies at a desk to which these events led.
  pub data Session : AtDesk → List Event → ℕ → List (List ℕ) → List (Result Said ScriptFault) → Type 0 where
    at_end : {d : AtDesk} {es : List Event} {n : ℕ} → Session d es n [] []
    -- a line that does not read gets its fault: nothing is told, and nothing changes
    not_read : {d : AtDesk} {es : List Event} {n : ℕ} {line : List ℕ} {ls : List (List ℕ)} {rs : List (Result Said ScriptFault)} (e : ScriptFault) → checked n line ≡ Err e → Session d es (n + 1) ls rs → Session d es n (line ∷ ls) (Err e ∷ rs)
    -- The form of a line is acted on. What was told so far led to the desk as it then stands, and
    -- so the promises hold.
    form_read : {d after : AtDesk} {es new : List Event} {n : ℕ} {line : List ℕ} {ls : List (List ℕ)} {r : Result Said Refusal} {rs : List (Result Said ScriptFault)} (f : Form) → checked n line ≡ Ok f → ActedOn places d f r after new → Stands places after (new ++ es) → Session after (new ++ es) (n + 1) ls rs → Session d es n (line ∷ ls) (refused_as_fault r ∷ rs)

-- the text of replies, each on a line
abbrev pub printed : List (Result Said ScriptFault) → List ℕ
printed [] = []
printed (r ∷ rs) = told said_text r ++ (10 ∷ printed rs)

-- The text is that of the replies of a session, one for each line. It begins at a desk with no
-- line open.
pub record Rehearsal (s text : List ℕ) : Type 0 where
  pub replies : List (Result Said ScriptFault)
  pub shows : text ≡ printed replies
  pub session : Session 400 at_start [] 1 (lines s) replies
