-- What a rehearsal of a script answers.
use Rattle.std.specs.Prelude.{ℕ, ◌+◌, List, [], ◌∷◌, ◌++◌, replicate, None, Ok, Err, Result}
use Rattle.form.specs.declared.forms.Form.{Form}
use Rattle.memory.specs.Contents.{Held, silent, unopened}
use Rattle.protocol.specs.declared.refusals.Refusal.{Refusal}
use Rattle.script.specs.declared.fault.ScriptFault.{ScriptFault}
use Rattle.script.specs.declared.fault.ScriptFault.TheVariants.{Refused}
use Rattle.script.specs.Lint.{told, checked, script_answered}
use Rattle.desk.specs.Desk.{AtDesk, desk, acts}
use Rattle.desk.specs.Wording.{said_text}
use Rattle.desk.specs.declared.said.Said.{Said}

-- what a line is answered, and what is then at the desk
pub record Reply : Type 0 where
  pub said : Result Said ScriptFault
  pub desk : AtDesk

abbrev pub reply : Result Said ScriptFault → AtDesk → Reply
reply r d = record { said = r; desk = d }

abbrev pub refused_as_fault : Result Said Refusal → Result Said ScriptFault
refused_as_fault (Ok s) = Ok s
refused_as_fault (Err e) = Err (Refused e)

-- its form is acted on; a line that does not read gets its fault, and nothing changes
abbrev pub reply_to : ℕ → AtDesk → Result Form ScriptFault → Reply
reply_to places d (Ok f) = reply (refused_as_fault (acts places d f).said) (acts places d f).desk
reply_to places d (Err e) = reply (Err e) d

unfoldable pub line_reply : ℕ → ℕ → AtDesk → List ℕ → Reply
line_reply places n d line = reply_to places d (checked n line)

-- the answers to lines, the first of which has number n; each finds what the one before it left
abbrev pub answers : ℕ → AtDesk → ℕ → List (List ℕ) → List ℕ
answers places d n [] = []
answers places d n (l ∷ ls) = told said_text (line_reply places n d l).said ++ (10 ∷ answers places (line_reply places n d l).desk (n + 1) ls)

-- memory for 5 processes with 2 serials, 1 case and 3 phases
unfoldable pub fresh : Held
fresh =
    record {
      broadcasts = replicate 275 silent;
      bodies = replicate 2750 None;
      cases = replicate 5 unopened;
      serials = replicate 5 0;
    }

-- no line is open, and nothing waits
abbrev pub at_start : AtDesk
at_start = desk None fresh []

-- the answer to a whole script, with a basket of 400 places
abbrev pub rehearsed : List ℕ → List ℕ
rehearsed s = script_answered (answers 400 at_start) s
