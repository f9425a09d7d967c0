-- What checking a script answers.
use Rattle.std.specs.Prelude.{◌≡◌, ℕ, suc, ◌+◌, cond, List, [], ◌∷◌, ◌++◌, length, Ok, Err, codes, decimal, Result, ◌==◌, nat_lt}
use Rattle.form.specs.declared.forms.Form.{Form}
use Rattle.form.specs.Format.{written}
use Rattle.grammar.specs.declared.fault.FormFault.{FormFault}
use Rattle.grammar.specs.declared.fault.FormFault.TheVariants.{Token, Unexpected}
use Rattle.grammar.specs.Grammar.{reading}
use Rattle.protocol.specs.declared.refusals.Refusal.{Refusal}
use Rattle.protocol.specs.declared.refusals.Refusal.TheVariants.{MemoryTooSmall, NotRead}
use Rattle.protocol.specs.Refusals.{refusal_number}
use Rattle.token.specs.declared.fault.Position.{Position}
use Rattle.script.specs.declared.fault.ScriptFault.{ScriptFault}
use Rattle.script.specs.declared.fault.ScriptFault.TheVariants.{Form as Unread, Refused}

abbrev pub placed : List ℕ → Position → List ℕ
placed layer at =
    codes "(fault (layer " ++ (layer ++ (codes ") (line " ++ (decimal at.line ++ (codes ") (byte " ++ (decimal at.byte ++ codes "))")))))

abbrev pub refusal_text : Refusal → List ℕ
refusal_text e = codes "(refused " ++ (decimal (refusal_number e) ++ codes ")")

abbrev pub form_fault_text : FormFault → List ℕ
form_fault_text (Token f) = placed (codes "token") f.place
form_fault_text (Unexpected at) = placed (codes "form") at

abbrev pub fault_text : ScriptFault → List ℕ
fault_text (Unread e) = form_fault_text e
fault_text (Refused e) = refusal_text e

-- which refusal a fault is: a line that does not read is one too
abbrev pub refusal_of : ScriptFault → Refusal
refusal_of (Unread e) = NotRead
refusal_of (Refused e) = e

-- A script's lines. Each ends at a byte 10 or with the script, and none follows a last byte 10.
abbrev pub on_line : ℕ → List (List ℕ) → List (List ℕ)
on_line b [] = (b ∷ []) ∷ []
on_line b (l ∷ ls) = (b ∷ l) ∷ ls

abbrev pub lines : List ℕ → List (List ℕ)
lines [] = []
lines (b ∷ bs) = cond (b == 10) ([] ∷ lines bs) (on_line b (lines bs))

-- how many bytes stand before the first line's end
abbrev pub line_length : List ℕ → ℕ
line_length [] = 0
line_length (b ∷ bs) = cond (b == 10) 0 (suc (line_length bs))

-- a line's form, its fault carried whole
abbrev pub carried : Result Form FormFault → Result Form ScriptFault
carried (Ok f) = Ok f
carried (Err e) = Err (Unread e)

abbrev pub checked : ℕ → List ℕ → Result Form ScriptFault
checked n line = carried (reading n line)

-- a script has at most 4,096 bytes
abbrev pub sized : List ℕ → Result (Unit {0}) ScriptFault
sized s = cond (nat_lt 4096 (length s)) (Err (Refused MemoryTooSmall)) (Ok tt)

-- the text of an answer, or of why there is none
abbrev pub told : {A : Type 0} → (A → List ℕ) → Result A ScriptFault → List ℕ
told text (Ok a) = text a
told text (Err e) = fault_text e

-- the answer to a whole script, by the answers to its lines, of which the first has number 1
abbrev pub whole : (ℕ → List (List ℕ) → List ℕ) → List ℕ → Result (Unit {0}) ScriptFault → List ℕ
whole answers s (Ok x) = answers 1 (lines s)
whole answers s (Err e) = fault_text e ++ (10 ∷ [])

abbrev pub script_answered : (ℕ → List (List ℕ) → List ℕ) → List ℕ → List ℕ
script_answered answers s = whole answers s (sized s)

-- a line with this number is answered so, where these were the answers to lines before, and those
-- are the ones to come
abbrev pub Responds : {A : Type 0} → (A → List ℕ) → (before after : ℕ → List (List ℕ) → List ℕ) → ℕ → List ℕ → Result A ScriptFault → Type 0
Responds text before after n line r = (ls : List (List ℕ)) → told text r ++ (10 ∷ after (n + 1) ls) ≡ before n (line ∷ ls)

-- A linter's answers: each line gets its form written back, or its fault.
abbrev pub written_back : ℕ → List (List ℕ) → List ℕ
written_back n [] = []
written_back n (l ∷ ls) = told written (checked n l) ++ (10 ∷ written_back (n + 1) ls)

-- what a linter answers to a whole script
abbrev pub linted : List ℕ → List ℕ
linted s = script_answered written_back s
