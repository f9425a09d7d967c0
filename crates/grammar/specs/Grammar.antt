-- The format of a script's forms, as a machine that is fed a line's tokens.
use Rattle.std.specs.Prelude.{ℕ, zero, suc, Bool, false, cond, ◌&&◌, ◌||◌, List, [], ◌∷◌, ◌++◌, length, Some, None, Ok, Err, codes, Option, Result, slice_index}
use Rattle.std.specs.Char.{is_ascii_digit}
use Rattle.std.specs.Str.{bytes_eq}
use Rattle.protocol.specs.declared.messages.Step.{Step}
use Rattle.protocol.specs.declared.messages.Step.TheVariants.{Initial, Echo, Ready}
use Rattle.protocol.specs.declared.messages.Subject.{Subject}
use Rattle.protocol.specs.declared.messages.Subject.TheVariants.{Item, Ballot}
use Rattle.token.specs.declared.fault.Position.{Position}
use Rattle.token.specs.Scan.{bytes_on}
use Rattle.token.specs.Tokens.{pieces, lawful, worth}
use Rattle.grammar.specs.declared.fault.FormFault.{FormFault}
use Rattle.grammar.specs.declared.fault.FormFault.TheVariants.{Token, Unexpected}
use Rattle.form.specs.declared.forms.Form.{Form}
use Rattle.form.specs.declared.forms.Form.TheVariants.{Line, Announce, Open as Opening, Forge, Deliver, Advance}

-- where a reader stands: a form is whole, or the next token is tested and the reader goes on by it
pub data Shape : Type 0 where
  done : Form → Shape
  next : (List ℕ → Bool) → (List ℕ → Shape) → Shape

-- the fault of a token that does not belong at its place
abbrev pub misplaced : Position → List ℕ → FormFault
misplaced at p = cond (lawful p) (Unexpected at) (Token (record { place = at }))

-- Reads tokens from a place. The first that does not fit is told, and of a token that is not
-- lawful that.
unfoldable pub run : Shape → Position → List (List ℕ) → Result Form FormFault
run (done f) at [] = Ok f
run (done f) at (p ∷ ps) = Err (misplaced at p)
run (next fits then) at [] = Err (Unexpected at)
run (next fits then) at (p ∷ ps) = cond (lawful p && fits p) (run (then p) (bytes_on at (length p)) ps) (Err (misplaced at p))

-- Each part of a form takes what is read behind it: k is told the part's value.
-- a token of given bytes
abbrev pub word : List ℕ → (Unit {0} → Shape) → Shape
word w k = next (λ p. bytes_eq p w) (λ _. k tt)

abbrev pub number : (ℕ → Shape) → Shape
number k = next (λ p. is_ascii_digit (slice_index p 0)) (λ p. k (worth p))

-- " N"
abbrev pub arg : (ℕ → Shape) → Shape
arg k = word (codes " ") (λ _. number k)

-- " (NAME N)"
abbrev pub field : List ℕ → (ℕ → Shape) → Shape
field name k = word (codes " ") (λ _. word (codes "(") (λ _. word name (λ _. arg (λ n. word (codes ")") (λ _. k n)))))

-- whether a token is one of these words
abbrev pub known : List (List ℕ) → List ℕ → Bool
known [] p = false
known (w ∷ ws) p = bytes_eq p w || known ws p

-- " M", one mark more, or ")"
abbrev pub mark : (Option ℕ → Shape) → Shape
mark k = next (known (codes ")" ∷ codes " " ∷ [])) (λ p. cond (bytes_eq p (codes ")")) (k None) (number (λ m. k (Some m))))

abbrev pub by_mark : Shape → (ℕ → Shape) → Option ℕ → Shape
by_mark last more None = last
by_mark last more (Some m) = more m

-- " M .. )" with at most n marks, behind those of ms
abbrev pub marks : ℕ → List ℕ → (List ℕ → Shape) → Shape
marks zero ms k = word (codes ")") (λ _. k ms)
marks (suc n) ms k = mark (by_mark (k ms) (λ m. marks n (ms ++ m ∷ []) k))

unfoldable pub all_marks : (List ℕ → Shape) → Shape
all_marks k = marks 16 [] k

abbrev pub line : (Form → Shape) → Shape
line k =
    field (codes "counters") (λ n. field (codes "tolerate") (λ t.
    word (codes " ") (λ _. word (codes "(") (λ _. word (codes "strange") (λ _. all_marks (λ ms.
    word (codes ")") (λ _. k (Line (record { counters = n; tolerate = t; strange = ms })))))))))

abbrev pub announce : (Form → Shape) → Shape
announce k = field (codes "counter") (λ c. field (codes "tag") (λ t. word (codes ")") (λ _. k (Announce c t))))

abbrev pub open_command : (Form → Shape) → Shape
open_command k =
    field (codes "counter") (λ c. field (codes "case") (λ n. field (codes "vote") (λ v.
    word (codes ")") (λ _. k (Opening c n v)))))

abbrev pub step : (Step → Shape) → Shape
step k =
    next (known (codes "initial" ∷ codes "echo" ∷ codes "ready" ∷ []))
    (λ p. cond (bytes_eq p (codes "initial")) (k Initial) (cond (bytes_eq p (codes "echo")) (k Echo) (k Ready)))

abbrev pub item : (Subject → Shape) → Shape
item k = arg (λ o. arg (λ n. word (codes ")") (λ _. k (Item o n))))

abbrev pub ballot : (Subject → Shape) → Shape
ballot k = arg (λ o. arg (λ c. arg (λ r. word (codes ")") (λ _. k (Ballot o c r)))))

-- " (item O S)" or " (ballot O K R)"
abbrev pub subject : (Subject → Shape) → Shape
subject k =
    word (codes " ") (λ _. word (codes "(") (λ _.
    next (known (codes "item" ∷ codes "ballot" ∷ [])) (λ p. cond (bytes_eq p (codes "item")) (item k) (ballot k))))

abbrev pub forge : (Form → Shape) → Shape
forge k =
    field (codes "from") (λ f. field (codes "to") (λ c.
    word (codes " ") (λ _. word (codes "(") (λ _. step (λ st. subject (λ su. word (codes ")") (λ _.
    field (codes "body") (λ b. word (codes ")") (λ _. k (Forge (record { from = f; to = c; step = st; subject = su; body = b })))))))))))

abbrev pub deliver : (Form → Shape) → Shape
deliver k = field (codes "counter") (λ c. field (codes "pick") (λ n. word (codes ")") (λ _. k (Deliver c n))))

abbrev pub advance : (Form → Shape) → Shape
advance k = field (codes "counter") (λ c. field (codes "case") (λ n. word (codes ")") (λ _. k (Advance c n))))

abbrev pub commands : List (List ℕ)
commands = codes "line" ∷ codes "announce" ∷ codes "open" ∷ codes "forge" ∷ codes "deliver" ∷ codes "advance" ∷ []

-- the rest of the form that a word names
abbrev pub named : (Form → Shape) → List ℕ → Shape
named k p =
    cond (bytes_eq p (codes "line")) (line k)
    (cond (bytes_eq p (codes "announce")) (announce k)
    (cond (bytes_eq p (codes "open")) (open_command k)
    (cond (bytes_eq p (codes "forge")) (forge k)
    (cond (bytes_eq p (codes "deliver")) (deliver k) (advance k)))))

abbrev pub command : (Form → Shape) → Shape
command k = next (known commands) (named k)

abbrev pub form : Shape
form = word (codes "(") (λ _. command done)

-- the form that a line is, or its fault: line is its number in the script
abbrev pub reading : ℕ → List ℕ → Result Form FormFault
reading at s = run form (record { line = at; byte = 1 }) (pieces s)
