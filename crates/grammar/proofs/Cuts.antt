-- The tokens of a written form.
use Rattle.std.proofs.Common.{◌≡◌, ℕ, false, List, [], ◌∷◌, ◌++◌, get_or, codes, decimal, refl, ap, ◌∙◌, append_assoc}
use Rattle.std.specs.Char.{is_ascii_digit}
use Rattle.std.specs.List.{AllByRecursion}
use Rattle.protocol.specs.declared.messages.Step.{Step}
use Rattle.protocol.specs.declared.messages.Step.TheVariants.{Initial, Echo, Ready}
use Rattle.protocol.specs.declared.messages.Subject.{Subject}
use Rattle.protocol.specs.declared.messages.Subject.TheVariants.{Item, Ballot}
use Rattle.token.specs.Tokens.{pieces}
use Rattle.form.specs.declared.forms.Form.{Form}
use Rattle.form.specs.declared.forms.Form.TheVariants.{Line, Announce, Open as Opening, Forge, Deliver, Advance}
use Rattle.form.specs.Format.{Fits64, SubjectFits, FormFits, stepped, marks_written, subjected, written}
use Rattle.grammar.proofs.Commands.{tokens}
use Rattle.grammar.proofs.Digits.{pieces_decimal}
use Rattle.grammar.proofs.Values.{subject_tokens, mark_tokens}

-- a number before a bracket
closed : (n : ℕ) (rest : List ℕ) → Fits64 n → pieces (decimal n ++ (codes ")" ++ rest)) ≡ decimal n ∷ codes ")" ∷ pieces rest
closed n rest h = pieces_decimal n (codes ")" ++ rest) h refl

-- a number that begins a part of a text
within : (n : ℕ) (more rest : List ℕ) → Fits64 n → is_ascii_digit (get_or (more ++ rest) 0 0) ≡ false → pieces ((decimal n ++ more) ++ rest) ≡ decimal n ∷ pieces (more ++ rest)
within n more rest h e = ap pieces (append_assoc (decimal n) more rest) ∙ pieces_decimal n (more ++ rest) h e

spaced : (n : ℕ) (more rest : List ℕ) → Fits64 n → pieces ((decimal n ++ (codes " " ++ more)) ++ rest) ≡ decimal n ∷ codes " " ∷ pieces (more ++ rest)
spaced n more rest h = within n (codes " " ++ more) rest h refl

step_cut : (st : Step) (rest : List ℕ) → pieces (stepped st ++ (codes " " ++ rest)) ≡ stepped st ∷ codes " " ∷ pieces rest
step_cut Initial rest = refl
step_cut Echo rest = refl
step_cut Ready rest = refl

subject_cut : (su : Subject) (rest : List ℕ) → SubjectFits su → pieces (codes " " ++ (subjected su ++ rest)) ≡ subject_tokens su (pieces rest)
subject_cut (Item o n) rest h = rw (spaced o _ rest h.0, within n (codes ")") rest h.1 refl)
subject_cut (Ballot o c r) rest h = rw (spaced o _ rest h.0, spaced c _ rest h.1.0, within r (codes ")") rest h.1.1 refl)

-- marks end in a bracket
abbrev tail : List ℕ → List ℕ
tail ms = marks_written ms ++ codes "))"

marks_end : (ms : List ℕ) → is_ascii_digit (get_or (tail ms) 0 0) ≡ false
marks_end [] = refl
marks_end (m ∷ ms) = refl

marks_cut : (ms : List ℕ) → AllByRecursion Fits64 ms → pieces (tail ms) ≡ mark_tokens ms (codes ")" ∷ [])
marks_cut [] h = refl
marks_cut (m ∷ ms) h = ap (λ ps. codes " " ∷ ps) (within m (marks_written ms) (codes "))") h.0 (marks_end ms) ∙ ap (λ ps. decimal m ∷ ps) (marks_cut ms h.1))

strange_cut : (ms : List ℕ) → pieces (codes "strange" ++ tail ms) ≡ codes "strange" ∷ pieces (tail ms)
strange_cut [] = refl
strange_cut (m ∷ ms) = refl

pub pieces_written : (f : Form) → FormFits f → pieces (written f) ≡ tokens f
pieces_written (Line l) h = rw (closed l.counters _ h.0, closed l.tolerate _ h.1.0, strange_cut l.strange, marks_cut l.strange h.1.1.1)
pieces_written (Announce c t) h = rw (closed c _ h.0, closed t _ h.1)
pieces_written (Opening c n v) h = rw (closed c _ h.0, closed n _ h.1.0, closed v _ h.1.1)
pieces_written (Forge g) h = rw (closed g.from _ h.0, closed g.to _ h.1.0, step_cut g.step, subject_cut g.subject _ h.1.1.0, closed g.body _ h.1.1.1)
pieces_written (Deliver c n) h = rw (closed c _ h.0, closed n _ h.1)
pieces_written (Advance c n) h = rw (closed c _ h.0, closed n _ h.1)
