-- The forms, token by token.
use Rattle.std.proofs.Common.{◌≡◌, ℕ, true, cond, List, [], ◌∷◌, codes, refl, ap, ◌∙◌, subst}
use Rattle.std.specs.Str.{bytes_eq}
use Rattle.protocol.specs.declared.messages.Step.{Step}
use Rattle.protocol.specs.declared.messages.Subject.{Subject}
use Rattle.form.specs.declared.forms.Form.{Form}
use Rattle.form.specs.declared.forms.Form.TheVariants.{Line, Announce, Open as Opening, Forge, Deliver, Advance}
use Rattle.form.specs.Format.{Fits64, FormFits, stepped}
use Rattle.grammar.specs.Grammar.{Shape, done, word, field, commands, command, line, announce, open_command, forge, deliver, advance, form, all_marks}
use Rattle.grammar.proofs.Machine.{good, Yields, Live}
use Rattle.grammar.proofs.PartLaws.{Part, Branch, Offered, fielded, field_part, after_word, before_word, both, both_free, branch, choice}
use Rattle.grammar.proofs.Values.{step_part, subject_part, subject_tokens, mark_tokens, strange_part}

-- the word of a form, and the tokens behind it
abbrev named : Form → List ℕ
named (Line l) = codes "line"
named (Announce c t) = codes "announce"
named (Opening c n v) = codes "open"
named (Forge g) = codes "forge"
named (Deliver c n) = codes "deliver"
named (Advance c n) = codes "advance"

abbrev detailed : Form → List (List ℕ) → List (List ℕ)
detailed (Line l) rest = fielded (codes "counters") l.counters (fielded (codes "tolerate") l.tolerate (codes " " ∷ codes "(" ∷ codes "strange" ∷ mark_tokens l.strange (codes ")" ∷ rest)))
detailed (Announce c t) rest = fielded (codes "counter") c (fielded (codes "tag") t (codes ")" ∷ rest))
detailed (Opening c n v) rest = fielded (codes "counter") c (fielded (codes "case") n (fielded (codes "vote") v (codes ")" ∷ rest)))
detailed (Forge g) rest =
    fielded (codes "from") g.from (fielded (codes "to") g.to (codes " " ∷ codes "(" ∷ stepped g.step ∷ subject_tokens g.subject (codes ")" ∷ fielded (codes "body") g.body (codes ")" ∷ rest))))
detailed (Deliver c n) rest = fielded (codes "counter") c (fielded (codes "pick") n (codes ")" ∷ rest))
detailed (Advance c n) rest = fielded (codes "counter") c (fielded (codes "case") n (codes ")" ∷ rest))

-- what is read behind a word
abbrev after : (Form → Shape) → List ℕ → Shape
after k p =
    cond (bytes_eq p (codes "line")) (line k)
    (cond (bytes_eq p (codes "announce")) (announce k)
    (cond (bytes_eq p (codes "open")) (open_command k)
    (cond (bytes_eq p (codes "forge")) (forge k)
    (cond (bytes_eq p (codes "deliver")) (deliver k) (advance k)))))

-- the forms that some values make
abbrev Makes : {A : Type 0} → ((Form → Shape) → Shape) → (A → Form) → Type 0
Makes part make = Part part make (λ x. FormFits (make x)) (λ x. detailed (make x))

abbrev lines : ℕ × (ℕ × List ℕ) → Form
lines x = Line (record { counters = x.0; tolerate = x.1.0; strange = x.1.1 })

abbrev announces : ℕ × ℕ → Form
announces x = Announce x.0 x.1

abbrev openings : ℕ × (ℕ × ℕ) → Form
openings x = Opening x.0 x.1.0 x.1.1

abbrev forges : ℕ × (ℕ × (Step × (Subject × ℕ))) → Form
forges x = Forge (record { from = x.0; to = x.1.0; step = x.1.1.0; subject = x.1.1.1.0; body = x.1.1.1.1 })

abbrev delivers : ℕ × ℕ → Form
delivers x = Deliver x.0 x.1

abbrev advances : ℕ × ℕ → Form
advances x = Advance x.0 x.1

line_part : Makes line lines
unfolding all_marks
line_part =
    both (λ (n : ℕ) (x : ℕ × List ℕ). lines (n, x)) (field_part (codes "counters") refl)
    (both (λ (t : ℕ) (ms : List ℕ). (t, ms)) (field_part (codes "tolerate") refl)
    (after_word (after_word (after_word (before_word strange_part (codes ")") refl) (codes "strange") refl) (codes "(") refl) (codes " ") refl))

-- a form of two numbers
pair_part : (a b : List ℕ) → good a ≡ true → good b ≡ true → (make : ℕ → ℕ → Form) → Part (λ k. field a (λ m. field b (λ n. word (codes ")") (λ _. k (make m n))))) (λ (x : ℕ × ℕ). make x.0 x.1) (λ x. Fits64 x.0 × Fits64 x.1) (λ x rest. fielded a x.0 (fielded b x.1 (codes ")" ∷ rest)))
pair_part a b g h make = both make (field_part a g) (before_word (field_part b h) (codes ")") refl)

announce_part : Makes announce announces
announce_part = pair_part (codes "counter") (codes "tag") refl refl Announce

opening_part : Makes open_command openings
opening_part =
    both (λ (c : ℕ) (x : ℕ × ℕ). Opening c x.0 x.1) (field_part (codes "counter") refl)
    (both (λ (n v : ℕ). (n, v)) (field_part (codes "case") refl) (before_word (field_part (codes "vote") refl) (codes ")") refl))

forge_part : Makes forge forges
forge_part =
    both (λ (f : ℕ) (x : ℕ × (Step × (Subject × ℕ))). forges (f, x)) (field_part (codes "from") refl)
    (both (λ (c : ℕ) (x : Step × (Subject × ℕ)). (c, x)) (field_part (codes "to") refl)
    (after_word (after_word
    (both_free (λ (st : Step) (x : Subject × ℕ). (st, x)) step_part
    (both (λ (su : Subject) (b : ℕ). (su, b)) (before_word subject_part (codes ")") refl) (before_word (field_part (codes "body") refl) (codes ")") refl)))
    (codes "(") refl) (codes " ") refl))

deliver_part : Makes deliver delivers
deliver_part = pair_part (codes "counter") (codes "pick") refl refl Deliver

advance_part : Makes advance advances
advance_part = pair_part (codes "counter") (codes "case") refl refl Advance

some_form : {A : Type 0} (make : A → Form) (w : List ℕ) → ((x : A) → w ≡ named (make x)) → Makes (λ k. after k w) make → Branch after (λ f. f) FormFits named detailed w
some_form make w is p = branch after (λ f. f) FormFits named detailed w make is p

command_part : Part command (λ f. f) FormFits (λ f rest. named f ∷ detailed f rest)
command_part =
    choice after (λ f. f) FormFits named detailed commands (codes "line") (refl, refl) (
      some_form lines _ (λ x. refl) line_part,
      (
        some_form announces _ (λ x. refl) announce_part,
        (
          some_form openings _ (λ x. refl) opening_part,
          (
            some_form forges _ (λ x. refl) forge_part,
            (
              some_form delivers _ (λ x. refl) deliver_part,
              (some_form advances _ (λ x. refl) advance_part, tt),
            ),
          ),
        ),
      ),
    )
    heads goes
  where
    heads : (f : Form) → Offered commands (named f)
    heads (Line l) = (refl, refl)
    heads (Announce c t) = (refl, refl)
    heads (Opening c n v) = (refl, refl)
    heads (Forge g) = (refl, refl)
    heads (Deliver c n) = (refl, refl)
    heads (Advance c n) = (refl, refl)

    goes : (k : Form → Shape) (f : Form) (rest : List (List ℕ)) (g : Form) → FormFits f → Yields (k f) rest g → Yields (after k (named f)) (detailed f rest) g
    goes k (Line l) rest f h y = line_part.made k (l.counters, (l.tolerate, l.strange)) rest f h y
    goes k (Announce c t) rest g h y = announce_part.made k (c, t) rest g h y
    goes k (Opening c n v) rest g h y = opening_part.made k (c, (n, v)) rest g h y
    goes k (Forge g) rest f h y = forge_part.made k (g.from, (g.to, (g.step, (g.subject, g.body)))) rest f h y
    goes k (Deliver c n) rest g h y = deliver_part.made k (c, n) rest g h y
    goes k (Advance c n) rest g h y = advance_part.made k (c, n) rest g h y

-- the tokens of a form
abbrev pub tokens : Form → List (List ℕ)
tokens f = codes "(" ∷ named f ∷ detailed f []

form_part : Part (λ k. word (codes "(") (λ _. command k)) (λ f. f) FormFits (λ f rest. codes "(" ∷ named f ∷ detailed f rest)
form_part = after_word command_part (codes "(") refl

-- a form is read from just its tokens
pub form_read : (ps : List (List ℕ)) (f : Form) → Yields form ps f → FormFits f × (ps ≡ tokens f)
form_read ps f y =
    let o = form_part.read done ps f y in
    (subst FormFits o.4.1 o.2, o.3 ∙ (ap (λ rest. codes "(" ∷ named o.0 ∷ detailed o.0 rest) o.4.0 ∙ ap tokens o.4.1))

pub form_made : (f : Form) → FormFits f → Yields form (tokens f) f
form_made f h = form_part.made done f [] f h (refl, refl)

pub form_live : Live form
form_live = form_part.live done (λ f h. tt)
