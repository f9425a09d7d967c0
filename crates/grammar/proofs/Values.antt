-- The values of a form that are no plain number: a step, a subject, marks.
use Rattle.std.proofs.Common.{◌≡◌, ℕ, zero, suc, ◌≤◌, cond, List, [], ◌∷◌, ◌++◌, length, codes, decimal, sym, refl, ap, ◌∙◌, subst, append_assoc, append-nil, arith}
use Rattle.std.proofs.lemmas.Slice.Eq.{bytes_eq-Decides}
use Rattle.std.specs.List.{AllByRecursion}
use Rattle.std.specs.Str.{bytes_eq}
use Rattle.protocol.specs.declared.messages.Step.{Step}
use Rattle.protocol.specs.declared.messages.Step.TheVariants.{Initial, Echo, Ready}
use Rattle.protocol.specs.declared.messages.Subject.{Subject}
use Rattle.protocol.specs.declared.messages.Subject.TheVariants.{Item, Ballot}
use Rattle.form.specs.declared.forms.Form.{Form}
use Rattle.form.specs.Format.{Fits64, SubjectFits, MarksFit, stepped}
use Rattle.grammar.specs.Grammar.{Shape, number, marks, step, item, ballot, subject}
use Rattle.grammar.proofs.Machine.{Yields, Live}
use Rattle.grammar.proofs.PartLaws.{Part, Branch, Offered, number_part, arg_part, after_word, before_word, both, branch, choice}

abbrev steps : List (List ℕ)
steps = codes "initial" ∷ codes "echo" ∷ codes "ready" ∷ []

pub step_part : Part step (λ st. st) (λ st. Unit {0}) (λ st rest. stepped st ∷ rest)
step_part =
    choice after (λ st. st) (λ st. Unit {0}) stepped (λ st rest. rest) steps (codes "echo") (refl, refl) (one Initial, (one Echo, (one Ready, tt))) heads
    (λ k st rest f h y. subst (λ s. Yields s rest f) (sym (goes k st)) y)
  where
    after : (Step → Shape) → List ℕ → Shape
    after k p = cond (bytes_eq p (codes "initial")) (k Initial) (cond (bytes_eq p (codes "echo")) (k Echo) (k Ready))

    goes : (k : Step → Shape) (st : Step) → after k (stepped st) ≡ k st
    goes k Initial = refl
    goes k Echo = refl
    goes k Ready = refl

    heads : (st : Step) → Offered steps (stepped st)
    heads Initial = (refl, refl)
    heads Echo = (refl, refl)
    heads Ready = (refl, refl)

    one : (st : Step) → Branch after (λ st. st) (λ st. Unit {0}) stepped (λ st rest. rest) (stepped st)
    one st = record {
      read = λ k ps f y. (st, ps, refl, tt, refl, subst (λ s. Yields s ps f) (goes k st) y);
      live = λ k l. subst Live (sym (goes k st)) (l st tt);
    }

-- a subject's word, and the tokens behind it
abbrev itemed : Subject → List ℕ
itemed (Item o n) = codes "item"
itemed (Ballot o c r) = codes "ballot"

abbrev detailed : Subject → List (List ℕ) → List (List ℕ)
detailed (Item o n) rest = codes " " ∷ decimal o ∷ codes " " ∷ decimal n ∷ codes ")" ∷ rest
detailed (Ballot o c r) rest = codes " " ∷ decimal o ∷ codes " " ∷ decimal c ∷ codes " " ∷ decimal r ∷ codes ")" ∷ rest

abbrev pub subject_tokens : Subject → List (List ℕ) → List (List ℕ)
subject_tokens su rest = codes " " ∷ codes "(" ∷ itemed su ∷ detailed su rest

item_part : Part item (λ (x : ℕ × ℕ). Item x.0 x.1) (λ x. Fits64 x.0 × Fits64 x.1) (λ x rest. detailed (Item x.0 x.1) rest)
item_part = both Item arg_part (before_word arg_part (codes ")") refl)

ballot_part : Part ballot (λ (x : ℕ × (ℕ × ℕ)). Ballot x.0 x.1.0 x.1.1) (λ x. Fits64 x.0 × (Fits64 x.1.0 × Fits64 x.1.1)) (λ x rest. detailed (Ballot x.0 x.1.0 x.1.1) rest)
ballot_part = both (λ (o : ℕ) (x : ℕ × ℕ). Ballot o x.0 x.1) arg_part (both (λ (c r : ℕ). (c, r)) arg_part (before_word arg_part (codes ")") refl))

pub subject_part : Part subject (λ su. su) SubjectFits subject_tokens
subject_part =
    after_word (after_word
    (choice after (λ su. su) SubjectFits itemed detailed (codes "item" ∷ codes "ballot" ∷ []) (codes "item") (refl, refl) (
      branch after (λ su. su) SubjectFits itemed detailed (codes "item") (λ (x : ℕ × ℕ). Item x.0 x.1) (λ x. refl) item_part,
      (branch after (λ su. su) SubjectFits itemed detailed (codes "ballot") (λ (x : ℕ × (ℕ × ℕ)). Ballot x.0 x.1.0 x.1.1) (λ x. refl) ballot_part, tt),
    )
    heads goes)
    (codes "(") refl) (codes " ") refl
  where
    after : (Subject → Shape) → List ℕ → Shape
    after k p = cond (bytes_eq p (codes "item")) (item k) (ballot k)

    heads : (su : Subject) → Offered (codes "item" ∷ codes "ballot" ∷ []) (itemed su)
    heads (Item o n) = (refl, refl)
    heads (Ballot o c r) = (refl, refl)

    goes : (k : Subject → Shape) (su : Subject) (rest : List (List ℕ)) (f : Form) → SubjectFits su → Yields (k su) rest f → Yields (after k (itemed su)) (detailed su rest) f
    goes k (Item o n) rest f h y = item_part.made k (o, n) rest f h y
    goes k (Ballot o c r) rest f h y = ballot_part.made k (o, (c, r)) rest f h y

-- the tokens of marks and of the bracket behind them: the first, and the others
abbrev mark_first : List ℕ → List ℕ
mark_first [] = codes ")"
mark_first (m ∷ ms) = codes " "

abbrev mark_others : List ℕ → List (List ℕ) → List (List ℕ)
mark_others [] rest = rest
mark_others (m ∷ ms) rest = decimal m ∷ mark_first ms ∷ mark_others ms rest

abbrev pub mark_tokens : List ℕ → List (List ℕ) → List (List ℕ)
mark_tokens ms rest = mark_first ms ∷ mark_others ms rest

abbrev MarkFits : ℕ → List ℕ → Type 0
MarkFits n ms = (length ms ≤ n) × AllByRecursion Fits64 ms

none_fits : (n : ℕ) → MarkFits n []
none_fits n = (omega arith, tt)

-- marks behind those of ms: no room is left, or some
module _ (ms : List ℕ) where
  last_mark : Part (marks zero ms) (λ xs. ms ++ xs) (MarkFits zero) mark_tokens
  last_mark = record {
    read = λ k ps f y. ([], y.1, none_fits 0, y.2 ∙ ap (λ p. p ∷ y.1) ((bytes_eq-Decides y.0 (codes ")")).0 y.4), subst (λ l. Yields (k l) y.1 f) (sym (append-nil ms)) y.5);
    made = ends;
    live = λ k l. (codes ")", refl, refl, λ q _ _. subst (λ z. Live (k z)) (append-nil ms) (l [] (none_fits 0)));
  }
    where
      ends : (k : List ℕ → Shape) (xs : List ℕ) (rest : List (List ℕ)) (f : Form) → MarkFits zero xs → Yields (k (ms ++ xs)) rest f → Yields (marks zero ms k) (mark_tokens xs rest) f
      ends k [] rest f h y = (codes ")", rest, refl, refl, refl, subst (λ l. Yields (k l) rest f) (append-nil ms) y)
      ends k (x ∷ xs) rest f h y = absurd (omega (arith, h.0))

  more_marks : (n : ℕ) → ((m : ℕ) → Part (marks n (ms ++ m ∷ [])) (λ xs. ms ++ m ∷ [] ++ xs) (MarkFits n) mark_tokens) → Part (marks (suc n) ms) (λ xs. ms ++ xs) (MarkFits (suc n)) mark_tokens
  more_marks n p =
      choice after (λ xs. ms ++ xs) (MarkFits (suc n)) mark_first mark_others (codes ")" ∷ codes " " ∷ []) (codes ")") (refl, refl) (ends, (more, tt)) heads goes
    where
      after : (List ℕ → Shape) → List ℕ → Shape
      after k q = cond (bytes_eq q (codes ")")) (k ms) (number (λ m. marks n (ms ++ m ∷ []) k))

      heads : (xs : List ℕ) → Offered (codes ")" ∷ codes " " ∷ []) (mark_first xs)
      heads [] = (refl, refl)
      heads (x ∷ xs) = (refl, refl)

      ends : Branch after (λ xs. ms ++ xs) (MarkFits (suc n)) mark_first mark_others (codes ")")
      ends = record {
        read = λ k ps f y. ([], ps, refl, none_fits (suc n), refl, subst (λ l. Yields (k l) ps f) (sym (append-nil ms)) y);
        live = λ k l. subst (λ z. Live (k z)) (append-nil ms) (l [] (none_fits (suc n)));
      }

      more : Branch after (λ xs. ms ++ xs) (MarkFits (suc n)) mark_first mark_others (codes " ")
      more = record {
        read = λ k ps f y.
            let o = number_part.read (λ m. marks n (ms ++ m ∷ []) k) ps f y in
            let z = (p o.0).read k o.1 f o.4 in
            (o.0 ∷ z.0, z.1, refl, (omega (arith, z.2.0), (o.2, z.2.1)), o.3 ∙ ap (λ qs. decimal o.0 ∷ qs) z.3, subst (λ l. Yields (k l) z.1 f) (append_assoc ms (o.0 ∷ []) z.0) z.4);
        live = λ k l. number_part.live (λ m. marks n (ms ++ m ∷ []) k) (λ m h. (p m).live k (λ xs hs. subst (λ z. Live (k z)) (sym (append_assoc ms (m ∷ []) xs)) (l (m ∷ xs) (omega (arith, hs.0), (h, hs.1)))));
      }

      goes : (k : List ℕ → Shape) (xs : List ℕ) (rest : List (List ℕ)) (f : Form) → MarkFits (suc n) xs → Yields (k (ms ++ xs)) rest f → Yields (after k (mark_first xs)) (mark_others xs rest) f
      goes k [] rest f h y = subst (λ l. Yields (k l) rest f) (append-nil ms) y
      goes k (m ∷ xs) rest f h y =
          number_part.made (λ m. marks n (ms ++ m ∷ []) k) m (mark_tokens xs rest) f h.1.0 ((p m).made k xs rest f (omega (arith, h.0), h.1.1) (subst (λ l. Yields (k l) rest f) (sym (append_assoc ms (m ∷ []) xs)) y))

marks_part : (n : ℕ) (ms : List ℕ) → Part (marks n ms) (λ xs. ms ++ xs) (MarkFits n) mark_tokens
marks_part zero ms = last_mark ms
marks_part (suc n) ms = more_marks ms n (λ m. marks_part n (ms ++ m ∷ []))

-- at most 16 of them
pub strange_part : Part (marks 16 []) (λ ms. ms) MarksFit mark_tokens
strange_part = marks_part 16 []
