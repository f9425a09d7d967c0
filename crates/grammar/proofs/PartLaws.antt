-- The parts of a form: what the machine reads of each is what writing it gives, token by token.
use Rattle.std.proofs.Common.{◌≡◌, ℕ, true, false, List, [], ◌∷◌, codes, decimal, sym, refl, ap, ◌∙◌, subst, ⊎_elim}
use Rattle.std.proofs.lemmas.Slice.Eq.{bytes_eq-Decides}
use Rattle.std.proofs.lemmas.Bool.{both_ways, or_cases}
use Rattle.std.specs.List.{AllByRecursion}
use Rattle.std.specs.Str.{bytes_eq}
use Rattle.token.specs.Tokens.{worth}
use Rattle.form.specs.declared.forms.Form.{Form}
use Rattle.form.specs.Format.{Fits64}
use Rattle.grammar.specs.Grammar.{Shape, next, word, number, arg, field, known}
use Rattle.grammar.proofs.Machine.{good, Yields, Live}
use Rattle.grammar.proofs.Digits.{number_is, good_decimal, digit_decimal, worth_decimal}

-- A part of the grammar reads the values a that fit, in the tokens that spell gives, and hands
-- them on as name a.
pub record Part {A B : Type 0} (part : (B → Shape) → Shape) (name : A → B) (Fit : A → Type 0) (spell : A → List (List ℕ) → List (List ℕ)) : Type 0 where
  pub read : (k : B → Shape) (ps : List (List ℕ)) (f : Form) → Yields (part k) ps f → (a : A) × (rest : List (List ℕ)) × Fit a × (ps ≡ spell a rest) × Yields (k (name a)) rest f
  pub made : (k : B → Shape) (a : A) (rest : List (List ℕ)) (f : Form) → Fit a → Yields (k (name a)) rest f → Yields (part k) (spell a rest) f
  pub live : (k : B → Shape) → ((a : A) → Fit a → Live (k (name a))) → Live (part k)

pub number_part : Part number (λ n. n) Fits64 (λ n rest. decimal n ∷ rest)
number_part = record {
  read = λ k ps f y.
      let is = number_is y.0 y.3 y.4 in
      (worth y.0, y.1, is.0, y.2 ∙ ap (λ p. p ∷ y.1) is.1, y.5);
  made = λ k n rest f h y. (decimal n, rest, refl, good_decimal n h, digit_decimal n h, subst (λ m. Yields (k m) rest f) (sym (worth_decimal n h)) y);
  live = λ k l. (codes "0", refl, refl, λ q g d. l (worth q) (number_is q g d).0);
}

module _ {A B : Type 0} {part : (B → Shape) → Shape} {name : A → B} {Fit : A → Type 0} {spell : A → List (List ℕ) → List (List ℕ)} (p : Part part name Fit spell) (w : List ℕ) (g : good w ≡ true) where
  -- a word, and then the part
  pub after_word : Part (λ k. word w (λ _. part k)) name Fit (λ a rest. w ∷ spell a rest)
  after_word = record {
    read = λ k ps f y.
        let o = p.read k y.1 f y.5 in
        (o.0, o.1, o.2, y.2 ∙ (ap (λ q. q ∷ y.1) ((bytes_eq-Decides y.0 w).0 y.4) ∙ ap (λ qs. w ∷ qs) o.3), o.4);
    made = λ k a rest f h y. (w, spell a rest, refl, g, (bytes_eq-Decides w w).1 refl, p.made k a rest f h y);
    live = λ k l. (w, g, (bytes_eq-Decides w w).1 refl, λ q _ _. p.live k l);
  }

  -- the part, and then a word
  pub before_word : Part (λ k. part (λ b. word w (λ _. k b))) name Fit (λ a rest. spell a (w ∷ rest))
  before_word = record {
    read = λ k ps f y.
        let o = p.read (λ b. word w (λ _. k b)) ps f y in
        let z = o.4 in
        (o.0, z.1, o.2, o.3 ∙ ap (spell o.0) (z.2 ∙ ap (λ q. q ∷ z.1) ((bytes_eq-Decides z.0 w).0 z.4)), z.5);
    made = λ k a rest f h y. p.made (λ b. word w (λ _. k b)) a (w ∷ rest) f h (w, rest, refl, g, (bytes_eq-Decides w w).1 refl, y);
    live = λ k l. p.live (λ b. word w (λ _. k b)) (λ a h. (w, g, (bytes_eq-Decides w w).1 refl, λ q _ _. l a h));
  }

module _ {A B C D E : Type 0} {p : (B → Shape) → Shape} {q : (D → Shape) → Shape} {m : A → B} {n : C → D} {G : C → Type 0} {s : A → List (List ℕ) → List (List ℕ)} {t : C → List (List ℕ) → List (List ℕ)} (pair : B → D → E) where
  -- one part after another
  pub both : {F : A → Type 0} → Part p m F s → Part q n G t → Part (λ k. p (λ b. q (λ d. k (pair b d)))) (λ (x : A × C). pair (m x.0) (n x.1)) (λ x. F x.0 × G x.1) (λ x rest. s x.0 (t x.1 rest))
  both a b = record {
    read = λ k ps f y.
        let o = a.read (λ u. q (λ d. k (pair u d))) ps f y in
        let z = b.read (λ d. k (pair (m o.0) d)) o.1 f o.4 in
        ((o.0, z.0), z.1, (o.2, z.2), o.3 ∙ ap (s o.0) z.3, z.4);
    made = λ k x rest f h y. a.made (λ u. q (λ d. k (pair u d))) x.0 (t x.1 rest) f h.0 (b.made (λ d. k (pair (m x.0) d)) x.1 rest f h.1 y);
    live = λ k l. a.live (λ u. q (λ d. k (pair u d))) (λ u hu. b.live (λ d. k (pair (m u) d)) (λ v hv. l (u, v) (hu, hv)));
  }

  -- the same, where all values of the first fit
  pub both_free : Part p m (λ a. Unit {0}) s → Part q n G t → Part (λ k. p (λ b. q (λ d. k (pair b d)))) (λ (x : A × C). pair (m x.0) (n x.1)) (λ x. G x.1) (λ x rest. s x.0 (t x.1 rest))
  both_free a b = record {
    read = λ k ps f y. let o = (both a b).read k ps f y in (o.0, o.1, o.2.1, o.3, o.4);
    made = λ k x rest f h y. (both a b).made k x rest f (tt, h) y;
    live = λ k l. (both a b).live k (λ x h. l x h.1);
  }

pub arg_part : Part arg (λ n. n) Fits64 (λ n rest. codes " " ∷ decimal n ∷ rest)
arg_part = after_word number_part (codes " ") refl

abbrev pub fielded : List ℕ → ℕ → List (List ℕ) → List (List ℕ)
fielded name n rest = codes " " ∷ codes "(" ∷ name ∷ codes " " ∷ decimal n ∷ codes ")" ∷ rest

pub field_part : (name : List ℕ) → good name ≡ true → Part (field name) (λ n. n) Fits64 (fielded name)
field_part name g = after_word (after_word (after_word (before_word arg_part (codes ")") refl) name g) (codes "(") refl) (codes " ") refl

-- what holds of each of some words holds of a token that is one of them
known_each : (P : List ℕ → Type 0) (ws : List (List ℕ)) (p : List ℕ) → AllByRecursion P ws → known ws p ≡ true → P p
known_each P [] p h e = absurd (both_ways false refl e)
known_each P (w ∷ ws) p h e =
    ⊎_elim (λ (s : bytes_eq p w ≡ true). subst P (sym ((bytes_eq-Decides p w).0 s)) h.0) (λ (t : known ws p ≡ true). known_each P ws p h.1 t) (or_cases (bytes_eq p w) (known ws p) e)

-- w is one of the words that may come next
abbrev pub Offered : List (List ℕ) → List ℕ → Type 0
Offered ws w = (good w ≡ true) × (known ws w ≡ true)

-- A choice by a first word: value a has the word head a, and then spell a.
module _ {A B : Type 0} (then : (B → Shape) → List ℕ → Shape) (name : A → B) (Fit : A → Type 0) (head : A → List ℕ) (spell : A → List (List ℕ) → List (List ℕ)) where
  -- what is read behind the word w
  pub record Branch (w : List ℕ) : Type 0 where
    pub read : (k : B → Shape) (ps : List (List ℕ)) (f : Form) → Yields (then k w) ps f → (a : A) × (rest : List (List ℕ)) × (w ≡ head a) × Fit a × (ps ≡ spell a rest) × Yields (k (name a)) rest f
    pub live : (k : B → Shape) → ((a : A) → Fit a → Live (k (name a))) → Live (then k w)

  -- some of the values, by a part
  pub branch : {C : Type 0} (w : List ℕ) (some : C → A) → ((c : C) → w ≡ head (some c)) → Part (λ k. then k w) (λ c. name (some c)) (λ c. Fit (some c)) (λ c. spell (some c)) → Branch w
  branch w some is p = record {
    read = λ k ps f y. let o = p.read k ps f y in (some o.0, o.1, is o.0, o.2, o.3, o.4);
    live = λ k l. p.live k (λ c h. l (some c) h);
  }

  -- the whole choice: w is any of its words
  pub choice : (ws : List (List ℕ)) (w : List ℕ) → Offered ws w → AllByRecursion Branch ws → ((a : A) → Offered ws (head a)) → ((k : B → Shape) (a : A) (rest : List (List ℕ)) (f : Form) → Fit a → Yields (k (name a)) rest f → Yields (then k (head a)) (spell a rest) f) → Part (λ k. next (known ws) (then k)) name Fit (λ a rest. head a ∷ spell a rest)
  choice ws w some each heads made = record {
    read = λ k ps f y.
        let o = (known_each Branch ws y.0 each y.4).read k y.1 f y.5 in
        (o.0, o.1, o.3, y.2 ∙ (ap (λ p. p ∷ y.1) o.2 ∙ ap (λ qs. head o.0 ∷ qs) o.4), o.5);
    made = λ k a rest f h y. (head a, spell a rest, refl, (heads a).0, (heads a).1, made k a rest f h y);
    live = λ k l. (w, some.0, some.1, λ q _ is. (known_each Branch ws q each is).live k l);
  }
