-- The loop that reads marks.
use Rattle.std.proofs.Common.{◌≡◌, ℕ, suc, ◌+◌, ◌-◌, ◌<◌, true, cond, ltb, List, [], ◌∷◌, ◌++◌, length, Option, Some, None, Ok, Err, sym, refl, ap, ◌∙◌, arith, length-append, lt-ltb}
use Rattle.token.specs.declared.cursor.Cursor.{Cursor}
use Rattle.grammar.specs.declared.fault.FormFault.{FormFault}
use Rattle.form.specs.Marks.{added}
use Rattle.grammar.specs.Grammar.{Shape, mark, by_mark, marks, all_marks}
use Rattle.grammar.specs.Reads.{sequel, Reads}

-- from cursor c to d, i marks were read: those of ms
pub record Sofar (c d : Cursor) (i : ℕ) (ms : List ℕ) : Type 0 where
  pub many : length ms ≡ i
  pub onto : (k : List ℕ → Shape) → sequel c (all_marks k) ≡ sequel d (marks (16 - i) ms k)

pub none_yet : (c : Cursor) → Sofar c c 0 []
unfolding all_marks
none_yet c = record { many = refl; onto = λ k. refl }

-- what is read behind i marks
abbrev on : ℕ → List ℕ → (List ℕ → Shape) → Option ℕ → Shape
on i ms k = by_mark (k ms) (λ m. marks (16 - (i + 1)) (ms ++ m ∷ []) k)

module _ (c d : Cursor) (i : ℕ) (ms : List ℕ) (s : Sofar c d i ms) where
  -- what follows the first i marks: one more, or the bracket
  next_turn : i < 16 → (k : List ℕ → Shape) → sequel c (all_marks k) ≡ sequel d (mark (on i ms k))
  next_turn h k = let e : 16 - i ≡ suc (16 - (i + 1)) = omega arith in s.onto k ∙ ap (λ n. sequel d (marks n ms k)) e

  pub mark_fault : (e : Cursor) (x : FormFault) → i < 16 → Reads d e (Err x) mark → Reads c e (Err x) all_marks
  mark_fault e x h r = λ k. next_turn h k ∙ r (on i ms k)

  pub no_more : (e : Cursor) (o : Option ℕ) → i < 16 → o ≡ None → Reads d e (Ok o) mark → Reads c e (Ok ms) all_marks
  no_more e o h is r = λ k. next_turn h k ∙ (r (on i ms k) ∙ ap (λ x. sequel e (on i ms k x)) is)

  pub one_more : (e : Cursor) (o : Option ℕ) (m : ℕ) (ms' : List ℕ) → i < 16 → o ≡ Some m → Reads d e (Ok o) mark → ms' ≡ added ms m → Sofar c e (i + 1) ms'
  one_more e o m ms' h is r a =
      let room : ltb (length ms) 16 ≡ true = lt-ltb (length ms) 16 (omega (arith, s.many)) in
      let same : ms' ≡ ms ++ m ∷ [] = a ∙ ap (λ b. cond b (ms ++ m ∷ []) ms) room in
      record {
        many = omega (arith, length-append ms (m ∷ []), s.many, ap length same);
        onto = λ k. next_turn h k ∙ (r (on i ms k) ∙ (ap (λ x. sequel e (on i ms k x)) is ∙ ap (λ x. sequel e (marks (16 - (i + 1)) x k)) (sym same)));
      }
