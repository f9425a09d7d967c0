-- The lines of a script, one by one.
use Rattle.std.proofs.Common.{◌≡◌, ℕ, suc, ◌+◌, ◌-◌, ◌<◌, Bool, true, false, cond, not, eqb, Option, Some, None, List, [], ◌∷◌, length, rules, take, drop, sym, refl, ap, ◌∙◌, arith}
use Rattle.std.proofs.lemmas.List.{drop-drop, nil_from_length, take_rest}
use Rattle.std.specs.List.{position, position_or_len}
use Rattle.std.specs.Option.{unwrap_or}
use Rattle.std.proofs.lemmas.List.Recursion.{is_position_or_len}
use Rattle.std.proofs.lemmas.List.Sums.{prefix_len-le-length}
use Rattle.std.proofs.lemmas.Bool.Decides.{nat_tests}
use Rattle.std.specs.Borrow.{Bor}
use Rattle.std.specs.Slice.{IsGetRangeResult}
use Rattle.script.specs.Lint.{lines, on_line, line_length}

-- a line break ends the line, and any other byte goes on it
by_first : (b : ℕ) (bs : List ℕ) → on_line b (lines bs) ≡ (b ∷ take (line_length bs) bs) ∷ lines (drop (suc (line_length bs)) bs) → lines (b ∷ bs) ≡ take (line_length (b ∷ bs)) (b ∷ bs) ∷ lines (drop (suc (line_length (b ∷ bs))) (b ∷ bs))
by_first b bs on = go (eqb b 10) refl
  where
    first : Bool → List (List ℕ)
    first t = cond t ([] ∷ lines bs) (on_line b (lines bs))

    cut : ℕ → List (List ℕ)
    cut n = take n (b ∷ bs) ∷ lines (drop n bs)

    go : (t : Bool) → eqb b 10 ≡ t → first (eqb b 10) ≡ cut (cond (eqb b 10) 0 (suc (line_length bs)))
    go true e = ap first e ∙ sym (ap (λ t. cut (cond t 0 (suc (line_length bs)))) e)
    go false e = ap first e ∙ (on ∙ sym (ap (λ t. cut (cond t 0 (suc (line_length bs)))) e))

-- a script is its first line before the others
lines_first : (b : ℕ) (bs : List ℕ) → lines (b ∷ bs) ≡ take (line_length (b ∷ bs)) (b ∷ bs) ∷ lines (drop (suc (line_length (b ∷ bs))) (b ∷ bs))
lines_first b [] = by_first b [] refl
lines_first b (c ∷ cs) = by_first b (c ∷ cs) (ap (on_line b) (lines_first c cs))

pub lines_some : (s : List ℕ) → 0 < length s → lines s ≡ take (line_length s) s ∷ lines (drop (suc (line_length s)) s)
lines_some [] h = absurd (omega arith)
lines_some (b ∷ bs) h = lines_first b bs

-- a line ends where the first line break stands, or with the script
length_is : (s : List ℕ) → line_length s ≡ position_or_len (λ b. eqb b 10) s
length_is s = is_position_or_len line_length (λ b. eqb b 10) refl (λ x xs. grind arith) s

pub length_from_break : (s : List ℕ) (o : Option ℕ) (k : ℕ) → o ≡ position (λ b. eqb b 10) s → k ≡ unwrap_or o (length s) → k ≡ line_length s
length_from_break s o k e u = let w = length_is s in let b = prefix_len-le-length (λ x. not (eqb x 10)) s in grind (arith, nat_tests)

-- what is behind the break that begins b, if there is one
pub behind_break : (b : Bor (List ℕ)) (o : Option (Bor (List ℕ))) (r : Bor (List ℕ)) → IsGetRangeResult b.now 1 (length b.now) o → r ≡ unwrap_or o b → r.now ≡ drop 1 b.now
behind_break b None r h e = let none : length b.now ≡ 0 = omega (arith, h.0) in ap (λ x. x.now) e ∙ (nil_from_length b.now none ∙ sym (ap (drop 1) (nil_from_length b.now none)))
behind_break b (Some x) r h e = let is : x.now ≡ take (length b.now - 1) (drop 1 b.now) = search rules in ap (λ x. x.now) e ∙ (is ∙ take_rest b.now 1)

pub next_line : (s f b r : List ℕ) (k : ℕ) → 0 < length s → k ≡ line_length s → f ≡ take k s → b ≡ drop k s → r ≡ drop 1 b → lines s ≡ f ∷ lines r
next_line s f b r k h e is back on =
    let more : r ≡ drop (suc (line_length s)) s = on ∙ (ap (drop 1) back ∙ (drop-drop 1 k s ∙ ap (λ n. drop n s) (let m : k + 1 ≡ suc (line_length s) = omega arith in m))) in
    lines_some s h ∙ (λ i. sym (is ∙ ap (λ n. take n s) e) i ∷ lines (sym more i))
