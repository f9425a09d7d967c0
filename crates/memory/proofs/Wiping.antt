-- The front of a list is overwritten, the rest stays.
use Rattle.std.proofs.Common.{◌≡◌, ℕ, zero, suc, ◌+◌, ◌<◌, min, List, [], ◌∷◌, ◌++◌, length, take, drop, get_or, set, sym, refl, ap, ◌∙◌, add-one, arith}
use Rattle.memory.specs.Contents.{wiped}

module _ {X : Type 0} (x : X) where
  wiped_suc : (i : ℕ) (xs : List X) → i < length xs → set (wiped i x xs) i x ≡ wiped (suc i) x xs
  unfolding wiped
  wiped_suc i [] lt = absurd (omega arith)
  wiped_suc zero (y ∷ xs) lt = refl
  wiped_suc (suc i) (y ∷ xs) lt = ap (λ (ys : List X). x ∷ ys) (wiped_suc i xs (omega arith))

  pub wiped_none : (xs : List X) → wiped 0 x xs ≡ xs
  unfolding wiped
  wiped_none xs = refl

  -- a loop's step
  pub wiped_more : (i : ℕ) (xs : List X) → i < length xs → set (wiped i x xs) i x ≡ wiped (i + 1) x xs
  wiped_more i xs lt = wiped_suc i xs lt ∙ ap (λ (k : ℕ). wiped k x xs) (sym (add-one i))

  -- a loop over the front alone
  pub wiped_front : (n m : ℕ) (xs : List X) → n ≡ min m (length xs) → wiped n x (take n xs) ++ drop n xs ≡ wiped m x xs
  unfolding wiped
  wiped_front zero zero xs e = refl
  wiped_front zero (suc m) [] e = refl
  wiped_front zero (suc m) (y ∷ xs) e = absurd (omega arith)
  wiped_front (suc n) zero xs e = absurd (omega arith)
  wiped_front (suc n) (suc m) [] e = absurd (omega arith)
  wiped_front (suc n) (suc m) (y ∷ xs) e = ap (λ (ys : List X). x ∷ ys) (wiped_front n m xs (omega arith))

  pub wiped_length : (n : ℕ) (xs : List X) → length (wiped n x xs) ≡ length xs
  unfolding wiped
  wiped_length zero xs = refl
  wiped_length (suc n) [] = refl
  wiped_length (suc n) (y ∷ xs) = ap suc (wiped_length n xs)

  -- what stands in front, and what is read behind the end
  pub wiped_at : (n k : ℕ) (xs : List X) → k < n → get_or (wiped n x xs) k x ≡ x
  unfolding wiped
  wiped_at zero k xs lt = absurd (omega arith)
  wiped_at (suc n) k [] lt = refl
  wiped_at (suc n) zero (y ∷ xs) lt = refl
  wiped_at (suc n) (suc k) (y ∷ xs) lt = wiped_at n k xs (omega arith)
