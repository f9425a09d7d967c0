-- Counting the entries of a list, and the places that have them.
use Rattle.std.proofs.Common.{◌≡◌, ℕ, zero, suc, ◌≤◌, Bool, cond, List, length, get_or, take, count_by, refl, add-one, arith}
use Rattle.std.proofs.lemmas.List.Sums.{sum_by_more}
use Rattle.std.proofs.lemmas.List.{take_all}
use Rattle.protocol.specs.Counting.{below}

module _ {X : Type 0} (p : X → Bool) (d : X) where
  pub count_front : (xs : List X) (n : ℕ) → n ≤ length xs → count_by p (take n xs) ≡ below n (λ k. p (get_or xs k d))
  unfolding below
  count_front xs zero l = refl
  count_front xs (suc n) l =
      let more = rw add-one at (sum_by_more (λ (x : X). cond (p x) 1 0) xs n d (omega arith)) in
      omega (arith, more, count_front xs n (omega arith))

  pub count_places : (xs : List X) (n : ℕ) → length xs ≡ n → count_by p xs ≡ below n (λ k. p (get_or xs k d))
  count_places xs n e = rw (take_all n xs (omega arith)) at (count_front xs n (omega arith))
