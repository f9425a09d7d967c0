-- Laws of a set that is kept as the bits of a number.
use Rattle.std.proofs.Common.{◌≡◌, ℕ, zero, suc, ◌+◌, ◌*◌, ◌/◌, ◌%◌, ◌^◌, ◌<◌, ◌≤◌, Bool, true, false, cond, max, ◌||◌, eqb, sym, ap, ◌∙◌, ⊎_elim, mod-lt, div-lt_iff_lt-mul, pow-suc, pow_pos, lit<, arith}
use native.Mathlib.Nat.{div_self, mod_self}
use lib.Bits.{bit_or, or_lt, or_shr, or_mod, or_shifted, or_zero_r}
use lib.Count.{ones, ones_step, ones_cat}
use lib.Pow.{pow-lt, split}
use Rattle.std.specs.Int.{bit_at}
use Rattle.std.proofs.lemmas.Bool.{eqb-false, eq-eqb, ne_eqb, or_left, cases_lt, cases_eq, true≢false}
use Rattle.std.proofs.lemmas.Nat.Bits.{bit_at_or, bit_at-pow_same, bit_at-pow_other, bit_at_above, bit_at_cat_low, bit_at-lt}
use Rattle.protocol.specs.Counting.{below}
use Rattle.protocol.proofs.Counting.{below_none, below_suc, below_alike}
use Rattle.plan.specs.Marks.{marked}

bit_clear : (m i : ℕ) → marked m i ≡ false → bit_at m i ≡ 0
unfolding marked
bit_clear m i h = let ne = eqb-false (bit_at m i) 1 h in ⊎_elim (λ e. absurd (ne e)) (λ n. omega (arith, bit_at-lt m i)) (cases_eq (bit_at m i) 1)

-- a set of numbers below n
pub marked_past : (n m i : ℕ) → m < 2 ^ n → n ≤ i → marked m i ≡ false
unfolding marked
marked_past n m i h le = ap (λ (x : ℕ). eqb x 1) (bit_at_above m n i h le)

pub marked_inside : (n m i : ℕ) → m < 2 ^ n → marked m i ≡ true → i < n
marked_inside n m i h set = ⊎_elim (λ lt. lt) (λ ge. absurd (true≢false (sym set ∙ marked_past n m i h ge))) (cases_lt i n)

pub set_inside : (n m i : ℕ) → m < 2 ^ n → i < n → bit_or m (2 ^ i) < 2 ^ n
set_inside n m i h lt = or_lt n m (2 ^ i) h (pow-lt lt)

-- the ones above bit i and below it
ones_split : (m i : ℕ) → ones m ≡ ones (m / 2 ^ i) + ones (m % 2 ^ i)
ones_split m i = ap ones (sym (split m i)) ∙ ones_cat i (m / 2 ^ i) (m % 2 ^ i) (mod-lt m (pow_pos i))

even_or_one : (q : ℕ) → q % 2 ≡ 0 → bit_or q 1 ≡ q + 1
even_or_one q h = let e : q / 2 * 2 ^ 1 ≡ q = omega arith in ap (λ (x : ℕ). bit_or x 1) (sym e) ∙ or_shifted (q / 2) 1 1 (lit< tt) ∙ ap (λ (x : ℕ). x + 1) e

even_ones : (q : ℕ) → q % 2 ≡ 0 → ones (q + 1) ≡ ones q + 1
even_ones q h =
    let half : (q + 1) / 2 ≡ q / 2 = omega arith in
    let same = ap ones half in
    omega (arith, ones_step (q + 1), ones_step q, same)

-- one more process is marked
pub set_ones : (m i : ℕ) → marked m i ≡ false → ones (bit_or m (2 ^ i)) ≡ ones m + 1
set_ones m i h =
    let even = bit_clear m i h in
    let high : bit_or m (2 ^ i) / 2 ^ i ≡ m / 2 ^ i + 1 =
    or_shr m (2 ^ i) i ∙ ap (λ (x : ℕ). bit_or (m / 2 ^ i) x) (div_self (pow_pos i)) ∙ even_or_one (m / 2 ^ i) even in
    let low : bit_or m (2 ^ i) % 2 ^ i ≡ m % 2 ^ i =
    or_mod m (2 ^ i) i ∙ ap (λ (x : ℕ). bit_or (m % 2 ^ i) x) (mod_self (2 ^ i)) ∙ or_zero_r (m % 2 ^ i) in
    let up = ap ones high in
    let down = ap ones low in
    omega (arith, ones_split (bit_or m (2 ^ i)) i, ones_split m i, up, down, even_ones (m / 2 ^ i) even)

-- process i is in the set, and the others are as they were
pub set_marked : (m i j : ℕ) → marked (bit_or m (2 ^ i)) j ≡ (eqb j i || marked m j)
unfolding marked
set_marked m i j = ap (λ (x : ℕ). eqb x 1) (bit_at_or m (2 ^ i) j) ∙ ⊎_elim here other (cases_eq j i) where
  here : j ≡ i → eqb (max (bit_at m j) (bit_at (2 ^ i) j)) 1 ≡ (eqb j i || eqb (bit_at m j) 1)
  here e =
      let same : bit_at (2 ^ i) j ≡ 1 = ap (λ (k : ℕ). bit_at (2 ^ i) k) e ∙ bit_at-pow_same i in
      let one : max (bit_at m j) (bit_at (2 ^ i) j) ≡ 1 = omega (arith, same, bit_at-lt m j) in
      ap (λ (x : ℕ). eqb x 1) one ∙ sym (or_left (eqb j i) (eqb (bit_at m j) 1) (eq-eqb j i e))

  other : (j ≡ i → ⊥) → eqb (max (bit_at m j) (bit_at (2 ^ i) j)) 1 ≡ (eqb j i || eqb (bit_at m j) 1)
  other ne =
      let kept : max (bit_at m j) (bit_at (2 ^ i) j) ≡ bit_at m j = omega (arith, bit_at-pow_other i j ne) in
      ap (λ (x : ℕ). eqb x 1) kept ∙ sym (ap (λ (b : Bool). b || eqb (bit_at m j) 1) (ne_eqb j i ne))

-- the bits below n are those of the remainder
low_bit : (n m k : ℕ) → k < n → bit_at (m % 2 ^ n) k ≡ bit_at m k
low_bit n m k lt = sym (bit_at_cat_low (m / 2 ^ n) n (m % 2 ^ n) k lt) ∙ ap (λ (x : ℕ). bit_at x k) (split m n)

one_bit : (q : ℕ) → q < 2 → cond (eqb (q % 2) 1) 1 0 ≡ ones q
unfolding ones
one_bit q h =
    ⊎_elim (λ e. ap (λ (x : ℕ). cond (eqb (x % 2) 1) 1 0) e ∙ sym (ap ones e))
    (λ ne. let e : q ≡ 1 = omega arith in ap (λ (x : ℕ). cond (eqb (x % 2) 1) 1 0) e ∙ sym (ap ones e)) (cases_eq q 0)

-- the ones of the number are the members of the set
pub marked_count : (n m : ℕ) → m < 2 ^ n → below n (marked m) ≡ ones m
unfolding marked ones
marked_count zero m h = below_none (marked m) ∙ let e : m ≡ 0 = omega arith in sym (ap ones e)
marked_count (suc n) m h =
    let alike = below_alike n (marked m) (marked (m % 2 ^ n)) (λ k lt. ap (λ (x : ℕ). eqb x 1) (sym (low_bit n m k lt))) in
    let rest = marked_count n (m % 2 ^ n) (mod-lt m (pow_pos n)) in
    let top = one_bit (m / 2 ^ n) ((div-lt_iff_lt-mul (pow_pos n)).1 (omega (arith, pow-suc 2 n))) in
    omega (arith, below_suc n (marked m), alike, rest, top, ones_split m n)

-- a set of few bits has few members
pub few_marked : (n t m : ℕ) → m < 2 ^ n → ones m ≤ t → below n (marked m) ≤ t
few_marked n t m inside few = omega (arith, marked_count n m inside)
