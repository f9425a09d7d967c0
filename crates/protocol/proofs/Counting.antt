-- Laws of counting below a number.
use Rattle.std.proofs.Common.{◌≡◌, ℕ, zero, suc, ◌+◌, ◌<◌, ◌≤◌, Bool, true, false, cond, refl, ap, ⊎_elim, arith}
use Rattle.std.proofs.lemmas.Bool.{both_ways, cases_lt}
use Rattle.protocol.specs.Counting.{below}

pub below_none : (p : ℕ → Bool) → below 0 p ≡ 0
unfolding below
below_none p = refl

pub below_suc : (n : ℕ) (p : ℕ → Bool) → below (suc n) p ≡ cond (p n) 1 0 + below n p
unfolding below
below_suc n p = refl

pub one_more : (x y : Bool) → (x ≡ true → y ≡ true) → cond x 1 0 ≤ cond y 1 0
one_more true true h = omega arith
one_more true false h = absurd (both_ways false refl (h refl))
one_more false y h = omega arith

pub below_le : (n : ℕ) (p : ℕ → Bool) → below n p ≤ n
unfolding below
below_le zero p = omega arith
below_le (suc n) p = omega (arith, one_more (p n) true (λ _. refl), below_le n p)

-- tests that agree below n count alike
pub below_alike : (n : ℕ) (p q : ℕ → Bool) → ((k : ℕ) → k < n → p k ≡ q k) → below n p ≡ below n q
unfolding below
below_alike zero p q h = refl
below_alike (suc n) p q h = λ i. cond (h n (omega arith) i) 1 0 + below_alike n p q (λ k lt. h k (omega arith)) i

-- none that fails is counted
pub below_zero : (n : ℕ) (p : ℕ → Bool) → ((k : ℕ) → k < n → p k ≡ false) → below n p ≡ 0
unfolding below
below_zero zero p h = refl
below_zero (suc n) p h =
    let f : ◌≡◌ {A = ℕ} (cond (p n) 1 0) 0 = ap (λ (z : Bool). cond z 1 0) (h n (omega arith)) in
    omega (arith, below_zero n p (λ k l. h k (omega arith)))

-- what fails from n on is not counted
pub below_past : (m n : ℕ) (p : ℕ → Bool) → n ≤ m → ((k : ℕ) → n ≤ k → p k ≡ false) → below m p ≡ below n p
below_past zero n p l none = ap (λ (k : ℕ). below k p) (omega arith)
below_past (suc m) n p l none =
    ⊎_elim (λ (x : m < n). let e : suc m ≡ n = omega arith in ap (λ (k : ℕ). below k p) e) (λ (x : n ≤ m). let f : ◌≡◌ {A = ℕ} (cond (p m) 1 0) 0 = ap (λ (z : Bool). cond z 1 0) (none m x) in omega (arith, below_suc m p, below_past m n p x none)) (cases_lt m n)

-- more are counted below a larger number
pub below_grows : (p : ℕ → Bool) (k j : ℕ) → k ≤ j → below k p ≤ below j p
below_grows p k zero l = let is : k ≡ 0 = omega arith in omega (arith, ap (λ (m : ℕ). below m p) is)
below_grows p k (suc j) l =
    ⊎_elim (λ (x : k < suc j). omega (arith, below_grows p k j (omega arith), below_suc j p)) (λ (x : suc j ≤ k). let is : k ≡ suc j = omega arith in omega (arith, ap (λ (m : ℕ). below m p) is)) (cases_lt k (suc j))

-- a test that passes wherever another does counts as many
pub below_monotone : (n : ℕ) (p q : ℕ → Bool) → ((k : ℕ) → k < n → p k ≡ true → q k ≡ true) → below n p ≤ below n q
unfolding below
below_monotone zero p q h = omega arith
below_monotone (suc n) p q h = omega (arith, one_more (p n) (q n) (h n (omega arith)), below_monotone n p q (λ k l. h k (omega arith)))
