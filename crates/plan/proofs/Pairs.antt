-- A test of all pairs n, t with n ≤ 16 and 3t < n, which antt computes.
use Rattle.std.proofs.Common.{◌≡◌, ℕ, zero, suc, ◌*◌, ◌<◌, ◌≤◌, Bool, true, cond, ◌&&◌, ltb, sym, ap, ◌∙◌, ⊎_elim, arith}
use Rattle.std.proofs.lemmas.Bool.{and_parts, cases_eq, cond-true, lt-ltb}

abbrev pub all : ℕ → (ℕ → Bool) → Bool
all zero f = true
all (suc n) f = f n && all n f

pub all_at : (n : ℕ) (f : ℕ → Bool) → all n f ≡ true → (k : ℕ) → k < n → f k ≡ true
all_at zero f h k lt = absurd (omega arith)
all_at (suc n) f h k lt =
    let both = and_parts (f n) (all n f) h in
    ⊎_elim (λ e. ap f e ∙ both.0) (λ ne. all_at n f both.1 k (omega arith)) (cases_eq k n)

abbrev pub pairs : (ℕ → ℕ → Bool) → Bool
pairs f = all 17 (λ n. all 6 (λ t. cond (ltb (3 * t) n) (f n t) true))

pub pairs_at : (f : ℕ → ℕ → Bool) → pairs f ≡ true → (n t : ℕ) → n ≤ 16 → 3 * t < n → f n t ≡ true
pairs_at f h n t few tolerated =
    let row = all_at 17 (λ m. all 6 (λ k. cond (ltb (3 * k) m) (f m k) true)) h n (omega arith) in
    let here = all_at 6 (λ k. cond (ltb (3 * k) n) (f n k) true) row t (omega arith) in
    sym (cond-true (ltb (3 * t) n) (f n t) true (lt-ltb (3 * t) n tolerated)) ∙ here
