-- Counting processes.
use Rattle.std.specs.Prelude.{ℕ, zero, suc, ◌+◌, Bool, cond}

-- how many k below n pass the test
unfoldable pub below : ℕ → (ℕ → Bool) → ℕ
below zero p = 0
below (suc n) p = cond (p n) 1 0 + below n p
