-- The thresholds of n processes of which t may be faulty.
use Rattle.std.specs.Prelude.{ℕ, zero, suc, ◌+◌, ◌*◌, ◌/◌}
use Rattle.plan.specs.declared.plans.Thresholds.{Thresholds}

abbrev pub thresholds_of : ℕ → ℕ → Thresholds
thresholds_of n t = record { echo = (n + t) / 2 + 1; ready = t + 1; accept = 2 * t + 1 }

-- the rows of a sheet for fewer than n processes: m processes have one for each t with 3t < m
abbrev pub rows_before : ℕ → ℕ
rows_before zero = 0
rows_before (suc m) = rows_before m + (m + 2) / 3

-- the row for n and t, where rows are ordered by n and then by t
abbrev pub row_of : ℕ → ℕ → ℕ
row_of n t = rows_before n + t
