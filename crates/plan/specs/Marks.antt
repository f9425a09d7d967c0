-- The set of processes that are marked faulty, as the bits of a number.
use Rattle.std.specs.Prelude.{◌≡◌, ℕ, ◌^◌, Bool, cond, ◌&&◌, ◌||◌, is_ok, Ok, Err, Result, ◌==◌, bit_or, count_ones, nat_le}
use Rattle.std.specs.Int.{bit_at}
use Rattle.protocol.specs.declared.refusals.Refusal.{Refusal}
use Rattle.protocol.specs.declared.refusals.Refusal.TheVariants.{ProcessOutOfRange, MarkRefused}
use Rattle.plan.specs.declared.plans.Plan.{Plan}

-- whether bit i is set
unfoldable pub marked : ℕ → ℕ → Bool
marked marks i = bit_at marks i == 1

-- what marking process i answers: there is no such process; it is marked already, or t are
abbrev pub mark_answer : Plan → ℕ → ℕ → Result (Unit {0}) Refusal
mark_answer plan marks i =
    cond (nat_le plan.n i) (Err ProcessOutOfRange) (cond (marked marks i || nat_le plan.t (count_ones marks)) (Err MarkRefused) (Ok tt))

-- the marks after it
abbrev pub marks_after : Plan → ℕ → ℕ → ℕ
marks_after plan marks i = cond (is_ok (mark_answer plan marks i)) (bit_or marks (2 ^ i)) marks

-- where the answer r is no refusal, process i was added to the set, and no other changed
abbrev pub Adds : Result (Unit {0}) Refusal → ℕ → ℕ → ℕ → Type 0
Adds r before i after = (j : ℕ) → marked after j ≡ ((is_ok r && j == i) || marked before j)
