-- Messages in order of posting, and which of them is taken.
use Rattle.std.specs.Prelude.{◌≡◌, ℕ, zero, suc, ◌-◌, ◌%◌, ◌≤◌, cond, List, [], ◌∷◌, ◌++◌, length, take, Ok, Err, Option, Result}
use Rattle.std.proofs.Common.{arith, length-take}
use Rattle.std.specs.List.{remove, slice_get}
use Rattle.std.specs.Option.{option_map, ok_or}
use Rattle.protocol.specs.declared.messages.Message.{Message}
use Rattle.protocol.specs.declared.refusals.Refusal.{Refusal}
use Rattle.protocol.specs.declared.refusals.Refusal.TheVariants.{NothingWaiting}
use Rattle.protocol.specs.Bags.{addressed, waiting_for}
use Rattle.row.specs.declared.rows.Row.{Row}

-- what waits, in order of posting
abbrev pub listed : Row → List Message
listed row = take row.held row.places.now

abbrev pub room : Row → ℕ
room row = length row.places.now

pub listed_fits : (row : Row) → length (listed row) ≤ room row
listed_fits row = omega (arith, length-take row.held row.places.now)

-- what posting leaves
abbrev pub pushed : Result (Unit {0}) Refusal → List Message → Message → List Message
pushed (Ok _) ms m = ms ++ (m ∷ [])
pushed (Err e) ms m = ms

-- where number k, from 0, of the messages for a process stands; behind all of them if there are not
-- so many
unfoldable pub place : ℕ → ℕ → List Message → ℕ
place process k [] = 0
place process zero (m ∷ ms) = cond (addressed process m) 0 (suc (place process zero ms))
place process (suc k) (m ∷ ms) = suc (place process (cond (addressed process m) k (suc k)) ms)

-- the same, if there are so many
abbrev pub standing : ℕ → ℕ → List Message → Option ℕ
standing process k ms = option_map (λ _. place process k ms) (slice_get ms (place process k ms))

-- what taking number k answers and leaves
abbrev pub answer_at : ℕ → ℕ → List Message → Result Message Refusal
answer_at process k ms = ok_or (slice_get ms (place process k ms)) NothingWaiting

abbrev pub left_at : ℕ → ℕ → List Message → List Message
left_at process k ms = remove ms (place process k ms)

-- message m was number k of those for the process, and the others are left in their order
pub record TookAt (process k : ℕ) (before : List Message) (m : Message) (after : List Message) : Type 0 where
  pub taken : answer_at process k before ≡ Ok m
  pub left : after ≡ left_at process k before

-- The number of the message that is taken. The oldest has number 0.
abbrev pub newest : ℕ → List Message → ℕ
newest process ms = waiting_for process ms - 1

abbrev pub picked : ℕ → ℕ → List Message → ℕ
picked process pick ms = pick % waiting_for process ms
