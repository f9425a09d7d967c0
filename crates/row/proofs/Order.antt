-- Which message is taken.
use Rattle.std.proofs.Common.{◌≡◌, ℕ, zero, suc, ◌+◌, ◌-◌, ◌<◌, ◌≤◌, Bool, true, false, cond, List, [], ◌∷◌, length, get_or, drop, Some, None, Option, Err, Result, sym, refl, ap, ◌∙◌, subst, ⊎_elim, arith}
use Rattle.std.specs.List.{remove, slice_get}
use Rattle.std.specs.Option.{option_map, ok_or}
use Rattle.std.proofs.lemmas.Option.{slice_get_past, slice_get_cases, none-some, cond_some}
use Rattle.std.proofs.lemmas.List.{at_drop_more, at_drop_all}
use Rattle.std.proofs.lemmas.Bool.{eqb-true, cases_lt, cond-true, cond-false}
use Rattle.protocol.specs.declared.messages.Message.{Message}
use Rattle.protocol.specs.declared.refusals.Refusal.{Refusal}
use Rattle.protocol.specs.declared.refusals.Refusal.TheVariants.{NothingWaiting}
use Rattle.protocol.specs.Bags.{count, Same, addressed, waiting_for}
use Rattle.protocol.proofs.Bags.{count_cons}
use Rattle.carrier.specs.Waiting.{Taken}
use Rattle.row.specs.Order.{place, standing, answer_at, left_at}
use Rattle.row.proofs.Places.{removed_past}

-- the place in a list of one message more, where b says whether that one is for the process
abbrev below : ℕ → List Message → Bool → ℕ → ℕ
below process ms b zero = cond b 0 (suc (place process zero ms))
below process ms b (suc k) = suc (place process (cond b k (suc k)) ms)

module _ (process : ℕ) (m : Message) (ms : List Message) where
  place_here : addressed process m ≡ true → place process 0 (m ∷ ms) ≡ 0
  unfolding place
  place_here h = cond-true (addressed process m) 0 _ h

  place_skip : (k : ℕ) → addressed process m ≡ true → place process (suc k) (m ∷ ms) ≡ suc (place process k ms)
  unfolding place
  place_skip k h = ap (λ (j : ℕ). suc (place process j ms)) (cond-true (addressed process m) k (suc k) h)

  place_pass : (k : ℕ) → addressed process m ≡ false → place process k (m ∷ ms) ≡ suc (place process k ms)
  unfolding place
  place_pass zero h = cond-false (addressed process m) 0 _ h
  place_pass (suc k) h = ap (λ (j : ℕ). suc (place process j ms)) (cond-false (addressed process m) k (suc k) h)

place_none : (process k : ℕ) → place process k [] ≡ 0
unfolding place
place_none process k = refl

-- the steps of a search
module _ (process : ℕ) (ms : List Message) (i : ℕ) (d : Message) (within : i < length ms) where
  pub drop_here : addressed process (get_or ms i d) ≡ true → place process 0 (drop i ms) ≡ 0
  drop_here h = at_drop_more (place process 0) ms i d within ∙ place_here process _ _ h

  pub drop_skip : (k : ℕ) → 0 < k → addressed process (get_or ms i d) ≡ true → place process k (drop i ms) ≡ suc (place process (k - 1) (drop (i + 1) ms))
  drop_skip k pos h =
      let e : k ≡ suc (k - 1) = omega arith in
      ap (λ (j : ℕ). place process j (drop i ms)) e ∙ at_drop_more (place process (suc (k - 1))) ms i d within ∙ place_skip process _ _ (k - 1) h

  pub drop_pass : (k : ℕ) → addressed process (get_or ms i d) ≡ false → place process k (drop i ms) ≡ suc (place process k (drop (i + 1) ms))
  drop_pass k h = at_drop_more (place process k) ms i d within ∙ place_pass process _ _ k h

pub drop_none : (process k : ℕ) (ms : List Message) (i : ℕ) → length ms ≤ i → place process k (drop i ms) ≡ 0
drop_none process k ms i h = at_drop_all (place process k) ms i h ∙ place_none process k

module _ (process k : ℕ) (ms : List Message) where
  pub standing_some : (at : ℕ) → standing process k ms ≡ Some at → (place process k ms ≡ at) × (at < length ms)
  standing_some at h = ⊎_elim here none (slice_get_cases ms (place process k ms)).1 where
    here : (x : Message) × (place process k ms < length ms) × (slice_get ms (place process k ms) ≡ Some x) × (get_or ms (place process k ms) x ≡ x) → (place process k ms ≡ at) × (at < length ms)
    here w = let e : place process k ms ≡ at = (cond_some true _ _ (sym (ap (option_map (λ _. place process k ms)) w.2) ∙ h)).1 in (e, omega arith)

    none : (length ms ≤ place process k ms) × (slice_get ms (place process k ms) ≡ None) → (place process k ms ≡ at) × (at < length ms)
    none w = absurd (none-some at (sym (ap (option_map (λ _. place process k ms)) w.1) ∙ h))

  pub standing_at : (at : ℕ) → place process k ms ≡ at → at < length ms → Some at ≡ standing process k ms
  standing_at at e l = ⊎_elim (λ w. ap Some (sym e) ∙ sym (ap (option_map (λ _. place process k ms)) w.2)) (λ w. absurd (omega (arith, w.0))) (slice_get_cases ms (place process k ms)).1

  pub standing_past : length ms ≤ place process k ms → None ≡ standing process k ms
  standing_past l = sym (ap (option_map (λ _. place process k ms)) (slice_get_past ms (place process k ms) l))

  pub standing_none : standing process k ms ≡ None → length ms ≤ place process k ms
  standing_none h = ⊎_elim (λ w. absurd (none-some _ (sym h ∙ ap (option_map (λ _. place process k ms)) w.2))) (λ w. w.0) (slice_get_cases ms (place process k ms)).1

-- a message for the process stands at i
record Out (process : ℕ) (ms : List Message) (i : ℕ) : Type 0 where
  message : Message
  read : slice_get ms i ≡ Some message
  addressee : message.addressee ≡ process
  same : Same ms (message ∷ remove ms i)

module _ (process : ℕ) (m : Message) (ms : List Message) where
  out_first : addressed process m ≡ true → Out process (m ∷ ms) 0
  out_first h = record { message = m; read = refl; addressee = eqb-true m.addressee process h; same = λ p. refl }

  out_later : (i : ℕ) → Out process ms i → Out process (m ∷ ms) (suc i)
  out_later i o =
      let x = o.message in
      let rest = remove ms i in
      record {
        message = x;
        read = o.read;
        addressee = o.addressee;
        same = λ p. omega (arith, o.same p, count_cons p m ms, count_cons p x rest, count_cons p x (m ∷ rest), count_cons p m rest);
      }

out : (process k : ℕ) (ms : List Message) → k < waiting_for process ms → Out process ms (place process k ms)
unfolding place count
out process k [] h = absurd (omega arith)
out process k (m ∷ ms) h = step (addressed process m) refl k h (λ j. out process j ms) where
  step : (b : Bool) → addressed process m ≡ b → (k : ℕ) → k < cond b 1 0 + waiting_for process ms → ((j : ℕ) → j < waiting_for process ms → Out process ms (place process j ms)) → Out process (m ∷ ms) (below process ms b k)
  step true e zero h rest = out_first process m ms e
  step true e (suc k) h rest = out_later process m ms _ (rest k (omega arith))
  step false e zero h rest = out_later process m ms _ (rest zero (omega arith))
  step false e (suc k) h rest = out_later process m ms _ (rest (suc k) (omega arith))

past : (process k : ℕ) (ms : List Message) → waiting_for process ms ≡ 0 → place process k ms ≡ length ms
unfolding place count
past process k [] h = refl
past process k (m ∷ ms) h = step (addressed process m) k h (λ j. past process j ms) where
  step : (b : Bool) (k : ℕ) → cond b 1 0 + waiting_for process ms ≡ 0 → ((j : ℕ) → waiting_for process ms ≡ 0 → place process j ms ≡ length ms) → below process ms b k ≡ length (m ∷ ms)
  step true k h rest = absurd (omega arith)
  step false zero h rest = ap suc (rest zero (omega arith))
  step false (suc k) h rest = ap suc (rest (suc k) (omega arith))

-- nothing can be taken
module _ (process k : ℕ) (ms : List Message) (none : waiting_for process ms ≡ 0) where
  pub none_answer : answer_at process k ms ≡ Err NothingWaiting
  none_answer = ap (λ (o : Option Message). ok_or o NothingWaiting) (ap (slice_get ms) (past process k ms none) ∙ slice_get_past ms (length ms) (omega arith))

  pub none_left : left_at process k ms ≡ ms
  none_left = ap (remove ms) (past process k ms none) ∙ removed_past ms (length ms) (omega arith)

-- a choice among those that wait for the process is lawful
chosen : (process k : ℕ) (ms : List Message) → (0 < waiting_for process ms → k < waiting_for process ms) → Taken (answer_at process k ms) process ms (left_at process k ms)
chosen process k ms h = ⊎_elim some none (cases_lt 0 (waiting_for process ms)) where
  some : 0 < waiting_for process ms → Taken (answer_at process k ms) process ms (left_at process k ms)
  some lt =
      let o = out process k ms (h lt) in
      subst (λ r. Taken r process ms (left_at process k ms)) (sym (ap (λ (o : Option Message). ok_or o NothingWaiting) o.read)) (record { addressee = o.addressee; same = o.same })

  none : waiting_for process ms ≤ 0 → Taken (answer_at process k ms) process ms (left_at process k ms)
  none le =
      let e : waiting_for process ms ≡ 0 = omega arith in
      subst (λ r. Taken r process ms (left_at process k ms)) (sym (none_answer process k ms e)) (record { why = refl; none = e; same = none_left process k ms e })

pub lawful : (process k : ℕ) (ms : List Message) (r : Result Message Refusal) (after : List Message) → (0 < waiting_for process ms → k < waiting_for process ms) → r ≡ answer_at process k ms → after ≡ left_at process k ms → Taken r process ms after
lawful process k ms r after h e f =
    subst (λ a. Taken a process ms after) (sym e) (subst (Taken (answer_at process k ms) process ms) (sym f) (chosen process k ms h))
