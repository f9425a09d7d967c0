-- Laws of the messages in the places of a table.
use Rattle.std.proofs.Common.{◌≡◌, ℕ, zero, suc, ◌+◌, ◌<◌, ◌≤◌, Bool, true, false, not, cond, List, [], ◌∷◌, length, get_or, set, Some, None, Option, sym, refl, ap, ◌∙◌, ⊎_elim, arith}
use Rattle.std.specs.Option.{IsSome}
use Rattle.std.specs.List.{count_by, position, position_or_len}
use Rattle.std.proofs.lemmas.List.{length-set, take_all}
use Rattle.std.proofs.lemmas.List.Sums.{sum_by-cons}
use Rattle.std.proofs.lemmas.Option.{none-some}
use Rattle.std.proofs.lemmas.Bool.{eqb-true, false≢true, cond-true, lt-ltb, cases_lt}
use Rattle.protocol.specs.declared.messages.Message.{Message}
use Rattle.protocol.specs.Bags.{count, Same, addressed, waiting_for}
use Rattle.protocol.proofs.Bags.{count_none, count_cons, count_append, same_length}
use Rattle.carrier.specs.Waiting.{Added, Removed}
use Rattle.tray.specs.Layers.{kept_le}
use Rattle.tray.specs.Tables.{in_place, is_free, is_for, messages, kept}

pub kept_all : (ps : List (Option Message)) → length ps ≤ 8 → kept ps ≡ messages ps
kept_all ps few = ap messages (take_all 8 ps few)

pub count_free : (ps : List (Option Message)) → count_by is_free ps + length (messages ps) ≡ length ps
unfolding messages
count_free [] = refl
count_free (None ∷ ps) = omega (arith, sum_by-cons (λ o. cond (is_free o) 1 0) None ps, count_free ps)
count_free (Some m ∷ ps) = omega (arith, sum_by-cons (λ o. cond (is_free o) 1 0) (Some m) ps, count_free ps)

pub count_for : (process : ℕ) (ps : List (Option Message)) → count_by (is_for process) ps ≡ waiting_for process (messages ps)
unfolding messages
count_for process [] = sym (count_none (addressed process))
count_for process (None ∷ ps) = omega (arith, sum_by-cons (λ o. cond (is_for process o) 1 0) None ps, count_for process ps)
count_for process (Some m ∷ ps) = omega (arith, sum_by-cons (λ o. cond (is_for process o) 1 0) (Some m) ps, count_cons (addressed process) m (messages ps), count_for process ps)

none_passes : {X : Type 0} (p : X → Bool) (xs : List X) → length xs ≤ position_or_len p xs → count_by p xs ≡ 0
none_passes p [] h = refl
none_passes p (x ∷ xs) h = sum_by-cons (λ y. cond (p y) 1 0) x xs ∙ step (p x) h (none_passes p xs) where
  step : (b : Bool) → length (x ∷ xs) ≤ cond (not b) (1 + position_or_len p xs) 0 → (length xs ≤ position_or_len p xs → count_by p xs ≡ 0) → cond b 1 0 + count_by p xs ≡ 0
  step true h rest = absurd (omega arith)
  step false h rest = omega (arith, rest (omega arith))

pub none_counted : {X : Type 0} (p : X → Bool) (xs : List X) → position p xs ≡ None → count_by p xs ≡ 0
none_counted p xs h =
    ⊎_elim (λ lt. absurd (none-some _ (sym h ∙ cond-true _ _ _ (lt-ltb _ _ lt)))) (none_passes p xs) (cases_lt (position_or_len p xs) (length xs))

-- a place is written
count_set : (p : Message → Bool) (ps : List (Option Message)) (i : ℕ) (o d : Option Message) → i < length ps → count p (messages (set ps i o)) + count p (in_place (get_or ps i d)) ≡ count p (messages ps) + count p (in_place o)
unfolding messages
count_set p [] i o d h = absurd (omega arith)
count_set p (q ∷ ps) zero o d h = omega (arith, count_append p (in_place q) (messages ps), count_append p (in_place o) (messages ps))
count_set p (q ∷ ps) (suc i) o d h =
    omega (arith, count_append p (in_place q) (messages ps), count_append p (in_place q) (messages (set ps i o)), count_set p ps i o d (omega arith))

-- a place of a table is written
module _ (ps : List (Option Message)) (few : length ps ≤ 8) (i : ℕ) (d : Option Message) (within : i < length ps) where
  kept_set : (p : Message → Bool) (o : Option Message) → count p (kept (set ps i o)) + count p (in_place (get_or ps i d)) ≡ count p (kept ps) + count p (in_place o)
  kept_set p o =
      let before = ap (count p) (kept_all ps few) in
      let after = ap (count p) (kept_all (set ps i o) (omega (arith, length-set ps i o))) in
      omega (arith, before, after, count_set p ps i o d within)

  pub added : (m : Message) → is_free (get_or ps i d) ≡ true → Added m 8 (kept ps) (kept (set ps i (Some m)))
  added m free =
      let both : Same (kept (set ps i (Some m))) (m ∷ kept ps) =
      λ p. omega (arith, kept_set p (Some m), none p (get_or ps i d) free, count_cons p m [], count_cons p m (kept ps), count_none p) in
      record { room = omega (arith, same_length _ _ both, kept_le (set ps i (Some m))); same = both } where
        none : (p : Message → Bool) (o : Option Message) → is_free o ≡ true → count p (in_place o) ≡ 0
        none p None h = count_none p
        none p (Some m) h = absurd (false≢true h)

  pub held : (process : ℕ) → is_for process (get_or ps i d) ≡ true → IsSome (get_or ps i d)
  held process for = go (get_or ps i d) for where
    go : (o : Option Message) → is_for process o ≡ true → IsSome o
    go None h = absurd (false≢true h)
    go (Some m) h = refl

  -- the place has q now
  pub taken : (process : ℕ) (m : Message) (q : Option Message) → is_for process (get_or ps i d) ≡ true → get_or ps i d ≡ Some m → q ≡ None → Removed m process (kept ps) (kept (set ps i q))
  taken process m q for here none =
      rw none (record {
        addressee = eqb-true m.addressee process (sym (ap (is_for process) here) ∙ for);
        same = λ p.
            let one : count p (in_place (get_or ps i d)) ≡ count p (m ∷ []) = ap (λ (o : Option Message). count p (in_place o)) here in
            omega (arith, kept_set p None, one, count_cons p m [], count_cons p m (kept (set ps i None)), count_none p);
      })
