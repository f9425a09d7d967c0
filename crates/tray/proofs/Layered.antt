-- What posting and taking below do to both layers.
use Rattle.std.proofs.Common.{◌≡◌, ℕ, ◌+◌, ◌≤◌, List, ◌++◌, length, Ok, Err, Result, ap, arith, length-append}
use Rattle.protocol.specs.declared.messages.Message.{Message}
use Rattle.protocol.specs.declared.refusals.Refusal.{Refusal}
use Rattle.protocol.specs.Bags.{count, addressed, waiting_for}
use Rattle.protocol.proofs.Bags.{count_cons, count_append}
use Rattle.carrier.specs.Waiting.{Posted, Added, Taken, Removed}

-- the own messages changed
module _ (own new below : List Message) (m : Message) where
  pub own_added : (capacity : ℕ) → length below ≤ capacity → Added m 8 own new → Added m (8 + capacity) (own ++ below) (new ++ below)
  own_added capacity fits a =
      record {
        room = omega (arith, a.room, length-append own below);
        same = λ p. omega (arith, a.same p, count_append p new below, count_append p own below, count_cons p m own, count_cons p m (own ++ below));
      }

  pub own_removed : (process : ℕ) → Removed m process own new → Removed m process (own ++ below) (new ++ below)
  own_removed process t =
      record {
        addressee = t.addressee;
        same = λ p. omega (arith, t.same p, count_append p own below, count_append p new below, count_cons p m new, count_cons p m (new ++ below));
      }

-- the own messages are as they were
module _ (own new : List Message) (same : new ≡ own) (below after : List Message) where
  pub posted_below : (r : Result (Unit {0}) Refusal) (m : Message) (capacity : ℕ) → length own ≡ 8 → Posted r m capacity below after → Posted r m (8 + capacity) (own ++ below) (new ++ after)
  posted_below (Ok _) m capacity full a =
      record {
        room = omega (arith, a.room, length-append own below);
        same = λ p.
            let e : count p new ≡ count p own = ap (count p) same in
            omega (arith, e, a.same p, count_append p new after, count_append p own below, count_cons p m below, count_cons p m (own ++ below));
      }
  posted_below (Err e) m capacity full f =
      record { why = f.why; full = omega (arith, f.full, length-append own below); same = λ i. same i ++ f.same i }

  pub taken_below : (r : Result Message Refusal) (process : ℕ) → waiting_for process own ≡ 0 → Taken r process below after → Taken r process (own ++ below) (new ++ after)
  taken_below (Ok m) process none t =
      record {
        addressee = t.addressee;
        same = λ p.
            let e : count p new ≡ count p own = ap (count p) same in
            omega (arith, e, t.same p, count_append p own below, count_append p new after, count_cons p m after, count_cons p m (new ++ after));
      }
  taken_below (Err e) process none t =
      record { why = t.why; none = omega (arith, t.none, none, count_append (addressed process) own below); same = λ i. same i ++ t.same i }
