-- What a delivery does, from what its parts do.
use Rattle.std.proofs.Common.{◌≡◌, ℕ, ◌+◌, ◌-◌, ◌*◌, ◌≤◌, Bool, true, false, leb, List, ◌∷◌, ◌++◌, length, None, Ok, Err, Option, Result, sym, refl, ap, ◌∙◌, subst, ⊎_elim, arith}
use Rattle.std.specs.Result.{IsOk}
use Rattle.std.proofs.lemmas.Option.{none-some}
use Rattle.std.proofs.lemmas.Bool.{both_ways, cond-true, cond-false, leb-true, or_cases}
use Rattle.protocol.specs.Bags.{Same, waiting_for}
use Rattle.protocol.specs.declared.refusals.Refusal.{Refusal}
use Rattle.protocol.specs.declared.messages.Message.{Message}
use Rattle.protocol.proofs.Bags.{same_length}
use Rattle.plan.specs.Kinds.{Line}
use Rattle.plan.specs.declared.plans.Plan.{Plan}
use Rattle.carrier.specs.Posting.{Posts}
use Rattle.carrier.specs.Waiting.{Removed, Taken}
use Rattle.memory.specs.Contents.{Held}
use Rattle.broadcast.specs.Receiving.{Outcome, outcome, received}
use Rattle.broadcast.specs.Stages.{nothing}
use Rattle.rules.specs.Turns.{faulty, unless, reacted, replies, process_tests, delivery_tests, room_for_replies}
use Rattle.rules.specs.Answers.{Took}
use Rattle.rules.specs.declared.answers.Delivered.{Delivered}
use Rattle.line.specs.Sent.{Sent}

-- a test that a call passed holds, and it passed the rest
pub passed : (test : Bool) (e : Refusal) (rest : Option Refusal) → unless test e rest ≡ None → (test ≡ true) × (rest ≡ None)
passed true e rest h = (refl, h)
passed false e rest h = absurd (none-some e (sym h))

module _ (line : Line) (i capacity : ℕ) (ws : List Message) (allowed : delivery_tests line i capacity ws ≡ None) where
  -- a carrier in which a message waits does not refuse it
  pub take_ok : (r : Result Message Refusal) (rest : List Message) → Taken r i ws rest → IsOk r
  take_ok (Ok m) rest taken = refl
  take_ok (Err e) rest missing = absurd (omega (arith, leb-true 1 (waiting_for i ws) (passed _ _ _ allowed).0, missing.none))

  room_to_reply : room_for_replies line i capacity ws ≡ true
  room_to_reply = (passed _ _ _ (passed _ _ _ allowed).1).0

module _ {i : ℕ} {m : Message} {ws rest : List Message} (removed : Removed m i ws rest) where
  module _ (line : Line) where
    -- room for two rows of messages, once the message is taken
    pub room_left : {capacity : ℕ} → length ws ≤ capacity → delivery_tests line i capacity ws ≡ None → faulty line i ≡ false → length rest + 2 * line.plan.n ≤ capacity
    room_left {capacity} fits allowed correct =
        ⊎_elim (λ (x : faulty line i ≡ true). absurd (both_ways (faulty line i) correct x)) (λ (x : leb (2 * line.plan.n) (capacity - length ws) ≡ true). omega (arith, leb-true (2 * line.plan.n) (capacity - length ws) x, same_length ws (m ∷ rest) removed.same))
        (or_cases _ _ (room_to_reply line i capacity ws allowed))

    -- what the message does at a faulty process, and at a correct one
    pub drops : (h : Held) → faulty line i ≡ true → reacted line m h ≡ outcome h nothing
    drops h is = cond-true (faulty line m.addressee) _ _ (ap (faulty line) removed.addressee ∙ is)

    pub reacts : (h : Held) {plan : Plan} {x : Outcome} → faulty line i ≡ false → plan ≡ line.plan → x ≡ received plan i m h → reacted line m h ≡ x
    reacts h correct same e =
        cond-false (faulty line m.addressee) _ _ (ap (faulty line) removed.addressee ∙ correct) ∙ (λ j. received (sym same j) (removed.addressee j) m h) ∙ sym e

    pub took :
        {C : Type 0} {waiting : C → List Message} {capacity : C → ℕ} {posting : C → Message → C → Type 0} {taking : C → ℕ → ℕ → Message → C → Type 0}
        {pick : ℕ} {h next : Held} {before mid after : C} {d : Delivered} (x : Outcome)
        → waiting mid ≡ rest
        → taking before i pick m mid
        → ((o : _) → process_tests line h i o ≡ o)
        → delivery_tests line i (capacity before) ws ≡ None
        → reacted line m h ≡ x
        → next ≡ x.held
        → Sent waiting capacity posting mid (replies line.plan.n m x.reaction) after
        → d.posted ≡ length (replies line.plan.n m x.reaction)
        → d.accepted ≡ x.reaction.accepted
        → Took line (capacity before) h ws posting taking i pick d before next (waiting after) after
    took {C} {waiting} {capacity} {posting} {taking} {mid = mid} {after = after} x rest_is taken tests allowed does memory sent counted answer =
        let n = line.plan.n in
        record {
          message = m;
          happens =
              record {
                rest = rest;
                addressee = removed.addressee;
                taken = removed.same;
                done =
                    record {
                      allowed = tests _ ∙ allowed;
                      memory = memory ∙ ap (λ (y : Outcome). y.held) (sym does);
                      carrier =
                          subst (λ (y : Outcome). Same (waiting after) (replies n m y.reaction ++ rest)) (sym does)
                          (subst (λ ys. Same (waiting after) (replies n m x.reaction ++ ys)) rest_is sent.same);
                      counted = counted ∙ ap (λ (y : Outcome). length (replies n m y.reaction)) (sym does);
                    };
                answer = answer ∙ ap (λ (y : Outcome). y.reaction.accepted) (sym does);
              };
          order = record { mid = mid; took = taken; posts = subst (λ (y : Outcome). Posts posting mid (replies n m y.reaction) after) (sym does) sent.posts };
        }
