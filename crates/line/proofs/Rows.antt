-- Messages that are posted one after another.
use Rattle.std.proofs.Common.{◌≡◌, ℕ, zero, suc, ◌+◌, ◌<◌, ◌≤◌, Bool, true, false, cond, List, [], ◌∷◌, ◌++◌, length, Ok, Err, Result, sym, refl, ap, ◌∙◌, subst, add-one, arith, length-append}
use Rattle.std.proofs.lemmas.List.{append-nil, append_assoc}
use Rattle.std.specs.Result.{IsOk}
use Rattle.protocol.specs.Bags.{Same}
use Rattle.protocol.specs.Messages.{message, made}
use Rattle.protocol.specs.Sending.{to_all}
use Rattle.protocol.specs.declared.messages.Message.{Message}
use Rattle.protocol.specs.declared.messages.Step.{Step}
use Rattle.protocol.specs.declared.messages.Subject.{Subject}
use Rattle.protocol.specs.declared.refusals.Refusal.{Refusal}
use Rattle.protocol.proofs.Bags.{count_none, count_cons, count_append, same_refl, same_length}
use Rattle.protocol.proofs.Parts.{made_within}
use Rattle.carrier.specs.Posting.{Posts, none, more}
use Rattle.carrier.specs.Waiting.{Posted}
use Rattle.line.specs.Sent.{Sent}

module _ (i : ℕ) (step : Step) (s : Subject) (b : ℕ) where
  to_none : to_all 0 i step s b ≡ []
  unfolding to_all
  to_none = refl

  to_more : (n : ℕ) → to_all (n + 1) i step s b ≡ to_all n i step s b ++ (message i n step s b ∷ [])
  unfolding to_all
  to_more n = ap (λ (k : ℕ). to_all k i step s b) (add-one n)

  pub to_length : (n : ℕ) → length (to_all n i step s b) ≡ n
  unfolding to_all
  to_length zero = refl
  to_length (suc n) = omega (arith, length-append (to_all n i step s b) (message i n step s b ∷ []), to_length n)

made_is : (i n : ℕ) (step : Step) (s : Subject) (b : ℕ) (m : Message) → i < 16 → n < 16 → Ok m ≡ made i n step s b → m ≡ message i n step s b
made_is i n step s b m li ln e = let whole = e ∙ made_within i n step s b li ln in cc

module _ {C : Type 0} (waiting : C → List Message) (capacity : C → ℕ) (posting : C → Message → C → Type 0) where
  pub nothing_sent : (x : C) → Sent waiting capacity posting x [] x
  nothing_sent x = record { kept = refl; same = same_refl (waiting x); posts = none }

  one_more : (x y z : C) (ms : List Message) (m : Message) → Sent waiting capacity posting x ms y → capacity z ≡ capacity y → Same (waiting z) (m ∷ waiting y) → posting y m z → Sent waiting capacity posting x (ms ++ (m ∷ [])) z
  one_more x y z ms m sent kept same posted =
      record {
        kept = kept ∙ sent.kept;
        same = λ p.
            omega (arith, same p, sent.same p, count_cons p m (waiting y), count_append p ms (waiting x), count_append p (ms ++ (m ∷ [])) (waiting x), count_append p ms (m ∷ []), count_cons p m [], count_none p);
        posts = more sent.posts posted;
      }

  -- the loop that sends to all: its start and its step
  module _ (i : ℕ) (step : Step) (s : Subject) (b : ℕ) (x : C) where
    pub sent_none : Sent waiting capacity posting x (to_all 0 i step s b) x
    sent_none = subst (λ ms. Sent waiting capacity posting x ms x) (sym (to_none i step s b)) (nothing_sent x)

    pub sent_more : (n : ℕ) (y z : C) (m : Message) → i < 16 → n < 16 → Ok m ≡ made i n step s b → Sent waiting capacity posting x (to_all n i step s b) y → capacity z ≡ capacity y → Same (waiting z) (m ∷ waiting y) → posting y m z → Sent waiting capacity posting x (to_all (n + 1) i step s b) z
    sent_more n y z m li ln e sent kept same posted =
        let whole : to_all n i step s b ++ (m ∷ []) ≡ to_all (n + 1) i step s b = ap (λ (w : Message). to_all n i step s b ++ (w ∷ [])) (made_is i n step s b m li ln e) ∙ sym (to_more i step s b n) in
        subst (λ ms. Sent waiting capacity posting x ms z) whole (one_more x y z _ m sent kept same posted)

  posts_join : (x y z : C) (ms ns : List Message) → Posts posting x ms y → Posts posting y ns z → Posts posting x (ms ++ ns) z
  posts_join x _ y ms _ p none = subst (λ xs. Posts posting x xs y) (sym (append-nil ms)) p
  posts_join x y z ms _ p (more {ms = ns} {m = m} {mid = mid} q posted) =
      subst (λ xs. Posts posting x xs z) (append_assoc ms ns (m ∷ [])) (more (posts_join x y mid ms ns p q) posted)

  -- one row of messages after another
  pub sent_join : (x y z : C) (ms ns : List Message) → Sent waiting capacity posting x ms y → Sent waiting capacity posting y ns z → Sent waiting capacity posting x (ms ++ ns) z
  sent_join x y z ms ns p q =
      record {
        kept = q.kept ∙ p.kept;
        same = λ t. omega (arith, p.same t, q.same t, count_append t ms (waiting x), count_append t ns (waiting y), count_append t (ms ++ ns) (waiting x), count_append t ms ns);
        posts = posts_join x y z ms ns p.posts q.posts;
      }

  pub sent_length : (x y : C) (ms : List Message) → Sent waiting capacity posting x ms y → length (waiting y) ≡ length ms + length (waiting x)
  sent_length x y ms sent = same_length _ _ sent.same ∙ length-append ms (waiting x)

-- what is sent where it is due
pub due_le : (due : Bool) (n i : ℕ) (step : Step) (s : Subject) (b : ℕ) → length (cond due (to_all n i step s b) []) ≤ n
due_le true n i step s b = omega (arith, to_length i step s b n)
due_le false n i step s b = omega arith

-- a carrier with room does not refuse a message
pub post_ok : (r : Result (Unit {0}) Refusal) (m : Message) (capacity : ℕ) (before after : List Message) → Posted r m capacity before after → length before < capacity → IsOk r
post_ok (Ok x) m capacity before after posted room = refl
post_ok (Err e) m capacity before after posted room = absurd (omega (arith, posted.full))
