-- Messages that wait, told by their parts.
use Rattle.std.proofs.Common.{◌≡◌, ℕ, zero, suc, ◌<◌, ◌≤◌, Bool, true, false, ◌&&◌, eqb, ◌⊎◌, List, [], ◌∷◌, ◌++◌, Some, None, Option, sym, refl, ap, ◌∙◌, subst, ap₂, inl, inr, ⊎_elim, arith}
use mathlib.Core.Path.{subst₃}
use Rattle.std.proofs.lemmas.Bool.{both_ways, eqb-true, eq-eqb, and_parts, and_from, cond-true, cond-false, cases_lt}
use Rattle.protocol.specs.declared.messages.Message.{Message}
use Rattle.protocol.specs.declared.messages.Step.{Step}
use Rattle.protocol.specs.declared.messages.Step.TheVariants.{Initial, Echo, Ready}
use Rattle.protocol.specs.declared.messages.Subject.{Subject}
use Rattle.protocol.specs.declared.messages.Subject.TheVariants.{Item, Ballot}
use Rattle.protocol.specs.Bags.{count, Same, addressed, waiting_for}
use Rattle.protocol.specs.Messages.{message}
use Rattle.protocol.proofs.Bags.{count_none, count_cons, count_append}
use Rattle.protocol.proofs.Counting.{one_more}
use Rattle.protocol.proofs.Parts.{sender_of, addressee_of, step_of, subject_of, body_of}
use Rattle.protocol.specs.Sending.{to_all}
use Rattle.agreement.specs.Runs.{same_subject, spread}
use Rattle.agreement.proofs.Bodies.{some_once}

pub same_subject_true : (s u : Subject) → same_subject s u ≡ true → s ≡ u
same_subject_true (Item i s) (Item j u) h = let e = and_parts _ _ h in ap₂ Item (eqb-true i j e.0) (eqb-true s u e.1)
same_subject_true (Item i s) (Ballot j d q) h = absurd (both_ways false refl h)
same_subject_true (Ballot i c r) (Item j u) h = absurd (both_ways false refl h)
same_subject_true (Ballot i c r) (Ballot j d q) h =
    let e = and_parts _ _ h in
    let f = and_parts _ _ e.1 in
    λ x. Ballot (eqb-true i j e.0 x) (eqb-true c d f.0 x) (eqb-true r q f.1 x)

pub subject_same : (s : Subject) → same_subject s s ≡ true
subject_same (Item i s) = and_from _ _ (eq-eqb i i refl) (eq-eqb s s refl)
subject_same (Ballot i c r) = and_from _ _ (eq-eqb i i refl) (and_from _ _ (eq-eqb c c refl) (eq-eqb r r refl))

abbrev step_number : Step → ℕ
step_number Initial = 0
step_number Echo = 1
step_number Ready = 2

abbrev step_at_lem : ℕ → Step
step_at_lem zero = Initial
step_at_lem (suc zero) = Echo
step_at_lem (suc (suc n)) = Ready

step_back : (s : Step) → step_at_lem (step_number s) ≡ s
step_back Initial = refl
step_back Echo = refl
step_back Ready = refl

-- whether a message is this one: from k to i, with step, subject and body
fits : ℕ → ℕ → Step → Subject → ℕ → Message → Bool
fits k i step s b m =
    eqb m.sender k && (eqb m.addressee i && (eqb (step_number m.step) (step_number step) && (same_subject m.subject s && eqb m.body b)))

pub record Is (m : Message) (k i : ℕ) (step : Step) (s : Subject) (b : ℕ) : Type 0 where
  pub from : m.sender ≡ k
  pub to : m.addressee ≡ i
  pub at : m.step ≡ step
  pub of : m.subject ≡ s
  pub holds : m.body ≡ b

module _ (k i : ℕ) (step : Step) (s : Subject) (b : ℕ) where
  fits_is : (m : Message) → fits k i step s b m ≡ true → Is m k i step s b
  unfolding fits
  fits_is m h =
      let p = and_parts (eqb m.sender k) _ h in
      let q = and_parts (eqb m.addressee i) _ p.1 in
      let u = and_parts (eqb (step_number m.step) (step_number step)) _ q.1 in
      let v = and_parts (same_subject m.subject s) _ u.1 in
      record {
        from = eqb-true _ _ p.0;
        to = eqb-true _ _ q.0;
        at = sym (step_back m.step) ∙ (ap step_at_lem (eqb-true _ _ u.0) ∙ step_back step);
        of = same_subject_true _ _ v.0;
        holds = eqb-true _ _ v.1;
      }

  is_fits : (m : Message) → Is m k i step s b → fits k i step s b m ≡ true
  unfolding fits
  is_fits m h =
      and_from _ _ (eq-eqb _ _ h.from) (and_from _ _ (eq-eqb _ _ h.to) (and_from _ _ (eq-eqb _ _ (ap step_number h.at))
      (and_from _ _ (ap (λ u. same_subject u s) h.of ∙ subject_same s) (eq-eqb _ _ h.holds))))

count_within : (p q : Message → Bool) → ((m : Message) → p m ≡ true → q m ≡ true) → (ms : List Message) → count p ms ≤ count q ms
count_within p q h [] = omega (arith, count_none p)
count_within p q h (m ∷ ms) = omega (arith, count_cons p m ms, count_cons q m ms, one_more (p m) (q m) (h m), count_within p q h ms)

-- such a message is among these
pub waits : List Message → ℕ → ℕ → Step → Subject → ℕ → Type 0
waits ms k i step s b = 1 ≤ count (fits k i step s b) ms

module _ (k i : ℕ) (step : Step) (s : Subject) (b : ℕ) where
  pub waits_same : (xs ys : List Message) → Same xs ys → waits xs k i step s b → waits ys k i step s b
  unfolding waits
  waits_same xs ys e h = omega (arith, e (fits k i step s b))

  pub waits_none : waits [] k i step s b → ⊥
  unfolding waits
  waits_none h = omega (arith, count_none (fits k i step s b))

  pub waits_here : (m : Message) (ms : List Message) → Is m k i step s b → waits (m ∷ ms) k i step s b
  unfolding waits
  waits_here m ms h =
      omega (arith, count_cons (fits k i step s b) m ms, cond-true {A = ℕ} (fits k i step s b m) 1 0 (is_fits k i step s b m h))

  pub waits_there : (m : Message) (ms : List Message) → waits ms k i step s b → waits (m ∷ ms) k i step s b
  unfolding waits
  waits_there m ms h = omega (arith, count_cons (fits k i step s b) m ms)

  pub waits_cons : (m : Message) (ms : List Message) → waits (m ∷ ms) k i step s b → Is m k i step s b ⊎ waits ms k i step s b
  unfolding waits
  waits_cons m ms h = go (fits k i step s b m) refl
    where
      go : (t : Bool) → fits k i step s b m ≡ t → Is m k i step s b ⊎ (1 ≤ count (fits k i step s b) ms)
      go true e = inl (fits_is k i step s b m e)
      go false e = inr (omega (arith, count_cons (fits k i step s b) m ms, cond-false {A = ℕ} (fits k i step s b m) 1 0 e))

  pub waits_left : (xs ys : List Message) → waits xs k i step s b → waits (xs ++ ys) k i step s b
  unfolding waits
  waits_left xs ys h = omega (arith, count_append (fits k i step s b) xs ys)

  pub waits_right : (xs ys : List Message) → waits ys k i step s b → waits (xs ++ ys) k i step s b
  unfolding waits
  waits_right xs ys h = omega (arith, count_append (fits k i step s b) xs ys)

  pub waits_append : (xs ys : List Message) → waits (xs ++ ys) k i step s b → waits xs k i step s b ⊎ waits ys k i step s b
  unfolding waits
  waits_append xs ys h =
      ⊎_elim (λ (l : 0 < count (fits k i step s b) xs). inl (omega arith)) (λ (l : count (fits k i step s b) xs ≤ 0). inr (omega (arith, count_append (fits k i step s b) xs ys)))
      (cases_lt 0 (count (fits k i step s b) xs))

  -- what waits for i is counted among what waits for i
  pub waits_counted : (ms : List Message) → waits ms k i step s b → 1 ≤ waiting_for i ms
  unfolding waits
  waits_counted ms h =
      omega (arith, count_within (fits k i step s b) (addressed i) (λ m e. eq-eqb _ _ (fits_is k i step s b m e).to) ms)

-- what is sent to all below n
pub to_all_waits : (n k i : ℕ) (step : Step) (s : Subject) (b : ℕ) → n ≤ 16 → k < 16 → i < n → waits (to_all n k step s b) k i step s b
unfolding to_all
to_all_waits zero k i step s b small lk li = absurd (omega arith)
to_all_waits (suc n) k i step s b small lk li =
    ⊎_elim (λ (l : i < n). waits_left k i step s b _ _ (to_all_waits n k i step s b (omega arith) lk l)) (λ (l : n ≤ i).
    let is : n ≡ i = omega arith in
    waits_right k i step s b (to_all n k step s b) _ (waits_here k i step s b _ [] (record {
      from = sender_of k n step s b lk;
      to = addressee_of k n step s b (omega arith) ∙ is;
      at = step_of k n step s b;
      of = subject_of k n step s b;
      holds = body_of k n step s b;
    })))
    (cases_lt i n)

-- a message that was sent to all tells what was sent
pub record Told (k : ℕ) (step : Step) (s : Subject) (b : ℕ) (k₁ : ℕ) (step₁ : Step) (s₁ : Subject) (b₁ : ℕ) : Type 0 where
  pub from : k ≡ k₁
  pub at : step ≡ step₁
  pub of : s ≡ s₁
  pub holds : b ≡ b₁

pub told_gives : (k k₁ : ℕ) (step step₁ : Step) (s s₁ : Subject) (b b₁ : ℕ) (P : ℕ → Step → Subject → ℕ → Type 0) → Told k step s b k₁ step₁ s₁ b₁ → P k step s b → P k₁ step₁ s₁ b₁
told_gives k k₁ step step₁ s s₁ b b₁ P t h = subst (P k₁ step₁ s₁) t.holds (subst₃ (λ i x u. P i x u b) t.from t.at t.of h)

module _ (k k₁ i₁ : ℕ) (step step₁ : Step) (s s₁ : Subject) (b b₁ : ℕ) (lk : k < 16) where
  pub to_all_told : (n : ℕ) → waits (to_all n k step s b) k₁ i₁ step₁ s₁ b₁ → Told k step s b k₁ step₁ s₁ b₁
  unfolding to_all
  to_all_told zero h = absurd (waits_none k₁ i₁ step₁ s₁ b₁ h)
  to_all_told (suc n) h = ⊎_elim (to_all_told n) last (waits_append k₁ i₁ step₁ s₁ b₁ (to_all n k step s b) _ h)
    where
      here : Is (message k n step s b) k₁ i₁ step₁ s₁ b₁ → Told k step s b k₁ step₁ s₁ b₁
      here e = record {
        from = sym (sender_of k n step s b lk) ∙ e.from;
        at = sym (step_of k n step s b) ∙ e.at;
        of = sym (subject_of k n step s b) ∙ e.of;
        holds = sym (body_of k n step s b) ∙ e.holds;
      }

      last : waits (message k n step s b ∷ []) k₁ i₁ step₁ s₁ b₁ → Told k step s b k₁ step₁ s₁ b₁
      last w = ⊎_elim here (λ x. absurd (waits_none k₁ i₁ step₁ s₁ b₁ x)) (waits_cons k₁ i₁ step₁ s₁ b₁ _ [] w)

-- what is spread is new
pub spread_told : (n k k₁ i₁ : ℕ) (step step₁ : Step) (s s₁ : Subject) (b₁ : ℕ) (before after : Option ℕ) → k < 16 → waits (spread n k step s before after) k₁ i₁ step₁ s₁ b₁ → (b : ℕ) × (after ≡ Some b) × Told k step s b k₁ step₁ s₁ b₁
unfolding spread
spread_told n k k₁ i₁ step step₁ s s₁ b₁ None None lk h = absurd (waits_none k₁ i₁ step₁ s₁ b₁ h)
spread_told n k k₁ i₁ step step₁ s s₁ b₁ None (Some b) lk h = (b, refl, to_all_told k k₁ i₁ step step₁ s s₁ b b₁ lk n h)
spread_told n k k₁ i₁ step step₁ s s₁ b₁ (Some c) after lk h = absurd (waits_none k₁ i₁ step₁ s₁ b₁ h)

pub spread_waits : (n k i : ℕ) (step : Step) (s : Subject) (b : ℕ) (before after : Option ℕ) → n ≤ 16 → k < 16 → i < n → ((c : ℕ) → before ≡ Some c → after ≡ Some c) → after ≡ Some b → (before ≡ Some b) ⊎ waits (spread n k step s before after) k i step s b
unfolding spread
spread_waits n k i step s b None None small lk li stays e = inl e
spread_waits n k i step s b None (Some c) small lk li stays e =
    inr (subst (λ d. waits (to_all n k step s d) k i step s b) (some_once (Some c) b c e refl) (to_all_waits n k i step s b small lk li))
spread_waits n k i step s b (Some c) after small lk li stays e = inl (ap Some (some_once after c b (stays c refl) e))
