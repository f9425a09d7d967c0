-- Each turn, as one subject u sees it.
use Rattle.std.proofs.Common.{◌≡◌, ℕ, ◌<◌, Bool, true, false, ◌&&◌, eqb, ◌⊎◌, List, ◌∷◌, ◌++◌, Some, None, Option, sym, refl, ap, ◌∙◌, subst, subst₂, inl, inr, ⊎_elim, arith}
use Rattle.std.proofs.lemmas.Bool.{both_ways, eqb-true, eq-eqb, and_parts, and_from, cases_Bool, cond-true, cond-false, cond_both}
use Rattle.protocol.specs.declared.messages.Message.{Message}
use Rattle.protocol.specs.declared.messages.Step.{Step}
use Rattle.protocol.specs.declared.messages.Step.TheVariants.{Initial, Echo, Ready}
use Rattle.protocol.specs.declared.messages.Subject.{Subject}
use Rattle.protocol.specs.Bags.{Same}
use Rattle.protocol.specs.Messages.{originator_of}
use Rattle.protocol.proofs.Bags.{same_sym}
use Rattle.agreement.specs.Worlds.{World, CorrectIn, Lawful}
use Rattle.agreement.specs.Records.{Rec, when, handle}
use Rattle.protocol.specs.Sending.{to_all}
use Rattle.agreement.specs.Runs.{State, Transition, tells, forges, drops, delivers, same_subject, spread, records_after, responses, after_telling, leaving, after_receiving}
use Rattle.agreement.proofs.Bodies.{some_if, when_stays, when_set, when_from}
use Rattle.agreement.proofs.Handler.{Moves, stands, handle_moves, handle_settles, due, settled}
use Rattle.agreement.proofs.Waiting.{waits, waits_same, waits_here, waits_there, waits_cons, waits_left, waits_right, waits_append, to_all_waits, to_all_told, Told, told_gives, Is, spread_told, spread_waits, same_subject_true, subject_same}
use Rattle.agreement.proofs.Invariant.{Seen, says}

module _ (w : World) (law : Lawful w) (st : State) where
  -- a turn that changes only what waits: nothing new of correct processes, and all that waits for
  -- them stays
  plain : (u : Subject) (left : List Message) → ((k i : ℕ) (step : Step) (b : ℕ) → CorrectIn w k → waits left k i step u b → waits st.waiting k i step u b) → ((k i : ℕ) (step : Step) (b : ℕ) → CorrectIn w i → waits st.waiting k i step u b → waits left k i step u b) → Seen w u st (leaving left st)
  plain u left old kept = record {
    said_stays = λ b e. e;
    moves = λ i c. stands w (originator_of u) _ (st.recs i u);
    posted = λ k i step b c h. inl (old k i step b c h);
    sent = sent_before;
    stays = λ k i step b c e h. inl (kept k i step b c h);
  }
    where
      sent_before : (k i : ℕ) (step : Step) (b : ℕ) → CorrectIn w k → CorrectIn w i → says (leaving left st) u k step ≡ Some b → (says st u k step ≡ Some b) ⊎ waits left k i step u b
      sent_before k i Initial b ck ci e = inl e
      sent_before k i Echo b ck ci e = inl e
      sent_before k i Ready b ck ci e = inl e

  by_forge : (u : Subject) (m : Message) (left : List Message) → w.faulty m.sender ≡ true → Same left (m ∷ st.waiting) → Seen w u st (leaving left st)
  by_forge u m left bad same = plain u left old kept
    where
      old : (k i : ℕ) (step : Step) (b : ℕ) → CorrectIn w k → waits left k i step u b → waits st.waiting k i step u b
      old k i step b ck h =
          ⊎_elim (λ x. absurd (both_ways _ ck.1 (ap w.faulty (sym x.from) ∙ bad))) (λ x. x)
          (waits_cons k i step u b m st.waiting (waits_same k i step u b left _ same h))

      kept : (k i : ℕ) (step : Step) (b : ℕ) → CorrectIn w i → waits st.waiting k i step u b → waits left k i step u b
      kept k i step b ci h = waits_same k i step u b _ left (same_sym left _ same) (waits_there k i step u b m st.waiting h)

  by_drop : (u : Subject) (m : Message) (left : List Message) → w.faulty m.addressee ≡ true → Same st.waiting (m ∷ left) → Seen w u st (leaving left st)
  by_drop u m left bad same = plain u left old kept
    where
      old : (k i : ℕ) (step : Step) (b : ℕ) → CorrectIn w k → waits left k i step u b → waits st.waiting k i step u b
      old k i step b ck h = waits_same k i step u b _ st.waiting (same_sym st.waiting _ same) (waits_there k i step u b m left h)

      kept : (k i : ℕ) (step : Step) (b : ℕ) → CorrectIn w i → waits st.waiting k i step u b → waits left k i step u b
      kept k i step b ci h =
          ⊎_elim (λ x. absurd (both_ways _ ci.1 (ap w.faulty (sym x.to) ∙ bad))) (λ x. x)
          (waits_cons k i step u b m left (waits_same k i step u b st.waiting _ same h))

  module _ (s : Subject) (b : ℕ) (left : List Message) (co : CorrectIn w (originator_of s)) (fresh : st.said s ≡ None) (same : Same left (to_all w.n (originator_of s) Initial s b ++ st.waiting)) where
    abbrev next : State
    next = after_telling s b left st

    named : originator_of s < 16
    named = omega (arith, law.named, co.0)

    says_now : says next s (originator_of s) Initial ≡ Some b
    says_now = cond-true _ _ None (eq-eqb (originator_of s) (originator_of s) refl) ∙ when_set (same_subject s s) (st.said s) b (subject_same s) fresh

    -- it waits for every process
    waits_now : (i : ℕ) → CorrectIn w i → waits left (originator_of s) i Initial s b
    waits_now i ci =
        waits_same (originator_of s) i Initial s b _ left (same_sym left _ same)
        (waits_left (originator_of s) i Initial s b _ _ (to_all_waits w.n (originator_of s) i Initial s b law.named named ci.0))

    by_tell : (u : Subject) → Seen w u st next
    by_tell u = record {
      said_stays = λ c e. when_stays (same_subject u s) (st.said u) b c e;
      moves = λ i c. stands w (originator_of u) _ (st.recs i u);
      posted = λ k i step c ck h.
          ⊎_elim (λ x. inr (told_gives _ k Initial step s u b c (λ j p v d. says next v j p ≡ Some d) (to_all_told (originator_of s) k i Initial step s u b c named w.n x) says_now)) inl
          (waits_append k i step u c _ _ (waits_same k i step u c left _ same h));
      sent = sent_now;
      stays = λ k i step c ci e h. inl (waits_same k i step u c _ left (same_sym left _ same) (waits_right k i step u c _ _ h));
    }
      where
        sent_now : (k i : ℕ) (step : Step) (c : ℕ) → CorrectIn w k → CorrectIn w i → says next u k step ≡ Some c → (says st u k step ≡ Some c) ⊎ waits left k i step u c
        sent_now k i Initial c ck ci e =
            let t = some_if (eqb k (originator_of u)) (when (same_subject u s) (st.said u) b) c e in
            ⊎_elim (λ x. inl (cond-true _ _ None t.0 ∙ x)) (λ x.
            let is = same_subject_true u s x.0 in
            let as_told : Told (originator_of s) Initial s b k Initial u c = record { from = ap originator_of (sym is) ∙ sym (eqb-true _ _ t.0); at = refl; of = sym is; holds = x.1 } in
            inr (told_gives _ k Initial Initial s u b c (λ j p v d. waits left j i p v d) as_told (waits_now i ci)))
            (when_from (same_subject u s) (st.said u) b c t.1)
        sent_now k i Echo c ck ci e = inl e
        sent_now k i Ready c ck ci e = inl e

  module _ (m : Message) (rest left : List Message) (taken : Same st.waiting (m ∷ rest)) where
    abbrev here : ℕ → Subject → Bool
    here j u = eqb j m.addressee && same_subject u m.subject

    -- what message m makes of a record
    abbrev made : ℕ → Subject → Rec
    made j u = handle w (originator_of u) m.step m.sender m.body (st.recs j u)

    abbrev there : State
    there = after_receiving w m left st

    is_here : (k i : ℕ) (step : Step) (u : Subject) (b : ℕ) → Is m k i step u b → here i u ≡ true
    is_here k i step u b is = and_from _ _ (eq-eqb _ _ (sym is.to)) (subst (λ v. same_subject u v ≡ true) (sym is.of) (subject_same u))

    -- here is where the message is addressed to
    at_here : (j : ℕ) (u : Subject) → here j u ≡ true → (m.addressee ≡ j) × (m.subject ≡ u)
    at_here j u e = let p = and_parts _ _ e in (sym (eqb-true _ _ p.0), sym (same_subject_true u m.subject p.1))

    moved : (u : Subject) (j : ℕ) → Moves w (originator_of u) (λ step k b. waits st.waiting k j step u b) (st.recs j u) (records_after w m st.recs j u)
    moved u j =
        cond_both (here j u) (made j u) (st.recs j u) (λ r. Moves w (originator_of u) (λ step k b. waits st.waiting k j step u b) (st.recs j u) r) (λ e.
        let p = at_here j u e in
        handle_moves w law (originator_of u) _ m.sender m.body (st.recs j u) m.step (waits_same _ j _ u _ _ st.waiting (same_sym st.waiting _ taken) (waits_here _ j _ u _ m rest (record { from = refl; to = p.0; at = refl; of = p.1; holds = refl }))))
        (λ e. stands w (originator_of u) _ (st.recs j u))

    module _ (same : Same left (responses w m st ++ rest)) where
      -- what the change of an echo or a ready spreads is what is now sent
      posted_now : (step₀ : Step) (before : Option ℕ) (k i : ℕ) (step : Step) (u : Subject) (c : ℕ) → waits (spread w.n m.addressee step₀ m.subject before (says there m.subject m.addressee step₀)) k i step u c → says there u k step ≡ Some c
      posted_now step₀ before k i step u c h =
          let t = spread_told w.n m.addressee k i step₀ step m.subject u c before (says there m.subject m.addressee step₀) m.addressed h in
          told_gives m.addressee k step₀ step m.subject u t.0 c (λ j p v d. says there v j p ≡ Some d) t.2 t.1

      waits_sends : (k i : ℕ) (step : Step) (u : Subject) (c : ℕ) → waits (responses w m st) k i step u c → waits left k i step u c
      waits_sends k i step u c h = waits_same k i step u c _ left (same_sym left _ same) (waits_left k i step u c _ rest h)

      sent_here : (i : ℕ) (step : Step) (c : ℕ) → CorrectIn w i → says there m.subject m.addressee step ≡ Some c → (says st m.subject m.addressee step ≡ Some c) ⊎ waits left m.addressee i step m.subject c
      sent_here i Initial c cj e = inl e
      sent_here i Echo c cj e =
          ⊎_elim inl (λ x. inr (waits_sends _ i Echo _ c (waits_left _ i Echo _ c _ _ x)))
          (spread_waits w.n m.addressee i Echo m.subject c _ _ law.named m.addressed cj.0 (moved m.subject m.addressee).echoed_stays e)
      sent_here i Ready c cj e =
          ⊎_elim inl (λ x. inr (waits_sends _ i Ready _ c (waits_right _ i Ready _ c _ _ x)))
          (spread_waits w.n m.addressee i Ready m.subject c _ _ law.named m.addressed cj.0 (moved m.subject m.addressee).readied_stays e)

      sent_elsewhere : (u : Subject) (k : ℕ) (step : Step) → here k u ≡ false → says there u k step ≡ says st u k step
      sent_elsewhere u k Initial e = refl
      sent_elsewhere u k Echo e = ap (λ (r : Rec). r.echoed) (cond-false _ _ _ e)
      sent_elsewhere u k Ready e = ap (λ (r : Rec). r.readied) (cond-false _ _ _ e)

      says_due : (u : Subject) (k : ℕ) (step : Step) (c : ℕ) → says st u k step ≡ Some c → due (originator_of u) step k ≡ true
      says_due u k Initial c e = (some_if _ _ c e).0
      says_due u k Echo c e = refl
      says_due u k Ready c e = refl

      by_deliver : (u : Subject) → Seen w u st there
      by_deliver u = record {
        said_stays = λ c e. e;
        moves = λ j cj. moved u j;
        posted = λ k i step c ck h.
            ⊎_elim (λ x. inr (⊎_elim (posted_now Echo _ k i step u c) (posted_now Ready _ k i step u c) (waits_append k i step u c _ _ x))) (λ x. inl (waits_same k i step u c _ st.waiting (same_sym st.waiting _ taken) (waits_there k i step u c m rest x)))
            (waits_append k i step u c _ rest (waits_same k i step u c left _ same h));
        sent = λ k i step c ck cj e.
            ⊎_elim (λ (x : here k u ≡ true).
            let p = at_here k u x in
            subst₂ (λ j v. says there v j step ≡ Some c → (says st v j step ≡ Some c) ⊎ waits left j i step v c) p.0 p.1 (sent_here i step c cj) e) (λ (x : here k u ≡ false). inl (sym (sent_elsewhere u k step x) ∙ e))
            (cases_Bool (here k u));
        stays = λ k i step c cj e h.
            ⊎_elim (λ x. inr (landed k i step c e x)) (λ x. inl (waits_same k i step u c _ left (same_sym left _ same) (waits_right k i step u c _ rest x)))
            (waits_cons k i step u c m rest (waits_same k i step u c st.waiting _ taken h));
      }
        where
          landed : (k i : ℕ) (step : Step) (c : ℕ) → says st u k step ≡ Some c → Is m k i step u c → settled (there.recs i u) step k ≡ true
          landed k i step c e is =
              subst₂ (λ p j. settled (there.recs i u) p j ≡ true) is.at is.from
              (subst (λ r. settled r m.step m.sender ≡ true) (sym (cond-true (here i u) (made i u) (st.recs i u) (is_here k i step u c is)))
              (handle_settles w (originator_of u) m.step m.sender m.body (st.recs i u)
              (subst₂ (λ p j. due (originator_of u) p j ≡ true) (sym is.at) (sym is.from) (says_due u k step c e))))

-- every turn is seen by every subject
pub seen : (w : World) (law : Lawful w) (st next : State) → Transition w st next → (u : Subject) → Seen w u st next
seen w law st after (tells s b left co fresh same) u = by_tell w law st s b left co fresh same u
seen w law st after (forges m left lt bad same) u = by_forge w law st u m left bad same
seen w law st after (drops m left lt bad same) u = by_drop w law st u m left bad same
seen w law st after (delivers m rest left ci taken same) u = by_deliver w law st m rest left taken same u
