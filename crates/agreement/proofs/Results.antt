-- What the invariant says of what correct processes accept.
use Rattle.std.proofs.Common.{◌≡◌, ℕ, true, false, ◌⊎◌, is_some, Some, None, sym, refl, ap, ◌∙◌, inl, inr, ⊎_elim, arith}
use Rattle.std.proofs.lemmas.Bool.{both_ways, eq-eqb, or_cases, cases_Bool, cond-true}
use Rattle.protocol.specs.declared.messages.Step.{Step}
use Rattle.protocol.specs.declared.messages.Step.TheVariants.{Initial, Echo, Ready}
use Rattle.protocol.specs.declared.messages.Subject.{Subject}
use Rattle.protocol.specs.Messages.{originator_of}
use Rattle.agreement.specs.Worlds.{World, CorrectIn, Lawful}
use Rattle.agreement.specs.Records.{Rec}
use Rattle.agreement.specs.Runs.{State}
use Rattle.agreement.specs.Broadcasts.{QuietIn, accepted_at}
use Rattle.agreement.proofs.Bodies.{some_of, some_once}
use Rattle.agreement.proofs.Weights.{support_left, support_full, backer, quorums_meet}
use Rattle.agreement.proofs.Handler.{heard, arrived}
use Rattle.agreement.proofs.Waiting.{waits_counted}
use Rattle.agreement.proofs.Invariant.{Inv, says, echoes, readies, quorum_told}

module _ (w : World) (law : Lawful w) (s : Subject) (st : State) (inv : Inv w s st) where
  -- correct processes send ready alike
  ready_alike : (i j b c : ℕ) → CorrectIn w i → CorrectIn w j → readies st s i ≡ Some b → readies st s j ≡ Some c → b ≡ c
  ready_alike i j b c ci cj p q = quorums_meet w law (echoes st s) b c (inv.readied i b ci p) (inv.readied j c cj q)

  -- some correct process sent ready for what is accepted
  readier : (i b : ℕ) → CorrectIn w i → accepted_at st i s ≡ Some b → (k : ℕ) × CorrectIn w k × (readies st s k ≡ Some b)
  readier i b ci e = backer w law (readies st s) b (omega (arith, inv.accepted i b ci e, law.sound.one_correct, law.sound.enough))

  pub accept_alike : (i j b c : ℕ) → CorrectIn w i → CorrectIn w j → accepted_at st i s ≡ Some b → accepted_at st j s ≡ Some c → b ≡ c
  accept_alike i j b c ci cj p q =
      let k = readier i b ci p in
      let l = readier j c cj q in
      ready_alike k.0 l.0 b c k.1 l.1 k.2 l.2

  pub accept_told : (i b : ℕ) → CorrectIn w (originator_of s) → CorrectIn w i → accepted_at st i s ≡ Some b → st.said s ≡ Some b
  accept_told i b co ci e = let k = readier i b ci e in quorum_told w law s st inv b co (inv.readied k.0 b k.1 k.2)

  module _ (rest : QuietIn w st) where
    -- what was sent was heard, unless it is not needed any more
    landed : (k i : ℕ) (step : Step) (b : ℕ) → CorrectIn w k → CorrectIn w i → says st s k step ≡ Some b → (is_some (accepted_at st i s) ≡ true) ⊎ (arrived (st.recs i s) step k ≡ true)
    landed k i step b ck ci e =
        ⊎_elim (λ x. absurd (omega (arith, waits_counted k i step s b st.waiting x, rest i ci))) (λ x. or_cases _ _ x) (inv.sent k i step b ck ci e)

    -- before accepting, a process has heard all that correct ones sent
    hears : (step : Step) → ((r : Rec) (k : ℕ) → arrived r step k ≡ is_some (heard r step k)) → (k j b : ℕ) → CorrectIn w k → CorrectIn w j → is_some (accepted_at st j s) ≡ false → says st s k step ≡ Some b → heard (st.recs j s) step k ≡ Some b
    hears step is k j b ck cj none e =
        let got : is_some (heard (st.recs j s) step k) ≡ true =
        ⊎_elim (λ x. absurd (both_ways _ none x)) (λ x. sym (is (st.recs j s) k) ∙ x) (landed k j step b ck cj e) in
        let c = some_of _ got in
        c.1 ∙ ap Some (some_once _ _ _ (inv.recorded j k step c.0 cj ck c.1) e)

    -- a body that all correct processes sent ready for is accepted
    ready_accepted : (b : ℕ) → ((k : ℕ) → CorrectIn w k → readies st s k ≡ Some b) → (j : ℕ) → CorrectIn w j → accepted_at st j s ≡ Some b
    ready_accepted b all j cj =
        let a = some_of _ (⊎_elim (λ x. x) waited (cases_Bool (is_some (accepted_at st j s)))) in
        let k = readier j a.0 cj a.1 in
        a.1 ∙ ap Some (some_once _ _ _ k.2 (all k.0 k.1))
      where
        waited : is_some (accepted_at st j s) ≡ false → is_some (accepted_at st j s) ≡ true
        waited none =
            (inv.caught_up j cj).accepts b (omega (arith, law.sound.accepts, support_full w law (st.recs j s).ready b (λ k ck. hears Ready (λ r i. refl) k j b ck cj none (all k ck))))

    pub accept_total : (i j b : ℕ) → CorrectIn w i → CorrectIn w j → accepted_at st i s ≡ Some b → accepted_at st j s ≡ Some b
    accept_total i j b ci cj e = ready_accepted b all j cj
      where
        waited : (k : ℕ) → CorrectIn w k → is_some (accepted_at st k s) ≡ false → is_some (readies st s k) ≡ true
        waited k ck none =
            (inv.caught_up k ck).readies b (inr (omega (arith, law.sound.enough, inv.accepted i b ci e, support_left w law (readies st s) (st.recs k s).ready b (λ l cl h. hears Ready (λ r i. refl) l k b cl ck none h))))

        all : (k : ℕ) → CorrectIn w k → readies st s k ≡ Some b
        all k ck =
            let c = some_of _ (⊎_elim (inv.caught_up k ck).ready_first (waited k ck) (cases_Bool (is_some (accepted_at st k s)))) in
            let l = readier i b ci e in
            c.1 ∙ ap Some (ready_alike k l.0 c.0 b ck l.1 c.1 l.2)

    pub told_accepted : (j b : ℕ) → CorrectIn w (originator_of s) → CorrectIn w j → st.said s ≡ Some b → accepted_at st j s ≡ Some b
    told_accepted j b co cj e = ready_accepted b all_ready j cj
      where
        all_echo : (k : ℕ) → CorrectIn w k → echoes st s k ≡ Some b
        all_echo k ck =
            let up = inv.caught_up k ck in
            let told : says st s (originator_of s) Initial ≡ Some b = cond-true _ (st.said s) None (eq-eqb (originator_of s) (originator_of s) refl) ∙ e in
            let c = some_of _ (⊎_elim (λ x. up.echo_first (up.ready_first x)) (λ x. x) (landed (originator_of s) k Initial b co ck told)) in
            c.1 ∙ ap Some (some_once _ _ _ (inv.echoed k c.0 co ck c.1) e)

        waited : (k : ℕ) → CorrectIn w k → is_some (accepted_at st k s) ≡ false → is_some (readies st s k) ≡ true
        waited k ck none =
            (inv.caught_up k ck).readies b (inl (omega (arith, law.sound.echoes, support_full w law (st.recs k s).echo b (λ l cl. hears Echo (λ r i. refl) l k b cl ck none (all_echo l cl)))))

        all_ready : (k : ℕ) → CorrectIn w k → readies st s k ≡ Some b
        all_ready k ck =
            let c = some_of _ (⊎_elim (inv.caught_up k ck).ready_first (waited k ck) (cases_Bool (is_some (accepted_at st k s)))) in
            c.1 ∙ ap Some (some_once _ _ _ (quorum_told w law s st inv c.0 co (inv.readied k c.0 ck c.1)) e)
