-- What holds of one subject in every state of a run, and why no turn ends it.
use Rattle.std.proofs.Common.{◌≡◌, ℕ, ◌≤◌, true, cond, eqb, ◌⊎◌, Some, None, Option, ◌∙◌, inl, inr, ⊎_elim, arith}
use Rattle.std.proofs.lemmas.Bool.{cond-true}
use Rattle.protocol.specs.declared.messages.Step.{Step}
use Rattle.protocol.specs.declared.messages.Step.TheVariants.{Initial, Echo, Ready}
use Rattle.protocol.specs.declared.messages.Subject.{Subject}
use Rattle.protocol.specs.Messages.{originator_of}
use Rattle.agreement.specs.Worlds.{World, CorrectIn, Lawful}
use Rattle.agreement.specs.Records.{support}
use Rattle.agreement.specs.Runs.{State}
use Rattle.agreement.proofs.Bodies.{some_if}
use Rattle.agreement.proofs.Weights.{backing, support_backed, backing_grows, backer, supporter, quorum_heavy}
use Rattle.agreement.proofs.Handler.{Moves, CaughtUp, Quorum, heard, settled}
use Rattle.agreement.proofs.Waiting.{waits}

-- what process k has sent to all
abbrev pub says : State → Subject → ℕ → Step → Option ℕ
says st s k Initial = cond (eqb k (originator_of s)) (st.said s) None
says st s k Echo = (st.recs k s).echoed
says st s k Ready = (st.recs k s).readied

abbrev pub echoes : State → Subject → ℕ → Option ℕ
echoes st s k = (st.recs k s).echoed

abbrev pub readies : State → Subject → ℕ → Option ℕ
readies st s k = (st.recs k s).readied

-- a turn, as one subject sees it
pub record Seen (w : World) (s : Subject) (st next : State) : Type 0 where
  pub said_stays : (b : ℕ) → st.said s ≡ Some b → next.said s ≡ Some b
  pub moves : (i : ℕ) → CorrectIn w i → Moves w (originator_of s) (λ step k b. waits st.waiting k i step s b) (st.recs i s) (next.recs i s)
  pub posted : (k i : ℕ) (step : Step) (b : ℕ) → CorrectIn w k → waits next.waiting k i step s b → waits st.waiting k i step s b ⊎ (says next s k step ≡ Some b)
  pub sent : (k i : ℕ) (step : Step) (b : ℕ) → CorrectIn w k → CorrectIn w i → says next s k step ≡ Some b → (says st s k step ≡ Some b) ⊎ waits next.waiting k i step s b
  pub stays : (k i : ℕ) (step : Step) (b : ℕ) → CorrectIn w i → says st s k step ≡ Some b → waits st.waiting k i step s b → waits next.waiting k i step s b ⊎ (settled (next.recs i s) step k ≡ true)

pub record Inv (w : World) (s : Subject) (st : State) : Type 0 where
  -- What waits or was heard from a correct process is what it sent.
  pub posted : (k i : ℕ) (step : Step) (b : ℕ) → CorrectIn w k → waits st.waiting k i step s b → says st s k step ≡ Some b
  pub recorded : (i k : ℕ) (step : Step) (b : ℕ) → CorrectIn w i → CorrectIn w k → heard (st.recs i s) step k ≡ Some b → says st s k step ≡ Some b
  -- Behind a ready stands an echo quorum, and behind what is accepted a quorum of readies.
  pub readied : (i b : ℕ) → CorrectIn w i → (st.recs i s).readied ≡ Some b → w.echo ≤ backing w (echoes st s) b
  pub accepted : (i b : ℕ) → CorrectIn w i → (st.recs i s).accepted ≡ Some b → w.accept ≤ backing w (readies st s) b
  -- What is echoed of a correct originator is what it told.
  pub echoed : (i b : ℕ) → CorrectIn w (originator_of s) → CorrectIn w i → (st.recs i s).echoed ≡ Some b → st.said s ≡ Some b
  pub caught_up : (i : ℕ) → CorrectIn w i → CaughtUp w (st.recs i s)
  -- What a correct process sent to another waits, or was heard, or is not needed any more.
  pub sent : (k i : ℕ) (step : Step) (b : ℕ) → CorrectIn w k → CorrectIn w i → says st s k step ≡ Some b → waits st.waiting k i step s b ⊎ (settled (st.recs i s) step k ≡ true)

module _ (w : World) (law : Lawful w) (s : Subject) (st : State) (inv : Inv w s st) where
  -- a body with an echo quorum behind it was told by a correct originator
  pub quorum_told : (b : ℕ) → CorrectIn w (originator_of s) → w.echo ≤ backing w (echoes st s) b → st.said s ≡ Some b
  quorum_told b co h =
      let k = backer w law (echoes st s) b (omega (arith, quorum_heavy w law)) in
      inv.echoed k.0 b co k.1 k.2

  module _ (next : State) (seen : Seen w s st next) where
    grows : (k : ℕ) (step : Step) (b : ℕ) → CorrectIn w k → says st s k step ≡ Some b → says next s k step ≡ Some b
    grows k Initial b c e =
        let t = some_if (eqb k (originator_of s)) (st.said s) b e in
        cond-true (eqb k (originator_of s)) (next.said s) None t.0 ∙ seen.said_stays b t.1
    grows k Echo b c e = (seen.moves k c).echoed_stays b e
    grows k Ready b c e = (seen.moves k c).readied_stays b e

    -- what a correct process is heard with now it had sent before
    voted : (i k : ℕ) (step : Step) (b : ℕ) → CorrectIn w i → CorrectIn w k → heard (next.recs i s) step k ≡ Some b → says st s k step ≡ Some b
    voted i k step b ci ck e = ⊎_elim (inv.recorded i k step b ci ck) (inv.posted k i step b ck) ((seen.moves i ci).heard_from step k b e)

    quorum_backed : (i b : ℕ) → CorrectIn w i → Quorum w (next.recs i s) b → w.echo ≤ backing w (echoes st s) b
    quorum_backed i b ci =
        ⊎_elim (λ (e : w.echo ≤ support w (next.recs i s).echo b). omega (arith, support_backed w law (next.recs i s).echo (echoes st s) b (λ k ck. voted i k Echo b ci ck))) (λ (e : w.ready ≤ support w (next.recs i s).ready b).
        let k = supporter w law (next.recs i s).ready b (omega (arith, law.sound.one_correct)) in
        inv.readied k.0 b k.1 (voted i k.0 Ready b ci k.1 k.2))

    echoes_grow : (b : ℕ) → w.echo ≤ backing w (echoes st s) b → w.echo ≤ backing w (echoes next s) b
    echoes_grow b h = omega (arith, backing_grows w law (echoes st s) (echoes next s) b (λ k c e. grows k Echo b c e))

    pub kept : Inv w s next
    kept = record {
      posted = λ k i step b ck h. ⊎_elim (λ x. grows k step b ck (inv.posted k i step b ck x)) (λ x. x) (seen.posted k i step b ck h);
      recorded = λ i k step b ci ck e. grows k step b ck (voted i k step b ci ck e);
      readied = λ i b ci e. echoes_grow b (⊎_elim (inv.readied i b ci) (quorum_backed i b ci) ((seen.moves i ci).readied_from b e));
      accepted = λ i b ci e.
          ⊎_elim (λ x. omega (arith, inv.accepted i b ci x, backing_grows w law (readies st s) (readies next s) b (λ k c e. grows k Ready b c e))) (λ x. omega (arith, support_backed w law (next.recs i s).ready (readies next s) b (λ k ck e. grows k Ready b ck (voted i k Ready b ci ck e))))
          ((seen.moves i ci).accepted_from b e);
      echoed = λ i b co ci e.
          seen.said_stays b (⊎_elim (inv.echoed i b co ci) (⊎_elim (λ m. (some_if _ _ b (inv.posted (originator_of s) i Initial b co m)).1) (λ q. quorum_told b co (quorum_backed i b ci q))) ((seen.moves i ci).echoed_from b e));
      caught_up = λ i ci. (seen.moves i ci).caught_up (inv.caught_up i ci);
      sent = λ k i step b ck ci e.
          ⊎_elim (λ x. ⊎_elim (seen.stays k i step b ci x) (λ y. inr ((seen.moves i ci).settled_stays step k y)) (inv.sent k i step b ck ci x)) inl (seen.sent k i step b ck ci e);
    }
