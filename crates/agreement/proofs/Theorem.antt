-- The invariant holds in every state of a run, and with it the theorem.
use Rattle.std.proofs.Common.{◌≡◌, ℕ, ◌≤◌, false, Some, None, Option, refl, ⊎_elim, arith}
use Rattle.std.proofs.lemmas.Bool.{cond_both}
use Rattle.protocol.specs.declared.messages.Step.{Step}
use Rattle.protocol.specs.declared.messages.Step.TheVariants.{Initial, Echo, Ready}
use Rattle.protocol.specs.declared.messages.Subject.{Subject}
use Rattle.protocol.specs.Messages.{originator_of}
use Rattle.agreement.specs.Worlds.{World, Lawful}
use Rattle.agreement.specs.Records.{Rec, support, receive, once_accepted, handle}
use Rattle.agreement.specs.Runs.{State, Transition, tells, forges, drops, delivers, Reachable, initially, by_transition, start, blank}
use Rattle.agreement.specs.Broadcasts.{Broadcasts, Lasts}
use Rattle.agreement.proofs.Bodies.{none_some, some_if, when_stays}
use Rattle.agreement.proofs.Weights.{quorum_heavy}
use Rattle.agreement.proofs.Handler.{CaughtUp, heard}
use Rattle.agreement.proofs.Waiting.{waits_none}
use Rattle.agreement.proofs.Invariant.{Inv, says, kept}
use Rattle.agreement.proofs.Results.{accept_alike, accept_told, accept_total, told_accepted}
use Rattle.agreement.proofs.Turns.{seen}

module _ (w : World) (law : Lawful w) where
  blank_caught_up : CaughtUp w blank
  unfolding support
  blank_caught_up = record {
    readies = λ b q. absurd (⊎_elim (λ (e : w.echo ≤ w.weight (λ _. false)). omega (arith, law.measure.empty, quorum_heavy w law)) (λ (e : w.ready ≤ w.weight (λ _. false)). omega (arith, law.measure.empty, law.sound.one_correct)) q);
    accepts = λ b (e : w.accept ≤ w.weight (λ _. false)). absurd (omega (arith, law.measure.empty, law.sound.one_correct, law.sound.enough));
    ready_first = λ e. e;
    echo_first = λ e. e;
  }

  silent : (s : Subject) (k : ℕ) (step : Step) (b : ℕ) → says start s k step ≡ Some b → ⊥
  silent s k Initial b e = none_some None b refl (some_if _ None b e).1
  silent s k Echo b e = cc
  silent s k Ready b e = cc

  deaf : (k : ℕ) (step : Step) (b : ℕ) → heard blank step k ≡ Some b → ⊥
  deaf k Initial b e = cc
  deaf k Echo b e = cc
  deaf k Ready b e = cc

  at_start : (s : Subject) → Inv w s start
  at_start s = record {
    posted = λ k i step b ck h. absurd (waits_none k i step s b h);
    recorded = λ i k step b ci ck e. absurd (deaf k step b e);
    readied = λ i b ci e. absurd cc;
    accepted = λ i b ci e. absurd cc;
    echoed = λ i b co ci e. e;
    caught_up = λ i ci. blank_caught_up;
    sent = λ k i step b ck ci e. absurd (silent s k step b e);
  }

  pub always : (st : State) → Reachable w st → (s : Subject) → Inv w s st
  always st initially s = at_start s
  always next (by_transition {st} run turn) s = kept w law s st (always st run s) next (seen w law st next turn s)

  pub broadcasts : (st : State) → Reachable w st → Broadcasts w st
  broadcasts st run = record {
    agreement = λ s. accept_alike w law s st (always st run s);
    validity = λ s. accept_told w law s st (always st run s);
    totality = λ rest s. accept_total w law s st (always st run s) rest;
    delivery = λ rest s. told_accepted w law s st (always st run s) rest;
  }

handle_accepted : (w : World) (o : ℕ) (step : Step) (k b : ℕ) (r : Rec) (c : ℕ) → r.accepted ≡ Some c → (handle w o step k b r).accepted ≡ Some c
unfolding handle
handle_accepted w o step k b r c e = go r.accepted refl
  where
    go : (a : Option ℕ) → r.accepted ≡ a → (once_accepted a (receive w o step k b r) r).accepted ≡ Some c
    go None n = absurd (none_some r.accepted c n e)
    go (Some d) n = e

pub lasts : (w : World) (st next : State) → Transition w st next → Lasts st next
lasts w st next (tells s b left co fresh same) = record { said = λ u c e. when_stays _ (st.said u) b c e; accepted = λ u i c e. e }
lasts w st next (forges m left l bad same) = record { said = λ u c e. e; accepted = λ u i c e. e }
lasts w st next (drops m left l bad same) = record { said = λ u c e. e; accepted = λ u i c e. e }
lasts w st next (delivers m rest left ci taken same) = record {
  said = λ u c e. e;
  accepted = λ u i c e. cond_both _ _ (st.recs i u) (λ (r : Rec). r.accepted ≡ Some c) (λ _. handle_accepted w (originator_of u) m.step m.sender m.body (st.recs i u) c e) (λ _. e);
}
