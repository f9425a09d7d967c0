-- What one message makes of one record.
use Rattle.std.proofs.Common.{◌≡◌, ℕ, ◌≤◌, Bool, true, false, ◌||◌, eqb, leb, ◌⊎◌, is_some as option_is_some, Some, None, Option, sym, refl, subst, subst₂, inl, inr, ⊎_elim, arith}
use Rattle.std.proofs.lemmas.Bool.{both_ways, eqb-true, leb-true, le-leb, or_left, or_right, or_cases, cases_eq}
use Rattle.protocol.specs.declared.messages.Step.{Step}
use Rattle.protocol.specs.declared.messages.Step.TheVariants.{Initial, Echo, Ready}
use Rattle.agreement.specs.Worlds.{World, Lawful}
use Rattle.agreement.specs.Records.{Rec, when, heard_after, support, receive, once_accepted, handle}
use Rattle.agreement.proofs.Bodies.{has_some, some_has, is_some, when_stays, when_keeps, when_some, when_from, in_turn, hear_keeps, hear_here, hear_from}

-- what a record holds of another process's echo or ready
abbrev pub heard : Rec → Step → ℕ → Option ℕ
heard r Initial k = None
heard r Echo k = r.echo k
heard r Ready k = r.ready k

-- a message of this step from k is not needed any more
abbrev pub arrived : Rec → Step → ℕ → Bool
arrived r Initial k = option_is_some r.echoed
arrived r Echo k = option_is_some (r.echo k)
arrived r Ready k = option_is_some (r.ready k)

abbrev pub settled : Rec → Step → ℕ → Bool
settled r step k = option_is_some r.accepted || arrived r step k

-- body b was heard from enough processes to send ready
abbrev pub Quorum : World → Rec → ℕ → Type 0
Quorum w r b = (w.echo ≤ support w r.echo b) ⊎ (w.ready ≤ support w r.ready b)

-- a record has done what it heard enough for, in order
pub record CaughtUp (w : World) (r : Rec) : Type 0 where
  pub readies : (b : ℕ) → Quorum w r b → option_is_some r.readied ≡ true
  pub accepts : (b : ℕ) → w.accept ≤ support w r.ready b → option_is_some r.accepted ≡ true
  pub ready_first : option_is_some r.accepted ≡ true → option_is_some r.readied ≡ true
  pub echo_first : option_is_some r.readied ≡ true → option_is_some r.echoed ≡ true

-- A record of process o's broadcast became another by messages (step, sender, body) that M allows.
pub record Moves (w : World) (o : ℕ) (M : Step → ℕ → ℕ → Type 0) (r next : Rec) : Type 0 where
  pub echoed_stays : (c : ℕ) → r.echoed ≡ Some c → next.echoed ≡ Some c
  pub readied_stays : (c : ℕ) → r.readied ≡ Some c → next.readied ≡ Some c
  pub accepted_stays : (c : ℕ) → r.accepted ≡ Some c → next.accepted ≡ Some c
  pub settled_stays : (step : Step) (k : ℕ) → settled r step k ≡ true → settled next step k ≡ true
  pub heard_from : (step : Step) (k c : ℕ) → heard next step k ≡ Some c → (heard r step k ≡ Some c) ⊎ M step k c
  pub echoed_from : (c : ℕ) → next.echoed ≡ Some c → (r.echoed ≡ Some c) ⊎ (M Initial o c ⊎ Quorum w next c)
  pub readied_from : (c : ℕ) → next.readied ≡ Some c → (r.readied ≡ Some c) ⊎ Quorum w next c
  pub accepted_from : (c : ℕ) → next.accepted ≡ Some c → (r.accepted ≡ Some c) ⊎ (w.accept ≤ support w next.ready c)
  pub caught_up : CaughtUp w r → CaughtUp w next

pub stands : (w : World) (o : ℕ) (M : Step → ℕ → ℕ → Type 0) (r : Rec) → Moves w o M r r
stands w o M r = record {
  echoed_stays = λ c e. e;
  readied_stays = λ c e. e;
  accepted_stays = λ c e. e;
  settled_stays = λ step k e. e;
  heard_from = λ step k c e. inl e;
  echoed_from = λ c e. inl e;
  readied_from = λ c e. inl e;
  accepted_from = λ c e. inl e;
  caught_up = λ h. h;
}

module _ (w : World) (law : Lawful w) (f : ℕ → Option ℕ) (k b : ℕ) where
  -- another body gains nothing
  hear_other : (c : ℕ) → (b ≡ c → ⊥) → support w (heard_after f k b) c ≤ support w f c
  unfolding support
  hear_other c apart =
      law.measure.monotone _ _ (λ j l e. some_has (f j) c (⊎_elim (λ x. x) (λ x. absurd (apart x.1)) (hear_from f k b j c (has_some (heard_after f k b j) c e))))

  -- what is enough now was tested now, or was enough before
  enough_from : (least c : ℕ) → least ≤ support w (heard_after f k b) c → (leb least (support w (heard_after f k b) b) ≡ true) ⊎ (least ≤ support w f c)
  enough_from least c h =
      ⊎_elim (λ (e : b ≡ c). inl (le-leb _ _ (subst (λ d. least ≤ support w (heard_after f k b) d) (sym e) h))) (λ (e : b ≡ c → ⊥). inr (omega (arith, hear_other c e)))
      (cases_eq b c)

-- a record in which body b is set where a test holds
abbrev changed : Bool → Bool → Bool → ℕ → (ℕ → Option ℕ) → (ℕ → Option ℕ) → Rec → Rec
changed q readies accepts b echo ready r = record {
  echoed = when q r.echoed b;
  readied = when readies r.readied b;
  accepted = when accepts r.accepted b;
  echo = echo;
  ready = ready;
}

module _ (w : World) (o : ℕ) (M : Step → ℕ → ℕ → Type 0) (b : ℕ) (r : Rec) (q readies accepts : Bool) (echo ready : ℕ → Option ℕ) where
  -- why the tests hold, what they leave out, and how the record heard more
  record Causes : Type 0 where
    heard_more : (step : Step) (j c : ℕ) → heard (changed q readies accepts b echo ready r) step j ≡ Some c → (heard r step j ≡ Some c) ⊎ M step j c
    echo_more : (j : ℕ) → option_is_some (r.echo j) ≡ true → option_is_some (echo j) ≡ true
    ready_more : (j : ℕ) → option_is_some (r.ready j) ≡ true → option_is_some (ready j) ≡ true
    why_echoed : q ≡ true → M Initial o b ⊎ Quorum w (changed q readies accepts b echo ready r) b
    why_readied : readies ≡ true → Quorum w (changed q readies accepts b echo ready r) b
    why_accepted : accepts ≡ true → w.accept ≤ support w ready b
    readied_else : (c : ℕ) → Quorum w (changed q readies accepts b echo ready r) c → (readies ≡ true) ⊎ Quorum w r c
    accepted_else : (c : ℕ) → w.accept ≤ support w ready c → (accepts ≡ true) ⊎ (w.accept ≤ support w r.ready c)
    readies_first : accepts ≡ true → readies ≡ true
    echoes_first : readies ≡ true → q ≡ true

  by_causes : Causes → Moves w o M r (changed q readies accepts b echo ready r)
  by_causes h = record {
    echoed_stays = λ c e. when_stays q r.echoed b c e;
    readied_stays = λ c e. when_stays readies r.readied b c e;
    accepted_stays = λ c e. when_stays accepts r.accepted b c e;
    settled_stays = λ step j e.
        ⊎_elim (λ x. or_left _ _ (when_keeps accepts r.accepted b x)) (λ x. or_right _ _ (arrives step j x)) (or_cases (option_is_some r.accepted) (arrived r step j) e);
    heard_from = h.heard_more;
    echoed_from = λ c e.
        ⊎_elim inl (λ x. inr (subst (λ d. M Initial o d ⊎ Quorum w next d) x.1 (h.why_echoed x.0))) (when_from q r.echoed b c e);
    readied_from = λ c e.
        ⊎_elim inl (λ x. inr (subst (λ d. Quorum w next d) x.1 (h.why_readied x.0))) (when_from readies r.readied b c e);
    accepted_from = λ c e.
        ⊎_elim inl (λ x. inr (subst (λ d. w.accept ≤ support w ready d) x.1 (h.why_accepted x.0))) (when_from accepts r.accepted b c e);
    caught_up = λ up. record {
      readies = λ c e. ⊎_elim (when_some readies r.readied b) (λ x. when_keeps readies r.readied b (up.readies c x)) (h.readied_else c e);
      accepts = λ c e. ⊎_elim (when_some accepts r.accepted b) (λ x. when_keeps accepts r.accepted b (up.accepts c x)) (h.accepted_else c e);
      ready_first = in_turn accepts readies r.accepted r.readied b h.readies_first up.ready_first;
      echo_first = in_turn readies q r.readied r.echoed b h.echoes_first up.echo_first;
    };
  }
    where
      next : Rec
      next = changed q readies accepts b echo ready r

      arrives : (step : Step) (j : ℕ) → arrived r step j ≡ true → arrived (changed q readies accepts b echo ready r) step j ≡ true
      arrives Initial j e = when_keeps q r.echoed b e
      arrives Echo j e = h.echo_more j e
      arrives Ready j e = h.ready_more j e

never : {A : Type 0} → false ≡ true → A
never e = absurd (both_ways false refl e)

module _ (w : World) (law : Lawful w) (o : ℕ) (M : Step → ℕ → ℕ → Type 0) (k b : ℕ) (r : Rec) where
  hears : (f : ℕ → Option ℕ) (step : Step) → M step k b → (j c : ℕ) → heard_after f k b j ≡ Some c → (f j ≡ Some c) ⊎ M step j c
  hears f step m j c e = ⊎_elim inl (λ x. inr (subst₂ (λ i d. M step i d) x.0 x.1 m)) (hear_from f k b j c e)

  by_message : (step : Step) → M step k b → Moves w o M r (receive w o step k b r)
  by_message Initial m = by_causes w o M b r (eqb k o) false false r.echo r.ready (record {
    heard_more = same;
    echo_more = λ j e. e;
    ready_more = λ j e. e;
    why_echoed = λ e. inl (subst (λ i. M Initial i b) (eqb-true k o e) m);
    why_readied = never;
    why_accepted = never;
    readied_else = λ c e. inr e;
    accepted_else = λ c e. inr e;
    readies_first = λ e. e;
    echoes_first = never;
  })
    where
      same : (step : Step) (j c : ℕ) → heard (receive w o Initial k b r) step j ≡ Some c → (heard r step j ≡ Some c) ⊎ M step j c
      same Initial j c e = inl e
      same Echo j c e = inl e
      same Ready j c e = inl e
  by_message Echo m = by_causes w o M b r test test false (heard_after r.echo k b) r.ready (record {
    heard_more = more;
    echo_more = hear_keeps r.echo k b;
    ready_more = λ j e. e;
    why_echoed = λ e. inr (inl (leb-true _ _ e));
    why_readied = λ e. inl (leb-true _ _ e);
    why_accepted = never;
    readied_else = λ c. ⊎_elim (λ x. ⊎_elim inl (λ y. inr (inl y)) (enough_from w law r.echo k b w.echo c x)) (λ x. inr (inr x));
    accepted_else = λ c e. inr e;
    readies_first = never;
    echoes_first = λ e. e;
  })
    where
      test : Bool
      test = leb w.echo (support w (heard_after r.echo k b) b)

      more : (step : Step) (j c : ℕ) → heard (receive w o Echo k b r) step j ≡ Some c → (heard r step j ≡ Some c) ⊎ M step j c
      more Initial j c e = inl e
      more Echo j c e = hears r.echo Echo m j c e
      more Ready j c e = inl e
  by_message Ready m = by_causes w o M b r (test w.ready) (test w.ready) (test w.accept) r.echo (heard_after r.ready k b) (record {
    heard_more = more;
    echo_more = λ j e. e;
    ready_more = hear_keeps r.ready k b;
    why_echoed = λ e. inr (inr (leb-true _ _ e));
    why_readied = λ e. inr (leb-true _ _ e);
    why_accepted = λ e. leb-true _ _ e;
    readied_else = λ c. ⊎_elim (λ x. inr (inl x)) (λ x. ⊎_elim inl (λ y. inr (inr y)) (enough_from w law r.ready k b w.ready c x));
    accepted_else = λ c e. enough_from w law r.ready k b w.accept c e;
    readies_first = λ e. le-leb _ _ (omega (arith, leb-true _ _ e, law.sound.enough));
    echoes_first = λ e. e;
  })
    where
      test : ℕ → Bool
      test least = leb least (support w (heard_after r.ready k b) b)

      more : (step : Step) (j c : ℕ) → heard (receive w o Ready k b r) step j ≡ Some c → (heard r step j ≡ Some c) ⊎ M step j c
      more Initial j c e = inl e
      more Echo j c e = inl e
      more Ready j c e = hears r.ready Ready m j c e

  pub handle_moves : (step : Step) → M step k b → Moves w o M r (handle w o step k b r)
  unfolding handle
  handle_moves step m = go r.accepted
    where
      go : (a : Option ℕ) → Moves w o M r (once_accepted a (receive w o step k b r) r)
      go None = by_message step m
      go (Some c) = stands w o M r

-- a message of this step from k is one that process o's broadcast has
abbrev pub due : ℕ → Step → ℕ → Bool
due o Initial k = eqb k o
due o Echo k = true
due o Ready k = true

pub handle_settles : (w : World) (o : ℕ) (step : Step) (k b : ℕ) (r : Rec) → due o step k ≡ true → settled (handle w o step k b r) step k ≡ true
unfolding handle
handle_settles w o step k b r h = go r.accepted refl
  where
    arrives : (step : Step) → due o step k ≡ true → arrived (receive w o step k b r) step k ≡ true
    arrives Initial e = when_some (eqb k o) r.echoed b e
    arrives Echo e = hear_here r.echo k b
    arrives Ready e = hear_here r.ready k b

    go : (a : Option ℕ) → r.accepted ≡ a → settled (once_accepted a (receive w o step k b r) r) step k ≡ true
    go None e = or_right _ _ (arrives step h)
    go (Some c) e = or_left _ _ (is_some r.accepted c e)
