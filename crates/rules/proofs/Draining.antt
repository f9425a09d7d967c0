-- A run goes on by delivering whatever waits.
use Rattle.std.proofs.Common.{◌≡◌, ℕ, zero, suc, List, [], ◌∷◌, ◌++◌, length, Some, None, Option, refl, inr}
use Rattle.protocol.specs.declared.messages.Message.{Message}
use Rattle.protocol.specs.declared.refusals.Refusal.{Refusal}
use Rattle.plan.specs.Kinds.{Line}
use Rattle.memory.specs.Contents.{Held}
use Rattle.rules.specs.Turns.{Deliver, Coin, refusal, reacted, delivering}
use Rattle.rules.specs.Runs.{Event, delivered, Run, after, Told}

-- where a run stands: what it has told, memory, and what waits
pub record Standing : Type 0 where
  pub events : List Event
  pub held : Held
  pub waiting : List Message

module _ (line : Line) (capacity : ℕ) where
  -- the first message is delivered, if that is not refused, and what is sent then comes first
  abbrev taken : Option Refusal → List Event → Held → Message → List Message → Standing
  taken (Some e) es h m rest = record { events = es; held = h; waiting = m ∷ rest }
  taken None es h m rest =
      let does = delivering line h m in
      record {
        events = delivered m.addressee 0 m (length does.sent) (reacted line m h).reaction.accepted ∷ es;
        held = does.held;
        waiting = does.sent ++ rest;
      }

  abbrev pub step : List Event → Held → List Message → Standing
  step es h [] = record { events = es; held = h; waiting = [] }
  step es h (m ∷ rest) = taken (refusal line capacity h (m ∷ rest) (Deliver m.addressee 0)) es h m rest

  -- up to k deliveries
  unfoldable pub drained : ℕ → Standing → Standing
  drained zero s = s
  drained (suc k) s = drained k (step s.events s.held s.waiting)

  module _ (coin : Coin) where
    abbrev pub Stands : Standing → Type 0
    Stands s = Run line capacity coin s.events s.held s.waiting

    by_taking : (o : Option Refusal) (es : List Event) (h : Held) (m : Message) (rest : List Message) → refusal line capacity h (m ∷ rest) (Deliver m.addressee 0) ≡ o → Run line capacity coin es h (m ∷ rest) → Stands (taken o es h m rest)
    by_taking (Some e) es h m rest why run = run
    by_taking None es h m rest why run =
        after run _ (record {
          rest = rest;
          addressee = refl;
          taken = λ p. refl;
          done = record { allowed = why; memory = refl; carrier = λ p. refl; counted = refl };
          answer = refl;
        })

    by_step : (es : List Event) (h : Held) (ws : List Message) → Run line capacity coin es h ws → Stands (step es h ws)
    by_step es h [] run = run
    by_step es h (m ∷ rest) run = by_taking _ es h m rest refl run

    pub drains : (k : ℕ) (s : Standing) → Stands s → Stands (drained k s)
    unfolding drained
    drains zero s run = run
    drains (suc k) s run = drains k _ (by_step s.events s.held s.waiting run)

  -- what was told stands
  module _ (P : Event → Type 0) where
    taken_tells : (o : Option Refusal) (es : List Event) (h : Held) (m : Message) (rest : List Message) → Told P es → Told P (taken o es h m rest).events
    taken_tells (Some e) es h m rest t = t
    taken_tells None es h m rest t = inr t

    step_tells : (es : List Event) (h : Held) (ws : List Message) → Told P es → Told P (step es h ws).events
    step_tells es h [] t = t
    step_tells es h (m ∷ rest) t = taken_tells _ es h m rest t

    pub drained_tells : (k : ℕ) (s : Standing) → Told P s.events → Told P (drained k s).events
    unfolding drained
    drained_tells zero s t = t
    drained_tells (suc k) s t = drained_tells k _ (step_tells s.events s.held s.waiting t)
