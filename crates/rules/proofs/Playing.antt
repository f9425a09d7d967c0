-- A run goes on by making turns, each followed by delivering what waits then.
use Rattle.std.proofs.Common.{◌≡◌, ℕ, ◌+◌, List, [], ◌∷◌, ◌++◌, length, Some, None, Option, refl, inr}
use Rattle.protocol.specs.declared.refusals.Refusal.{Refusal}
use Rattle.plan.specs.Kinds.{Line}
use Rattle.memory.specs.Contents.{serial_at}
use Rattle.cases.specs.Steps.{round_at, step_at}
use Rattle.cases.specs.declared.steps.Progress.{Progress}
use Rattle.rules.specs.Turns.{Turn, Announce, Open, Forge, Deliver, Advance, Coin, Effect, refusal, announcing, opening, forging, advancing}
use Rattle.rules.specs.Runs.{Event, announced, opened, forged, advanced, after, Told}
use Rattle.rules.proofs.Going.{goes_on}
use Rattle.rules.proofs.Draining.{Standing, Stands, drained, drains, drained_tells}

-- the event is told, and what is sent comes first
abbrev goes : Event → Effect → Standing → Standing
goes e does s = record { events = e ∷ s.events; held = does.held; waiting = does.sent ++ s.waiting }

-- after each turn at most so many messages are delivered
module _ (line : Line) (capacity most : ℕ) (coin : Coin) where
  -- a process advances, if it may
  abbrev advances : ℕ → ℕ → Option Progress → Standing → Standing
  advances i c None s = s
  advances i c (Some step) s =
      let r = round_at line.plan s.held i c in
      let does = advancing line s.held coin i c r step in
      goes (advanced i c r step.forced step.decides (r + 1) (length does.sent)) does s

  -- A turn that is not refused. Messages are delivered by draining.
  abbrev made : Turn → Standing → Standing
  made (Announce i b) s =
      let k = serial_at s.held i in
      let does = announcing line s.held i k b in
      goes (announced i b k (length does.sent)) does s
  made (Open i c v) s = let does = opening line s.held i c v in goes (opened i c v (length does.sent)) does s
  made (Forge m) s = goes (forged m 1) (forging line s.held m) s
  made (Deliver i pick) s = s
  made (Advance i c) s = advances i c (step_at line.plan s.held i c) s

  abbrev unless_refused : Option Refusal → Turn → Standing → Standing
  unless_refused (Some e) turn s = s
  unless_refused None turn s = made turn s

  abbrev pub played : Turn → Standing → Standing
  played turn s = drained line capacity most (unless_refused (refusal line capacity s.held s.waiting turn) turn s)

  unfoldable pub plays : List Turn → Standing → Standing
  plays [] s = s
  plays (turn ∷ turns) s = plays turns (played turn s)

  module _ (s : Standing) (run : Stands line capacity coin s) where
    by_advance : (i c : ℕ) (o : Option Progress) → step_at line.plan s.held i c ≡ o → refusal line capacity s.held s.waiting (Advance i c) ≡ None → Stands line capacity coin (advances i c o s)
    by_advance i c None by why = run
    by_advance i c (Some step) by why =
        after run _ (goes_on line capacity s.held s.waiting coin i c step _ _ _ by (record { allowed = why; memory = refl; carrier = λ p. refl; counted = refl }))

    by_turn : (turn : Turn) → refusal line capacity s.held s.waiting turn ≡ None → Stands line capacity coin (made turn s)
    by_turn (Announce i b) why = after run _ (record { serial = refl; done = record { allowed = why; memory = refl; carrier = λ p. refl; counted = refl } })
    by_turn (Open i c v) why = after run _ (record { allowed = why; memory = refl; carrier = λ p. refl; counted = refl })
    by_turn (Forge m) why = after run _ (record { allowed = why; memory = refl; carrier = λ p. refl; counted = refl })
    by_turn (Deliver i pick) why = run
    by_turn (Advance i c) why = by_advance i c (step_at line.plan s.held i c) refl why

    by_trying : (turn : Turn) (o : Option Refusal) → refusal line capacity s.held s.waiting turn ≡ o → Stands line capacity coin (unless_refused o turn s)
    by_trying turn (Some e) why = run
    by_trying turn None why = by_turn turn why

  pub carries : (turns : List Turn) (s : Standing) → Stands line capacity coin s → Stands line capacity coin (plays turns s)
  unfolding plays
  carries [] s run = run
  carries (turn ∷ turns) s run = carries turns _ (drains line capacity coin most _ (by_trying s run turn _ refl))

  module _ (P : Event → Type 0) (s : Standing) (t : Told P s.events) where
    advance_tells : (i c : ℕ) (o : Option Progress) → Told P (advances i c o s).events
    advance_tells i c None = t
    advance_tells i c (Some step) = inr t

    made_tells : (turn : Turn) → Told P (made turn s).events
    made_tells (Announce i b) = inr t
    made_tells (Open i c v) = inr t
    made_tells (Forge m) = inr t
    made_tells (Deliver i pick) = t
    made_tells (Advance i c) = advance_tells i c (step_at line.plan s.held i c)

    tried_tells : (turn : Turn) (o : Option Refusal) → Told P (unless_refused o turn s).events
    tried_tells turn (Some e) = t
    tried_tells turn None = made_tells turn

  plays_tells : (P : Event → Type 0) (turns : List Turn) (s : Standing) → Told P s.events → Told P (plays turns s).events
  unfolding plays
  plays_tells P [] s t = t
  plays_tells P (turn ∷ turns) s t = plays_tells P turns _ (drained_tells line capacity P most _ (tried_tells P s t turn _))

  -- what the first turn tells stands
  pub first_tells : (P : Event → Type 0) (turn : Turn) (turns : List Turn) (s : Standing) → Told P (played turn s).events → Told P (plays (turn ∷ turns) s).events
  unfolding plays
  first_tells P turn turns s t = plays_tells P turns (played turn s) t
