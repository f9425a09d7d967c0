-- What holds of broadcasts in every state of a run.
use Rattle.std.specs.Prelude.{◌≡◌, ℕ, ◌≤◌, Bool, false, Some, Option}
use Rattle.protocol.specs.declared.messages.Subject.{Subject}
use Rattle.protocol.specs.declared.messages.Subject.TheVariants.{Item}
use Rattle.protocol.specs.Counting.{below}
use Rattle.protocol.specs.Faults.{QuietOf}
use Rattle.protocol.specs.Messages.{originator_of}
use Rattle.agreement.specs.Worlds.{World, CorrectIn, Lawful, counted}
use Rattle.protocol.specs.Thresholds.{Sound}
use Rattle.agreement.specs.Runs.{State, Transition, Reachable}

-- what process i has accepted for a subject
abbrev pub accepted_at : State → ℕ → Subject → Option ℕ
accepted_at st i s = (st.recs i s).accepted

-- nothing waits for a correct process
abbrev pub QuietIn : World → State → Type 0
QuietIn w st = QuietOf w.n w.faulty st.waiting

-- What holds of reliable broadcast in a state.
pub record Broadcasts (w : World) (st : State) : Type 0 where
  -- Correct processes accept alike.
  pub agreement : (s : Subject) (i j b c : ℕ) → CorrectIn w i → CorrectIn w j → accepted_at st i s ≡ Some b → accepted_at st j s ≡ Some c → b ≡ c
  -- What is accepted from a correct originator is what it told.
  pub validity : (s : Subject) (i b : ℕ) → CorrectIn w (originator_of s) → CorrectIn w i → accepted_at st i s ≡ Some b → st.said s ≡ Some b
  -- Once nothing waits for them, what one accepted all did, and what a correct originator told.
  pub totality : QuietIn w st → (s : Subject) (i j b : ℕ) → CorrectIn w i → CorrectIn w j → accepted_at st i s ≡ Some b → accepted_at st j s ≡ Some b
  pub delivery : QuietIn w st → (s : Subject) (j b : ℕ) → CorrectIn w (originator_of s) → CorrectIn w j → st.said s ≡ Some b → accepted_at st j s ≡ Some b

-- in every world that meets the facts, whatever the processes weigh
abbrev pub WeighedBroadcasts : Type 0
WeighedBroadcasts = (w : World) → Lawful w → (st : State) → Reachable w st → Broadcasts w st

-- and so where each of them weighs 1
abbrev pub CountedBroadcasts : Type 0
CountedBroadcasts = (n t echo ready accept : ℕ) (faulty : ℕ → Bool) → n ≤ 16 → below n faulty ≤ t → Sound n t echo ready accept → (st : State) → Reachable (counted n t echo ready accept faulty) st → Broadcasts (counted n t echo ready accept faulty) st

-- What was told, and what was accepted, stands.
pub record Lasts (st next : State) : Type 0 where
  pub said : (s : Subject) (b : ℕ) → st.said s ≡ Some b → next.said s ≡ Some b
  pub accepted : (s : Subject) (i b : ℕ) → accepted_at st i s ≡ Some b → accepted_at next i s ≡ Some b

-- no transition takes back what stands
abbrev pub Lasting : Type 0
Lasting = (w : World) (st next : State) → Transition w st next → Lasts st next

-- a world of one process, and what may happen in it: process 0 told body 5 under serial 0, accepted
-- it, and nothing waits for it
abbrev pub alone : World
alone = counted 1 0 1 1 1 (λ _. false)

-- such a state can be come to
pub record BroadcastHappens (st : State) : Type 0 where
  pub lawful : Lawful alone
  pub run : Reachable alone st
  pub quiet : QuietIn alone st
  pub told : st.said (Item 0 0) ≡ Some 5
  pub accepted : accepted_at st 0 (Item 0 0) ≡ Some 5
