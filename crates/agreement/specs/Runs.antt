-- The machine: processes that broadcast, and any order of delivery. Its transitions are relations,
-- since what waits is a bag.
use Rattle.std.specs.Prelude.{◌≡◌, ℕ, ◌<◌, Bool, true, false, cond, ◌&&◌, List, [], ◌∷◌, ◌++◌, Some, None, Option, ◌==◌}
use Rattle.protocol.specs.declared.messages.Message.{Message}
use Rattle.protocol.specs.declared.messages.Step.{Step}
use Rattle.protocol.specs.declared.messages.Step.TheVariants.{Initial, Echo, Ready}
use Rattle.protocol.specs.declared.messages.Subject.{Subject}
use Rattle.protocol.specs.declared.messages.Subject.TheVariants.{Item, Ballot}
use Rattle.protocol.specs.Bags.{Same}
use Rattle.protocol.specs.Messages.{originator_of}
use Rattle.protocol.specs.Sending.{to_all}
use Rattle.agreement.specs.Worlds.{World, CorrectIn}
use Rattle.agreement.specs.Records.{Rec, when, handle}

-- where the machine stands
pub record State : Type 0 where
  -- what each process keeps of each broadcast
  pub recs : ℕ → Subject → Rec
  -- the body that the originator told all
  pub said : Subject → Option ℕ
  -- the messages on their way
  pub waiting : List Message

-- nothing was echoed, sent ready for, accepted or heard
abbrev pub blank : Rec
blank = record { echoed = None; readied = None; accepted = None; echo = λ _. None; ready = λ _. None }

-- where every run begins
abbrev pub start : State
start = record { recs = λ _ _. blank; said = λ _. None; waiting = [] }

abbrev pub same_subject : Subject → Subject → Bool
same_subject (Item i s) (Item j u) = i == j && s == u
same_subject (Item i s) (Ballot j d q) = false
same_subject (Ballot i c r) (Item j u) = false
same_subject (Ballot i c r) (Ballot j d q) = i == j && (c == d && r == q)

-- a body that was not there before is sent
unfoldable pub spread : ℕ → ℕ → Step → Subject → Option ℕ → Option ℕ → List Message
spread n i step s None None = []
spread n i step s None (Some b) = to_all n i step s b
spread n i step s (Some c) after = []

-- what process i sends when its record changes
abbrev pub sends : ℕ → ℕ → Subject → Rec → Rec → List Message
sends n i s r after = spread n i Echo s r.echoed after.echoed ++ spread n i Ready s r.readied after.readied

-- what message m makes of the record that process j keeps of u
abbrev pub records_after : World → Message → (ℕ → Subject → Rec) → ℕ → Subject → Rec
records_after w m recs j u =
    cond (j == m.addressee && same_subject u m.subject) (handle w (originator_of u) m.step m.sender m.body (recs j u)) (recs j u)

-- what the addressee of m then sends
abbrev pub responses : World → Message → State → List Message
responses w m st =
    sends w.n m.addressee m.subject (st.recs m.addressee m.subject) (records_after w m st.recs m.addressee m.subject)

-- The states after a transition that leaves the messages ms waiting.
abbrev pub after_telling : Subject → ℕ → List Message → State → State
after_telling s b ms st = record { recs = st.recs; said = λ u. when (same_subject u s) (st.said u) b; waiting = ms }

abbrev pub leaving : List Message → State → State
leaving ms st = record { recs = st.recs; said = st.said; waiting = ms }

abbrev pub after_receiving : World → Message → List Message → State → State
after_receiving w m ms st = record { recs = records_after w m st.recs; said = st.said; waiting = ms }

-- A transition leads from a state to another.
pub data Transition (w : World) (st : State) : State → Type 0 where
  -- A correct originator tells all processes a body, once for each subject.
  tells : (s : Subject) (b : ℕ) (ms : List Message) → CorrectIn w (originator_of s) → st.said s ≡ None → Same ms (to_all w.n (originator_of s) Initial s b ++ st.waiting) → Transition w st (after_telling s b ms st)
  -- A faulty process sends what it likes.
  forges : (m : Message) (ms : List Message) → m.sender < w.n → w.faulty m.sender ≡ true → Same ms (m ∷ st.waiting) → Transition w st (leaving ms st)
  -- A message reaches a faulty process.
  drops : (m : Message) (ms : List Message) → m.addressee < w.n → w.faulty m.addressee ≡ true → Same st.waiting (m ∷ ms) → Transition w st (leaving ms st)
  -- A message reaches a correct process.
  delivers : (m : Message) (rest ms : List Message) → CorrectIn w m.addressee → Same st.waiting (m ∷ rest) → Same ms (responses w m st ++ rest) → Transition w st (after_receiving w m ms st)

-- the states that transitions lead to
pub data Reachable (w : World) : State → Type 0 where
  initially : Reachable w start
  by_transition : {st next : State} → Reachable w st → Transition w st next → Reachable w next
