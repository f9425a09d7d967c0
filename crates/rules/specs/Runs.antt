-- Runs: turns one after another, from the cleared memory and the empty carrier that opening leaves.
use Rattle.std.specs.Prelude.{◌≡◌, ℕ, ◌+◌, ◌*◌, Bool, true, ◌⊎◌, List, [], ◌∷◌, length, Some, Option}
use Rattle.protocol.specs.Bags.{Same}
use Rattle.protocol.specs.Numbers.{ballot_number, vote}
use Rattle.protocol.specs.declared.messages.Message.{Message}
use Rattle.protocol.specs.declared.messages.Subject.{Subject}
use Rattle.protocol.specs.declared.votes.Side.{Side}
use Rattle.protocol.specs.declared.refusals.Refusal.{Refusal}
use Rattle.plan.specs.Kinds.{Line}
use Rattle.memory.specs.Contents.{Held, cleared, case_at, serial_at}
use Rattle.memory.specs.Places.{enough}
use Rattle.cases.specs.Steps.{round_at, step_at, GoesBy}
use Rattle.cases.specs.declared.steps.Progress.{Progress}
use Rattle.rules.specs.Turns.{Turn, Announce, Open, Forge, Deliver, Advance, Coin, refusal, reacted, announcing, opening, forging, delivering, advancing, Refused, Done}

-- a turn with what came of it: its refusal, or what it answered, and the message that a delivery
-- took
pub data Event : Type 0 where
  refused : Turn → Refusal → Event
  announced : (process body serial posted : ℕ) → Event
  opened : (process case vote posted : ℕ) → Event
  forged : (m : Message) (posted : ℕ) → Event
  delivered : (process pick : ℕ) (m : Message) (posted : ℕ) (accepted : Bool) → Event
  -- from a round, by ballots that force and decide these sides
  advanced : (process case round : ℕ) (forced decides : Option Side) (reached posted : ℕ) → Event

-- the turn of an event
abbrev pub turn_of : Event → Turn
turn_of (refused turn e) = turn
turn_of (announced i b k posted) = Announce i b
turn_of (opened i c v posted) = Open i c v
turn_of (forged m posted) = Forge m
turn_of (delivered i pick m posted accepted) = Deliver i pick
turn_of (advanced i c r forced decides reached posted) = Advance i c

module _ (line : Line) (capacity : ℕ) (h : Held) (ws : List Message) where
  -- the value goes out under the next serial
  pub record Announces (i b k posted : ℕ) (after : Held) (left : List Message) : Type 0 where
    pub serial : k ≡ serial_at h i
    pub done : Done (refusal line capacity h ws (Announce i b)) (announcing line h i k b) after ws left posted

  -- the process votes in the first round
  abbrev pub OpensCase : (i c v posted : ℕ) → Held → List Message → Type 0
  OpensCase i c v posted after left = Done (refusal line capacity h ws (Open i c v)) (opening line h i c v) after ws left posted

  -- a faulty process says what it likes
  abbrev pub Forges : (m : Message) (posted : ℕ) → Held → List Message → Type 0
  Forges m posted after left = Done (refusal line capacity h ws (Forge m)) (forging line h m) after ws left posted

  -- one of the messages that waited for the process is taken
  pub record Delivers (i pick : ℕ) (m : Message) (posted : ℕ) (accepted : Bool) (after : Held) (left : List Message) : Type 0 where
    pub rest : List Message
    pub addressee : m.addressee ≡ i
    pub taken : Same ws (m ∷ rest)
    pub done : Done (refusal line capacity h ws (Deliver i pick)) (delivering line h m) after rest left posted
    pub answer : accepted ≡ (reacted line m h).reaction.accepted

  -- the process goes on by the ballots of the lowest originators
  pub record Advances (coin : Coin) (i c r : ℕ) (forced decides : Option Side) (reached posted : ℕ) (after : Held) (left : List Message) : Type 0 where
    pub step : Progress
    pub by : step_at line.plan h i c ≡ Some step
    pub from : r ≡ round_at line.plan h i c
    -- the set of ballots that it goes by, and the rule: it goes on by what this set says
    pub set : ℕ → Bool
    pub law : GoesBy line.plan h i c set step
    pub forces : forced ≡ step.forced
    pub decision : decides ≡ step.decides
    pub answer : reached ≡ r + 1
    pub done : Done (refusal line capacity h ws (Advance i c)) (advancing line h coin i c r step) after ws left posted

  -- the event leads to memory `after` with `left` waiting
  abbrev pub Happens : Coin → Event → Held → List Message → Type 0
  Happens coin (refused turn e) after left = Refused (refusal line capacity h ws turn) e h after ws left
  Happens coin (announced i b k posted) after left = Announces i b k posted after left
  Happens coin (opened i c v posted) after left = OpensCase i c v posted after left
  Happens coin (forged m posted) after left = Forges m posted after left
  Happens coin (delivered i pick m posted accepted) after left = Delivers i pick m posted accepted after left
  Happens coin (advanced i c r forced decides reached posted) after left = Advances coin i c r forced decides reached posted after left

-- nothing changes but slip states, as with reading and slip calls, which change no more than this
pub record Aside (h next : Held) : Type 0 where
  pub broadcasts : next.broadcasts ≡ h.broadcasts
  pub bodies : next.bodies ≡ h.bodies
  pub serials : next.serials ≡ h.serials
  pub cases : length next.cases ≡ length h.cases
  pub rounds : (k : ℕ) → (case_at next k).round ≡ (case_at h k).round
  pub decisions : (k : ℕ) → (case_at next k).decision ≡ (case_at h k).decision

-- what a run has told so far, the newest event first; memory and waiting messages where it stands
pub data Run (line : Line) (capacity : ℕ) (coin : Coin) : List Event → Held → List Message → Type 0 where
  begun : (h : Held) → enough line.plan h ≡ true → Run line capacity coin [] (cleared line.plan h) []
  after : {es : List Event} {h next : Held} {ws left : List Message} → Run line capacity coin es h ws → (e : Event) → Happens line capacity h ws coin e next left → Run line capacity coin (e ∷ es) next left
  aside : {es : List Event} {h next : Held} {ws : List Message} → Run line capacity coin es h ws → Aside h next → Run line capacity coin es next ws

-- some event tells it
abbrev pub Told : (Event → Type 0) → List Event → Type 0
Told P [] = ⊥
Told P (e ∷ es) = P e ⊎ Told P es

-- process i announced body b under serial k
abbrev pub Announcing : ℕ → ℕ → ℕ → Event → Type 0
Announcing i k b (announced j c l posted) = (j ≡ i) × (l ≡ k) × (c ≡ b)
Announcing i k b _ = ⊥

-- process i took the message by which it accepted body b for subject s
abbrev pub Accepting : ℕ → Subject → ℕ → Event → Type 0
Accepting i s b (delivered j pick m posted accepted) = (accepted ≡ true) × (j ≡ i) × (m.subject ≡ s) × (m.body ≡ b)
Accepting i s b _ = ⊥

-- process i opened case c with a vote for v
abbrev pub Opening : ℕ → ℕ → Side → Event → Type 0
Opening i c v (opened j d w posted) = (j ≡ i) × (d ≡ c) × (w ≡ ballot_number (vote v))
Opening i c v _ = ⊥

-- process i advanced in case c from round r, by ballots that force and decide these sides
abbrev pub Advancing : ℕ → ℕ → ℕ → Option Side → Option Side → Event → Type 0
Advancing i c r f x (advanced j d q forced decides reached posted) = (j ≡ i) × (d ≡ c) × (q ≡ r) × (forced ≡ f) × (decides ≡ x)
Advancing i c r f x _ = ⊥

-- process i advanced in case c, from some round, by ballots that decide some side
abbrev pub DecidingAny : ℕ → ℕ → Event → Type 0
DecidingAny i c e = (r : ℕ) × (f : Option Side) × (v : Side) × Advancing i c r f (Some v) e

-- Some event tells P, and none before it tells Q. The newest event stands first in the list.
abbrev pub FirstTold : (Event → Type 0) → (Event → Type 0) → List Event → Type 0
FirstTold P Q [] = ⊥
FirstTold P Q (e ∷ es) = (P e × (Told Q es → ⊥)) ⊎ FirstTold P Q es

-- What a run has told of a process: that it announced body b under serial k,
abbrev pub Announced : List Event → ℕ → ℕ → ℕ → Type 0
Announced es i k b = Told (Announcing i k b) es

-- accepted body b for a subject,
abbrev pub Accepted : List Event → ℕ → Subject → ℕ → Type 0
Accepted es i s b = Told (Accepting i s b) es

-- opened case c with a vote for v,
abbrev pub Opened : List Event → ℕ → ℕ → Side → Type 0
Opened es i c v = Told (Opening i c v) es

-- left the third round of phase k,
abbrev pub Ended : List Event → ℕ → ℕ → ℕ → Type 0
Ended es i c k = (f x : Option Side) × Told (Advancing i c (3 * k) f x) es

-- was forced to v there,
abbrev pub Forced : List Event → ℕ → ℕ → ℕ → Side → Type 0
Forced es i c k v = (x : Option Side) × Told (Advancing i c (3 * k) (Some v) x) es

-- and decided v there, and had decided nothing before.
abbrev pub Decided : List Event → ℕ → ℕ → Side → ℕ → Type 0
Decided es i c v k = (f : Option Side) × FirstTold (Advancing i c (3 * k) f (Some v)) (DecidingAny i c) es
