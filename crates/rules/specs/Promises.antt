-- What holds after every run. Rounds count from 0 in a set of ballots, phases from 1.
use Rattle.std.specs.Prelude.{◌≡◌, ℕ, suc, ◌+◌, ◌*◌, ◌<◌, ◌≤◌, ◌↔◌, Bool, true, false, List, [], Some}
use Rattle.protocol.specs.declared.messages.Message.{Message}
use Rattle.protocol.specs.declared.messages.Subject.{Subject}
use Rattle.protocol.specs.declared.messages.Subject.TheVariants.{Item}
use Rattle.protocol.specs.declared.votes.Side.{Side}
use Rattle.protocol.specs.declared.votes.Side.TheVariants.{Release}
use Rattle.protocol.specs.Faults.{CorrectOf, QuietOf}
use Rattle.plan.specs.Kinds.{Line}
use Rattle.plan.specs.Plans.{rounds}
use Rattle.memory.specs.Contents.{Held, case_at}
use Rattle.memory.specs.Places.{within, body_at, case_place}
use Rattle.consensus.specs.Validity.{Quorum}
use Rattle.ballots.specs.Places.{ballots_at}
use Rattle.cases.specs.Steps.{round_at, may_advance}
use Rattle.rules.specs.Turns.{faulty, Coin}
use Rattle.rules.specs.Runs.{Event, Run, Announced, Accepted, Opened, Ended, Forced, Decided}

-- process i is one of the line's processes, and not faulty
abbrev pub Correct : Line → ℕ → Type 0
Correct line i = CorrectOf line.plan.n (faulty line) i

-- no message waits for a correct process
abbrev pub Quiet : Line → List Message → Type 0
Quiet line ws = QuietOf line.plan.n (faulty line) ws

-- Process i cannot go on in case c: it has not opened it or has ended it, or no n - t ballots of
-- its round are valid at it. Rounds count from 0 in a set.
abbrev pub Stuck : Line → Held → ℕ → ℕ → Type 0
Stuck line h i c = (r : ℕ) (S : ℕ → Bool) → round_at line.plan h i c ≡ suc r → r < rounds line.plan → Quorum line.plan.n line.plan.t (ballots_at line.plan h i c) r S → ⊥

-- and none of them may advance in any case
pub record AtRest (line : Line) (h : Held) (ws : List Message) : Type 0 where
  pub quiet : Quiet line ws
  pub stuck : (i c : ℕ) → Correct line i → c < line.plan.cases → Stuck line h i c

-- The code counts valid ballots. By this count a correct process may not advance exactly where it
-- is stuck.
abbrev pub CountsRightly : Line → Held → Type 0
CountsRightly line h = (i c : ℕ) → Correct line i → c < line.plan.cases → (may_advance line.plan h i c ≡ false) ↔ Stuck line h i c

-- Agreement and validity.
pub record Agreement (line : Line) (es : List Event) : Type 0 where
  -- Correct processes accept alike.
  pub bodies : (s : Subject) (i j b c : ℕ) → Correct line i → Correct line j → Accepted es i s b → Accepted es j s c → b ≡ c
  -- What is accepted as an item of a correct process is what this process announced.
  pub items : (i j k b : ℕ) → Correct line i → Correct line j → Accepted es j (Item i k) b → Announced es i k b
  -- Correct processes decide a case alike.
  pub decisions : (c i j k l : ℕ) (u v : Side) → Correct line i → Correct line j → Decided es i c u k → Decided es j c v l → u ≡ v
  -- If all correct processes that opened a case voted for v, no correct one decides another side.
  pub votes : (c : ℕ) (v : Side) → ((o : ℕ) (u : Side) → Correct line o → Opened es o c u → u ≡ v) → (i k : ℕ) (u : Side) → Correct line i → Decided es i c u k → u ≡ v

-- At rest everything is accepted alike.
pub record Completeness (line : Line) (es : List Event) : Type 0 where
  -- What a correct process accepted, each of them accepted.
  pub accepted : (s : Subject) (i j b : ℕ) → Correct line i → Correct line j → Accepted es i s b → Accepted es j s b
  -- What a correct process announced, each of them accepted.
  pub announced : (i j k b : ℕ) → Correct line i → Correct line j → Announced es i k b → Accepted es j (Item i k) b
  -- Each of them has ended every case that all of them opened.
  pub ended : (c : ℕ) → ((o : ℕ) → Correct line o → (v : Side) × Opened es o c v) → (i : ℕ) → Correct line i → Ended es i c line.plan.phases

-- If a phase forces no correct process, or only to the side that the coin shows each of them in
-- this phase, then each that ends the next phase has decided this side, in that phase at the
-- latest.
abbrev pub Luck : Line → Coin → List Event → Type 0
Luck line coin es = (c k : ℕ) (v : Side) → 1 ≤ k → ((o : ℕ) → Correct line o → coin o c k ≡ v) → ((o : ℕ) (u : Side) → Correct line o → Forced es o c k u → u ≡ v) → (i : ℕ) → Correct line i → Ended es i c (k + 1) → (l : ℕ) × (l ≤ k + 1) × Decided es i c v l

-- What memory has as accepted and as decided by a correct process, and the round that it has it in,
-- are what the run tells of it.
pub record Recorded (line : Line) (es : List Event) (h : Held) : Type 0 where
  pub kept : (s : Subject) (i b : ℕ) → Correct line i → Accepted es i s b → body_at line.plan h i s ≡ Some b
  pub only : (s : Subject) (i b : ℕ) → Correct line i → within line.plan s ≡ true → body_at line.plan h i s ≡ Some b → Accepted es i s b
  pub inside : (s : Subject) (i b : ℕ) → Accepted es i s b → within line.plan s ≡ true
  -- Its decision is the one that the run tells; it has none where the run tells none.
  pub decided : (i c : ℕ) → Correct line i → c < line.plan.cases → (v : Side) (k : ℕ) → ((case_at h (case_place line.plan i c)).decision ≡ Some (record { side = v; phase = k })) ↔ Decided es i c v k
  -- Its round is above 0 exactly if it opened the case, and above 3k exactly if it ended phase k.
  pub opened : (i c : ℕ) → Correct line i → ((v : Side) × Opened es i c v) ↔ ((c < line.plan.cases) × (0 < round_at line.plan h i c))
  pub ended : (i c k : ℕ) → Correct line i → 1 ≤ k → Ended es i c k ↔ ((c < line.plan.cases) × (3 * k < round_at line.plan h i c))

-- What holds after a run that told es and led to memory h and waiting messages ws.
pub record Promises (line : Line) (coin : Coin) (es : List Event) (h : Held) (ws : List Message) : Type 0 where
  pub agreement : Agreement line es
  pub rest : AtRest line h ws → Completeness line es
  pub luck : Luck line coin es
  pub recorded : Recorded line es h
  pub counted : CountsRightly line h

-- for every run on a line
abbrev pub PromisesKept : Line → ℕ → Coin → Type 0
PromisesKept line capacity coin = (es : List Event) (h : Held) (ws : List Message) → Run line capacity coin es h ws → Promises line coin es h ws

-- What can come about. Process 0, at rest, has announced and accepted an item. Each correct process
-- has opened a case, was forced in its first phase to the side that the coin shows it, and to no
-- other, and has ended the last phase, which is the next. Process 0 has decided this side in the
-- first phase.
pub record Happening (line : Line) (capacity : ℕ) (coin : Coin) (es : List Event) (h : Held) : Type 0 where
  pub run : Run line capacity coin es h []
  pub rest : AtRest line h []
  pub correct : Correct line 0
  pub announced : Announced es 0 0 5
  pub accepted : Accepted es 0 (Item 0 0) 5
  pub opened : (o : ℕ) → Correct line o → Opened es o 0 Release
  pub forced : (o : ℕ) → Correct line o → Forced es o 0 1 Release
  pub only : (o : ℕ) (u : Side) → Correct line o → Forced es o 0 1 u → u ≡ Release
  pub shown : (o : ℕ) → Correct line o → coin o 0 1 ≡ Release
  pub ended : (o : ℕ) → Correct line o → Ended es o 0 2
  pub last : line.plan.phases ≡ 2
  pub decided : Decided es 0 0 Release 1
