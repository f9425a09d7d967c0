-- What making a list of turns does, from opening a line on.
use Rattle.std.specs.Prelude.{◌≡◌, ℕ, ◌+◌, ◌≤◌, List, [], ◌∷◌, map, reverse, Some, Ok, Err, Option, Result}
use Rattle.protocol.specs.declared.messages.Message.{Message}
use Rattle.protocol.specs.declared.messages.Subject.{Subject}
use Rattle.protocol.specs.declared.messages.Subject.TheVariants.{Item}
use Rattle.protocol.specs.declared.refusals.Refusal.{Refusal}
use Rattle.protocol.specs.declared.votes.Side.{Side}
use Rattle.plan.specs.Kinds.{Draft, Line}
use Rattle.coin.specs.Sides.{Shared}
use Rattle.memory.specs.Contents.{Held}
use Rattle.memory.specs.Places.{body_at}
use Rattle.line.specs.Opening.{LineOpened, LineNotOpened}
use Rattle.rules.specs.Turns.{Coin}
use Rattle.rules.specs.Runs.{Event, Run, turn_of, Announced, Accepted, Ended, Forced, Decided}
use Rattle.rules.specs.Promises.{Correct, AtRest, Promises}
use Rattle.runs.specs.declared.turns.Turn.{Turn}
use Rattle.runs.specs.Performed.{asked, Occurs}

-- Two accepted bodies are alike: they are equal, and so is what they are read as.
abbrev pub ReadAlike : {I : Type 0} → (ℕ → Option I) → ℕ → ℕ → Type 0
ReadAlike unpacked b c = (b ≡ c) × (unpacked b ≡ unpacked c)

-- A body is that of a value, and it is read as this value.
pub record IsOf {I : Type 0} (packed : I → ℕ) (unpacked : ℕ → Option I) (b : ℕ) (value : I) : Type 0 where
  pub body : packed value ≡ b
  pub read : unpacked b ≡ Some value

-- What was promised of bodies, in the values of an item type.
pub record Values {I : Type 0} (packed : I → ℕ) (unpacked : ℕ → Option I) (line : Line) (es : List Event) (h : Held) (ws : List Message) : Type 0 where
  -- Correct processes accept alike.
  pub accepted : (s : Subject) (i j b c : ℕ) → Correct line i → Correct line j → Accepted es i s b → Accepted es j s c → ReadAlike unpacked b c
  -- What is accepted as an item of a correct process is the value that this process announced.
  pub items : (i j k b : ℕ) → Correct line i → Correct line j → Accepted es j (Item i k) b → Announced es i k b × ((value : I) × IsOf packed unpacked b value)
  -- At rest each of them has the value that one of them announced.
  pub announced : AtRest line h ws → (i j k b : ℕ) → Correct line i → Correct line j → Announced es i k b → (body_at line.plan h j (Item i k) ≡ Some b) × ((value : I) × IsOf packed unpacked b value)

-- A phase of a case that forces no correct process but to the side that a shared coin shows decides
-- this side for each correct process that ends the next phase, in that phase at the latest.
abbrev pub SharedLuck : Line → (ℕ → ℕ → Side) → List Event → Type 0
SharedLuck line side es = (c k : ℕ) → 1 ≤ k → ((o : ℕ) (u : Side) → Correct line o → Forced es o c k u → u ≡ side c k) → (i : ℕ) → Correct line i → Ended es i c (k + 1) → (l : ℕ) × (l ≤ k + 1) × Decided es i c (side c k) l

module _ {C : Type 0} (waiting : C → List Message) (posting : C → Message → C → Type 0) (taking : C → ℕ → ℕ → Message → C → Type 0) where
  -- Events occur one after another, from memory `start` and carrier `from` on. Nothing stands
  -- between them.
  pub data Straight (line : Line) (capacity : ℕ) (coin : Coin) (start : Held) (from : C) : List Event → Held → C → Type 0 where
    at_opening : Straight line capacity coin start from [] start from
    one_more : {es : List Event} {h next : Held} {before after : C} → Straight line capacity coin start from es h before → (e : Event) → Occurs waiting posting taking line coin h capacity e before next after → Straight line capacity coin start from (e ∷ es) next after

module _ {C I : Type 0} (waiting : C → List Message) (posting : C → Message → C → Type 0) (taking : C → ℕ → ℕ → Message → C → Type 0) (ok : I → Type 0) (packed : I → ℕ) (unpacked : ℕ → Option I) where
  -- these turns, one after another and with nothing between them, lead from a memory and a carrier
  -- to others
  pub record Led (line : Line) (capacity : ℕ) (coin : Coin) (turns : List (Turn I)) (start : Held) (from : C) (h : Held) (at : C) : Type 0 where
    pub events : List Event
    pub told : map turn_of events ≡ reverse (map (asked packed) turns)
    pub straight : Straight waiting posting taking line capacity coin start from events h at
    -- what is announced is the body of a value
    pub fits : (i k b : ℕ) → Announced events i k b → (value : I) × ok value × (packed value ≡ b)

  -- The draft was opened as the line over memory h and a carrier; every turn was then made on it
  -- and nothing else; and the promises hold of the run that this was.
  pub record Made (draft : Draft) (capacity : ℕ) (coin : Coin) (h : Held) (before : C) (turns : List (Turn I)) (line : Line) (next : Held) (after : C) : Type 0 where
    pub start : Held
    pub opened : LineOpened draft h (waiting before) line start
    pub led : Led line capacity coin turns start before next after
    pub run : Run line capacity coin led.events next (waiting after)
    pub promises : Promises line coin led.events next (waiting after)
    pub values : Values packed unpacked line led.events next (waiting after)

  -- opening was refused, and nothing changed
  pub record Unopened (draft : Draft) (h : Held) (before : C) (e : Refusal) (back : Draft) (next : Held) (after : C) : Type 0 where
    pub opening : LineNotOpened draft h (waiting before) e back next
    pub carrier : after ≡ before

  -- what making the turns answers, and what memory and carrier then hold
  abbrev pub Ran : (draft : Draft) (capacity : ℕ) (coin : Coin) (h : Held) (before : C) (turns : List (Turn I)) → Result Line (Refusal × Draft) → Held → C → Type 0
  Ran draft capacity coin h before turns (Ok line) next after = Made draft capacity coin h before turns line next after
  Ran draft capacity coin h before turns (Err refused) next after = Unopened draft h before refused.0 refused.1 next after

  -- and over a coin that shows every process one side
  pub record MadeShared (draft : Draft) (capacity : ℕ) (coin : Coin) (side : ℕ → ℕ → Side) (h : Held) (before : C) (turns : List (Turn I)) (line : Line) (next : Held) (after : C) : Type 0 where
    pub made : Made draft capacity coin h before turns line next after
    pub shared : Shared coin side
    pub luck : SharedLuck line side made.led.events

  abbrev pub RanShared : (draft : Draft) (capacity : ℕ) (coin : Coin) (side : ℕ → ℕ → Side) (h : Held) (before : C) (turns : List (Turn I)) → Result Line (Refusal × Draft) → Held → C → Type 0
  RanShared draft capacity coin side h before turns (Ok line) next after = MadeShared draft capacity coin side h before turns line next after
  RanShared draft capacity coin side h before turns (Err refused) next after = Unopened draft h before refused.0 refused.1 next after
