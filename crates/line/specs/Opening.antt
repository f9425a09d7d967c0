-- What opening does, and what is promised from then on.
use Rattle.std.specs.Prelude.{◌≡◌, ℕ, List, [], length, Some, None, Ok, Err, Option, Result, ◌==◌}
use Rattle.protocol.specs.declared.messages.Message.{Message}
use Rattle.protocol.specs.declared.refusals.Refusal.{Refusal}
use Rattle.protocol.specs.declared.refusals.Refusal.TheVariants.{MemoryTooSmall, MessageWaiting}
use Rattle.plan.specs.declared.plans.Plan.{Plan}
use Rattle.plan.specs.Kinds.{Draft, Line}
use Rattle.plan.specs.Lines.{Becomes}
use Rattle.memory.specs.Contents.{Held, cleared}
use Rattle.memory.specs.Places.{enough}
use Rattle.rules.specs.Turns.{Coin, unless}
use Rattle.rules.specs.Runs.{Run}
use Rattle.rules.specs.Promises.{PromisesKept}

-- why opening is refused, if it is: the memory is too small, or a message waits
abbrev pub open_refusal : Plan → Held → List Message → Option Refusal
open_refusal plan h ws = unless (enough plan h) MemoryTooSmall (unless (length ws == 0) MessageWaiting None)

-- the draft became a line, over a cleared memory
pub record LineOpened (draft : Draft) (h : Held) (ws : List Message) (line : Line) (after : Held) : Type 0 where
  pub allowed : open_refusal draft.plan h ws ≡ None
  pub became : Becomes draft line
  pub memory : after ≡ cleared draft.plan h

-- opening was refused: the draft comes back, and nothing changed
pub record LineNotOpened (draft : Draft) (h : Held) (ws : List Message) (e : Refusal) (back : Draft) (after : Held) : Type 0 where
  pub first : open_refusal draft.plan h ws ≡ Some e
  pub same : back ≡ draft
  pub memory : after ≡ h

-- what opening answers, and what memory then holds
abbrev pub OpensLine : Draft → Held → List Message → Result Line (Refusal × Draft) → Held → Type 0
OpensLine draft h ws (Ok line) after = LineOpened draft h ws line after
OpensLine draft h ws (Err refused) after = LineNotOpened draft h ws refused.0 refused.1 after

-- A run begins with this memory and an empty carrier, and after every run on the line, with
-- whatever coin, the promises hold.
pub record Begins (capacity : ℕ) (line : Line) (h : Held) : Type 0 where
  pub run : (coin : Coin) → Run line capacity coin [] h []
  pub kept : (coin : Coin) → PromisesKept line capacity coin

-- what is promised where opening is not refused
abbrev pub Promised : ℕ → Result Line (Refusal × Draft) → Held → Type 0
Promised capacity (Ok line) h = Begins capacity line h
Promised capacity (Err refused) h = Unit {0}
