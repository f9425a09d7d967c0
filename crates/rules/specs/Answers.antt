-- What the contract of each turn says: the event that came of it happened.
use Rattle.std.specs.Prelude.{ℕ, List, Ok, Err, Option, Result}
use Rattle.protocol.specs.declared.messages.Message.{Message}
use Rattle.protocol.specs.declared.refusals.Refusal.{Refusal}
use Rattle.protocol.specs.declared.votes.Side.{Side}
use Rattle.plan.specs.Kinds.{Line}
use Rattle.carrier.specs.Posting.{Posts, Exchanges}
use Rattle.memory.specs.Contents.{Held}
use Rattle.rules.specs.Turns.{Announce, Open, Forge, Deliver, Advance, Coin, refusal, delivering, advancing, Refused}
use Rattle.rules.specs.Runs.{Announces, OpensCase, Forges, Delivers, Advances}
use Rattle.rules.specs.declared.answers.Announced.{Announced}
use Rattle.rules.specs.declared.answers.Delivered.{Delivered}
use Rattle.rules.specs.declared.answers.Advanced.{Advanced}

module _ (line : Line) (capacity : ℕ) (h : Held) (ws : List Message) where
  abbrev pub Announcement : (i b : ℕ) → Result Announced Refusal → Held → List Message → Type 0
  Announcement i b (Ok a) next left = Announces line capacity h ws i b a.serial a.posted next left
  Announcement i b (Err e) next left = Refused (refusal line capacity h ws (Announce i b)) e h next ws left

  abbrev pub CaseOpening : (i c v : ℕ) → Result ℕ Refusal → Held → List Message → Type 0
  CaseOpening i c v (Ok posted) next left = OpensCase line capacity h ws i c v posted next left
  CaseOpening i c v (Err e) next left = Refused (refusal line capacity h ws (Open i c v)) e h next ws left

  abbrev pub Forgery : Message → Result ℕ Refusal → Held → List Message → Type 0
  Forgery m (Ok posted) next left = Forges line capacity h ws m posted next left
  Forgery m (Err e) next left = Refused (refusal line capacity h ws (Forge m)) e h next ws left

  module _ {C : Type 0} (posting : C → Message → C → Type 0) (taking : C → ℕ → ℕ → Message → C → Type 0) where
    -- A delivery took some message, and the carrier says which.
    pub record Took (i pick : ℕ) (d : Delivered) (before : C) (next : Held) (left : List Message) (after : C) : Type 0 where
      pub message : Message
      pub happens : Delivers line capacity h ws i pick message d.posted d.accepted next left
      pub order : Exchanges posting taking before i pick message (delivering line h message).sent after

    abbrev pub Delivery : (i pick : ℕ) → Result Delivered Refusal → C → Held → List Message → C → Type 0
    Delivery i pick (Ok d) before next left after = Took i pick d before next left after
    Delivery i pick (Err e) before next left after = Refused (refusal line capacity h ws (Deliver i pick)) e h next ws left

    -- An advance told which sides its ballots force and decide.
    pub record Went (coin : Coin) (i c : ℕ) (a : Advanced) (before : C) (next : Held) (left : List Message) (after : C) : Type 0 where
      pub round : ℕ
      pub forced : Option Side
      pub decides : Option Side
      pub happens : Advances line capacity h ws coin i c round forced decides a.round a.posted next left
      pub order : Posts posting before (advancing line h coin i c round happens.step).sent after

    abbrev pub Advancement : (coin : Coin) (i c : ℕ) → Result Advanced Refusal → C → Held → List Message → C → Type 0
    Advancement coin i c (Ok a) before next left after = Went coin i c a before next left after
    Advancement coin i c (Err e) before next left after = Refused (refusal line capacity h ws (Advance i c)) e h next ws left
