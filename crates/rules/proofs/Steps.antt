-- Each event of a run is a turn of the machine of broadcasts, or changes nothing.
use Rattle.std.proofs.Common.{ℕ, List, ◌∷◌}
use Rattle.protocol.specs.declared.messages.Message.{Message}
use Rattle.plan.specs.Kinds.{Line}
use Rattle.memory.specs.Contents.{Held}
use Rattle.agreement.specs.Runs.{State}
use Rattle.rules.specs.Turns.{Coin}
use Rattle.rules.specs.Runs.{Event, refused, announced, opened, forged, delivered, advanced, Happens}
use Rattle.rules.proofs.Shows.{Shows}
use Rattle.rules.proofs.Follows.{Follow}
use Rattle.rules.proofs.ItemSteps.{by_refused, by_announced, by_forged, by_delivered}
use Rattle.rules.proofs.CaseSteps.{by_opened, by_advanced}

module _ (line : Line) (capacity : ℕ) (coin : Coin) (es : List Event) (h : Held) (ws : List Message) (st : State) (shows : Shows line coin es h ws st) where
  pub follow : (e : Event) (after : Held) (left : List Message) → Happens line capacity h ws coin e after left → Follow line coin st (e ∷ es) after left
  follow (refused turn e) after left r = by_refused line capacity coin es h ws st shows turn e after left r
  follow (announced i b k posted) after left a = by_announced line capacity coin es h ws st shows i b k posted after left a
  follow (opened i c v posted) after left d = by_opened line capacity coin es h ws st shows i c v posted after left d
  follow (forged m posted) after left d = by_forged line capacity coin es h ws st shows m posted after left d
  follow (delivered i pick m posted accepting) after left d = by_delivered line capacity coin es h ws st shows i pick m posted accepting after left d
  follow (advanced i c r f x reached posted) after left d = by_advanced line capacity coin es h ws st shows i c r f x reached posted after left d
