use Rattle.std.proofs.Common.{ℕ, List, Ok, Err, Option, Result}
use Rattle.protocol.specs.declared.messages.Message.{Message}
use Rattle.protocol.specs.declared.refusals.Refusal.{Refusal}
use Rattle.protocol.specs.declared.votes.Side.{Side}
use Rattle.plan.specs.Kinds.{Draft, Line}
use Rattle.coin.specs.Sides.{Shared}
use Rattle.memory.specs.Contents.{Held}
use Rattle.rules.specs.Turns.{Coin}
use Rattle.runs.specs.declared.turns.Turn.{Turn}
use Rattle.runs.specs.Ran.{Ran, RanShared}
use Rattle.runs.proofs.Leading.{shared_luck}
use Rattle.runs.proofs.running.run_shared.Goals as goal

module _ {C I : Type 0} (waiting : C → List Message) (posting : C → Message → C → Type 0) (taking : C → ℕ → ℕ → Message → C → Type 0) (ok : I → Type 0) (packed : I → ℕ) (unpacked : ℕ → Option I) where
  shared : (draft : Draft) (capacity : ℕ) (coin : Coin) (side : ℕ → ℕ → Side) (h : Held) (before : C) (turns : List (Turn I)) (r : Result Line (Refusal × Draft)) (next : Held) (after : C) → Shared coin side → Ran waiting posting taking ok packed unpacked draft capacity coin h before turns r next after → RanShared waiting posting taking ok packed unpacked draft capacity coin side h before turns r next after
  shared draft capacity coin side h before turns (Ok line) next after same made = record { made = made; shared = same; luck = shared_luck line coin side made.led.events same made.promises.luck }
  shared draft capacity coin side h before turns (Err refused) next after same unopened = unopened

pub returns-clause-ran : goal.returns-clause-ran
returns-clause-ran g c =
    let carrier = g.C.Carrier in
    let item = g.I.Item in
    shared carrier.waiting carrier.posting carrier.taking item.ok item.packed item.unpacked c.args.draft _ _ (g.K.SharedCoin.side c.args.coin.now) _ c.args.carrier.now c.args.turns.now c.run.result _ c.run.new.carrier (g.met.K.SharedCoin.shared c.args.coin.now) c.run.ensures.ran
