-- An advance that is done is an event by the rules: it goes by the set that the code chooses.
use Rattle.std.proofs.Common.{◌≡◌, ℕ, ◌+◌, List, Some, refl, sym}
use Rattle.protocol.specs.declared.messages.Message.{Message}
use Rattle.plan.specs.Kinds.{Line}
use Rattle.memory.specs.Contents.{Held}
use Rattle.cases.proofs.Going.{law}
use Rattle.cases.specs.Steps.{round_at, step_at, chosen}
use Rattle.cases.specs.declared.steps.Progress.{Progress}
use Rattle.rules.specs.Turns.{Advance, Coin, refusal, advancing, Done}
use Rattle.rules.specs.Runs.{Advances}

module _ (line : Line) (capacity : ℕ) (h : Held) (ws : List Message) (coin : Coin) (i c : ℕ) where
  pub goes_on : (step : Progress) (next : Held) (left : List Message) (posted : ℕ) → step_at line.plan h i c ≡ Some step → Done (refusal line capacity h ws (Advance i c)) (advancing line h coin i c (round_at line.plan h i c) step) next ws left posted → Advances line capacity h ws coin i c (round_at line.plan h i c) step.forced step.decides (round_at line.plan h i c + 1) posted next left
  goes_on step next left posted by done = record {
    step = step;
    by = by;
    from = refl;
    set = chosen line.plan h i c;
    law = (law line.plan h i c (Some step) (sym by)).goes step refl;
    forces = refl;
    decision = refl;
    answer = refl;
    done = done;
  }
