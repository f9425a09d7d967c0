-- A line that was opened found an empty carrier.
use Rattle.std.proofs.Common.{◌≡◌, Bool, true, false, eqb, List, [], length, None, refl}
use Rattle.std.proofs.lemmas.Bool.{eqb-true}
use Rattle.std.proofs.lemmas.List.{nil_from_length}
use Rattle.protocol.specs.declared.messages.Message.{Message}
use Rattle.protocol.specs.declared.refusals.Refusal.TheVariants.{MemoryTooSmall, MessageWaiting}
use Rattle.plan.specs.declared.plans.Plan.{Plan}
use Rattle.memory.specs.Contents.{Held}
use Rattle.memory.specs.Places.{enough}
use Rattle.rules.specs.Turns.{unless}
use Rattle.line.specs.Opening.{open_refusal}

pub opened_idle : (plan : Plan) (h : Held) (ws : List Message) → open_refusal plan h ws ≡ None → ws ≡ []
opened_idle plan h ws e = nil_from_length ws (eqb-true (length ws) 0 (both (enough plan h) (eqb (length ws) 0) e))
  where
    both : (a b : Bool) → unless a MemoryTooSmall (unless b MessageWaiting None) ≡ None → b ≡ true
    both true true f = refl
    both true false f = absurd cc
    both false b f = absurd cc
