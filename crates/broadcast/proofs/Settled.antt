-- How hearing and going on make up what a message does.
use Rattle.std.proofs.Common.{◌≡◌, ℕ, List, get_or, slice_set, None, Some, Option, refl, ap, ◌∙◌}
use Rattle.std.proofs.lemmas.List.{set-get_or}
use Rattle.protocol.specs.declared.messages.Message.{Message}
use Rattle.plan.specs.Sheet.{thresholds_of}
use Rattle.plan.specs.declared.plans.Plan.{Plan}
use Rattle.plan.specs.declared.plans.Thresholds.{Thresholds}
use Rattle.memory.specs.Contents.{Held, silent, stage_at}
use Rattle.memory.specs.declared.places.Place.{Place}
use Rattle.memory.specs.declared.records.BroadcastRecord.{BroadcastRecord}
use Rattle.memory.specs.declared.records.Stage.{Stage}
use Rattle.memory.specs.declared.records.Stage.TheVariants.{Silent, Echoed, Readied, Accepted}
use Rattle.broadcast.specs.Hearing.{listened, agreeing, with_bodies}
use Rattle.broadcast.specs.Receiving.{Outcome, outcome, heard, moved_on, handled}
use Rattle.broadcast.specs.Stages.{nothing, turn, onward, put}
use Rattle.broadcast.specs.declared.reactions.Reaction.{Reaction}

-- a record that goes on in its place
put_is : (at : ℕ) (o : Option Stage) (rs : List BroadcastRecord) (r : BroadcastRecord) → r.stage ≡ onward o (get_or rs at silent).stage → slice_set rs at r ≡ put at o rs
put_is at None rs r e = ap (λ (s : Stage). slice_set rs at (record { stage = s })) e ∙ set-get_or rs at silent
put_is at (Some s) rs r e = ap (λ (s : Stage). slice_set rs at (record { stage = s })) e

module _ (plan : Plan) (p : Place) (m : Message) (h : Held) where
  abbrev at_stage : Stage → Outcome
  at_stage s =
      let xs = heard p m s h.bodies in
      let t = turn (thresholds_of plan.n plan.t) m (agreeing plan.n p m m.step xs) s in
      outcome (record { broadcasts = put p.«record» t.next h.broadcasts; bodies = xs; cases = h.cases; serials = h.serials }) t.reaction

  pub accepted_stays : (b : ℕ) → Accepted b ≡ stage_at h p.«record» → outcome h nothing ≡ handled plan p m h
  unfolding handled
  accepted_stays b e = ap at_stage e

  heard_is : (s : Stage) → ((b : ℕ) → s ≡ Accepted b → ⊥) → listened p m m.step h.bodies ≡ heard p m s h.bodies
  heard_is Silent not_accepted = refl
  heard_is Echoed not_accepted = refl
  heard_is Readied not_accepted = refl
  heard_is (Accepted b) not_accepted = absurd (not_accepted b refl)

  -- the code's way: a count, a memory that was changed by hearing, and then one record
  pub settles :
      (limits : Thresholds) (count : ℕ) (after : Held)
      → ((b : ℕ) → stage_at h p.«record» ≡ Accepted b → ⊥)
      → limits ≡ thresholds_of plan.n plan.t
      → after ≡ with_bodies (listened p m m.step h.bodies) h
      → count ≡ agreeing plan.n p m m.step after.bodies
      → (r : BroadcastRecord) (does : Reaction)
      → r.stage ≡ onward (turn limits m count (stage_at after p.«record»)).next (stage_at after p.«record»)
      → does ≡ (turn limits m count (stage_at after p.«record»)).reaction
      → outcome (record { broadcasts = slice_set after.broadcasts p.«record» r; bodies = after.bodies; cases = after.cases; serials = after.serials }) does ≡ handled plan p m h
  unfolding handled
  settles limits count after not_accepted same heard_so counted r does next reaction =
      let all = heard_so ∙ ap (λ xs. with_bodies xs h) (heard_is (stage_at h p.«record») not_accepted) in
      (λ i.
      outcome (record { broadcasts = put_is p.«record» (turn limits m count (stage_at after p.«record»)).next after.broadcasts r next i; bodies = after.bodies; cases = after.cases; serials = after.serials })
      (reaction i))
      ∙ (λ i. moved_on (same i) p m (counted i) after)
      ∙ ap (λ (x : Held). moved_on (thresholds_of plan.n plan.t) p m (agreeing plan.n p m m.step x.bodies) x) all
