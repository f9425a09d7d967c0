-- What making a turn does, from the event that happened.
use Rattle.std.proofs.Common.{◌≡◌, ℕ, List, Err, Result, sym, refl, ap, ◌∙◌, subst}
use Rattle.std.specs.Result.{IsErrAnd}
use Rattle.std.proofs.lemmas.Result.{err_from_is_err_and}
use Rattle.protocol.specs.declared.messages.Message.{Message}
use Rattle.protocol.specs.declared.refusals.Refusal.{Refusal}
use Rattle.plan.specs.Kinds.{Line}
use Rattle.memory.specs.Contents.{Held}
use Rattle.rules.specs.Turns.{refusal, Refused, Coin}
use Rattle.rules.specs.Runs.{Event, refused, turn_of}
use Rattle.runs.specs.Performed.{asked, answer_of, Fits, Occurs, Performed}
use Rattle.runs.specs.declared.turns.Turn.{Turn}
use Rattle.runs.specs.declared.turns.Turn.TheVariants.{Announce, Open, Forge, Deliver, Advance}
use Rattle.runs.specs.declared.turns.Answer.{Answer}

module _ {C I : Type 0} {waiting : C → List Message} {posting : C → Message → C → Type 0} {taking : C → ℕ → ℕ → Message → C → Type 0} {line : Line} {coin : Coin} {h next : Held} {ok : I → Type 0} (packed : I → ℕ) {capacity : ℕ} {turn asks : Turn I} {before after : C} (is : turn ≡ asks) where
  pub done_turn : (event : Event) → turn_of event ≡ asked packed asks → Occurs waiting posting taking line coin h capacity event before next after → Fits ok asks (answer_of event) → Performed waiting posting taking line coin h ok packed capacity turn (answer_of event) before next after
  done_turn event told occurs fits = record { event = event; told = told ∙ ap (asked packed) (sym is); answer = refl; occurs = occurs; fits = subst (λ t. Fits ok t (answer_of event)) (sym is) fits }

  pub refused_turn : {r : Result Answer Refusal} {e : Refusal} → IsErrAnd r (λ y. y ≡ e) → Refused (refusal line capacity h (waiting before) (asked packed asks)) e h next (waiting before) (waiting after) → after ≡ before → Performed waiting posting taking line coin h ok packed capacity turn r before next after
  refused_turn {r} {e} from happens same =
      let p = err_from_is_err_and r from in
      let is_err = p.1 ∙ ap Err p.2 in
      record { event = refused (asked packed asks) e; told = ap (asked packed) (sym is); answer = is_err; occurs = record { happens = happens; carried = same }; fits = subst (λ x. Fits ok turn x) (sym is_err) (none turn) }
    where
      none : (t : Turn I) → Fits ok t (Err e)
      none (Announce i value) = tt
      none (Open i c v) = tt
      none (Forge m) = tt
      none (Deliver i pick) = tt
      none (Advance i c) = tt
