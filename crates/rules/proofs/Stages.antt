-- The stage of a record as the machine of broadcasts sees it, and what a message makes of both.
use Rattle.std.proofs.Common.{◌≡◌, ℕ, Bool, true, false, ◌⊎◌, ◌++◌, Some, None, Option, refl, inl, inr}
use Rattle.std.proofs.lemmas.Bool.{both_ways}
use Rattle.protocol.specs.declared.messages.Message.{Message}
use Rattle.protocol.specs.declared.messages.Step.TheVariants.{Echo, Ready}
use Rattle.memory.specs.Contents.{accepted_body}
use Rattle.memory.specs.declared.records.Stage.{Stage}
use Rattle.memory.specs.declared.records.Stage.TheVariants.{Silent, Echoed, Readied, Accepted}
use Rattle.broadcast.specs.Stages.{Turned, on_initial, made_ready, on_ready}
use Rattle.agreement.specs.Records.{when}
use Rattle.agreement.specs.Runs.{spread}
use Rattle.rules.specs.Turns.{replies}

-- a stage, and the bodies that were echoed, sent ready for and accepted
pub data Shown : Stage → Option ℕ → Option ℕ → Option ℕ → Type 0 where
  silent : Shown Silent None None None
  echoed : (b : ℕ) → Shown Echoed (Some b) None None
  readied : (b c : ℕ) → Shown Readied (Some b) (Some c) None
  accepted : (b c d : ℕ) → Shown (Accepted d) (Some b) (Some c) (Some d)

pub shown_accepted : (x : Stage) (e r a : Option ℕ) → Shown x e r a → accepted_body x ≡ a
shown_accepted _ _ _ _ silent = refl
shown_accepted _ _ _ _ (echoed b) = refl
shown_accepted _ _ _ _ (readied b c) = refl
shown_accepted _ _ _ _ (accepted b c d) = refl

-- where the process goes on to
abbrev pub onward : Option Stage → Stage → Stage
onward None x = x
onward (Some y) x = y

-- A process at stage x does t, and its bodies become e₁, r₁ and a₁.
pub record Follows (n : ℕ) (m : Message) (t : Turned) (x : Stage) (e r a e₁ r₁ a₁ : Option ℕ) : Type 0 where
  pub shown : Shown (onward t.next x) e₁ r₁ a₁
  pub sent : replies n m t.reaction ≡ spread n m.addressee Echo m.subject e e₁ ++ spread n m.addressee Ready m.subject r r₁
  pub accepts : t.reaction.accepted ≡ true → a₁ ≡ Some m.body
  pub from : (c : ℕ) → a₁ ≡ Some c → (a ≡ Some c) ⊎ ((t.reaction.accepted ≡ true) × (m.body ≡ c))

module _ (n : ℕ) (m : Message) where
  -- a turn that accepts nothing
  quiet : (t : Turned) (x : Stage) (e r e₁ r₁ : Option ℕ) → t.reaction.accepted ≡ false → Shown (onward t.next x) e₁ r₁ None → replies n m t.reaction ≡ spread n m.addressee Echo m.subject e e₁ ++ spread n m.addressee Ready m.subject r r₁ → Follows n m t x e r None e₁ r₁ None
  quiet t x e r e₁ r₁ none shown sent = record { shown = shown; sent = sent; accepts = λ h. absurd (both_ways _ none h); from = λ c h. inl h }

  pub initial_follows : (own : Bool) (x : Stage) (e r : Option ℕ) → Shown x e r None → Follows n m (on_initial own x) x e r None (when own e m.body) r None
  unfolding spread
  initial_follows true _ _ _ silent = quiet _ _ _ _ _ _ refl (echoed m.body) refl
  initial_follows true _ _ _ (echoed b) = quiet _ _ _ _ _ _ refl (echoed b) refl
  initial_follows true _ _ _ (readied b c) = quiet _ _ _ _ _ _ refl (readied b c) refl
  initial_follows false _ _ _ silent = quiet _ _ _ _ _ _ refl silent refl
  initial_follows false _ _ _ (echoed b) = quiet _ _ _ _ _ _ refl (echoed b) refl
  initial_follows false _ _ _ (readied b c) = quiet _ _ _ _ _ _ refl (readied b c) refl

  pub echo_follows : (q : Bool) (x : Stage) (e r : Option ℕ) → Shown x e r None → Follows n m (made_ready q x) x e r None (when q e m.body) (when q r m.body) None
  unfolding spread
  echo_follows true _ _ _ silent = quiet _ _ _ _ _ _ refl (readied m.body m.body) refl
  echo_follows true _ _ _ (echoed b) = quiet _ _ _ _ _ _ refl (readied b m.body) refl
  echo_follows true _ _ _ (readied b c) = quiet _ _ _ _ _ _ refl (readied b c) refl
  echo_follows false _ _ _ silent = quiet _ _ _ _ _ _ refl silent refl
  echo_follows false _ _ _ (echoed b) = quiet _ _ _ _ _ _ refl (echoed b) refl
  echo_follows false _ _ _ (readied b c) = quiet _ _ _ _ _ _ refl (readied b c) refl

  -- a process that accepts is made ready by the same message at the latest
  pub ready_follows : (q f : Bool) (x : Stage) (e r : Option ℕ) → (f ≡ true → q ≡ true) → Shown x e r None → Follows n m (on_ready q f m.body x) x e r None (when q e m.body) (when q r m.body) (when f None m.body)
  unfolding spread
  ready_follows q false x e r both s = echo_follows q x e r s
  ready_follows false true x e r both s = absurd (both_ways false refl (both refl))
  ready_follows true true _ _ _ both silent = record { shown = accepted m.body m.body m.body; sent = refl; accepts = λ h. refl; from = λ c h. inr (refl, cc) }
  ready_follows true true _ _ _ both (echoed b) = record { shown = accepted b m.body m.body; sent = refl; accepts = λ h. refl; from = λ c h. inr (refl, cc) }
  ready_follows true true _ _ _ both (readied b c) = record { shown = accepted b c m.body; sent = refl; accepts = λ h. refl; from = λ d h. inr (refl, cc) }
