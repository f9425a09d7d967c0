-- What a carrier says of messages that are posted one after another.
use Rattle.std.specs.Prelude.{ℕ, List, [], ◌∷◌, ◌++◌}
use Rattle.protocol.specs.declared.messages.Message.{Message}

-- the messages were posted in this order
pub data Posts {C : Type 0} (posting : C → Message → C → Type 0) (before : C) : List Message → C → Type 0 where
  none : Posts posting before [] before
  more : {ms : List Message} {m : Message} {mid after : C} → Posts posting before ms mid → posting mid m after → Posts posting before (ms ++ (m ∷ [])) after

-- message m was taken, and then these were posted in this order
pub record Exchanges {C : Type 0} (posting : C → Message → C → Type 0) (taking : C → ℕ → ℕ → Message → C → Type 0) (before : C) (process pick : ℕ) (m : Message) (sent : List Message) (after : C) : Type 0 where
  pub mid : C
  pub took : taking before process pick m mid
  pub posts : Posts posting mid sent after
