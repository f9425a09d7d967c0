-- Messages that a process sends to all.
use Rattle.std.specs.Prelude.{ℕ, zero, suc, List, [], ◌∷◌, ◌++◌}
use Rattle.protocol.specs.declared.messages.Message.{Message}
use Rattle.protocol.specs.declared.messages.Step.{Step}
use Rattle.protocol.specs.declared.messages.Subject.{Subject}
use Rattle.protocol.specs.Messages.{message}

-- a message of process i to each process below n, in their order
unfoldable pub to_all : ℕ → ℕ → Step → Subject → ℕ → List Message
to_all zero i step s b = []
to_all (suc n) i step s b = to_all n i step s b ++ (message i n step s b ∷ [])
