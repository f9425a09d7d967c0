-- Hearing echoes and readies, and counting them.
use Rattle.std.specs.Prelude.{ℕ, ◌+◌, Bool, List, Some, None, Option, slice_index_or, slice_set}
use Rattle.protocol.specs.Counting.{below}
use Rattle.protocol.specs.Heard.{has}
use Rattle.protocol.specs.declared.messages.Message.{Message}
use Rattle.protocol.specs.declared.messages.Step.{Step}
use Rattle.protocol.specs.declared.messages.Step.TheVariants.{Initial, Echo, Ready}
use Rattle.memory.specs.Contents.{Held}
use Rattle.memory.specs.declared.places.Place.{Place}

-- b in place k, unless a body stands there
abbrev pub hear_over : Option ℕ → ℕ → ℕ → List (Option ℕ) → List (Option ℕ)
hear_over None k b xs = slice_set xs k (Some b)
hear_over (Some a) k b xs = xs

-- the first body in a place stands
abbrev pub hear : ℕ → ℕ → List (Option ℕ) → List (Option ℕ)
hear k b xs = hear_over (slice_index_or xs k None) k b xs

-- whether a place holds b
abbrev pub says : ℕ → Option ℕ → Bool
says b o = has o b

-- how many of the n places from the first on hold b
abbrev pub count_saying : ℕ → ℕ → ℕ → List (Option ℕ) → ℕ
count_saying n first b xs = below n (λ j. says b (slice_index_or xs (first + j) None))

-- what was heard once m was, by its step: initials are not kept
abbrev pub listened : Place → Message → Step → List (Option ℕ) → List (Option ℕ)
listened p m Initial xs = xs
listened p m Echo xs = hear (p.echoes + m.sender) m.body xs
listened p m Ready xs = hear (p.readies + m.sender) m.body xs

-- how many senders were heard with the step and the body of m
abbrev pub agreeing : ℕ → Place → Message → Step → List (Option ℕ) → ℕ
agreeing n p m Initial xs = 0
agreeing n p m Echo xs = count_saying n p.echoes m.body xs
agreeing n p m Ready xs = count_saying n p.readies m.body xs

-- a memory with other body places
abbrev pub with_bodies : List (Option ℕ) → Held → Held
with_bodies xs h = record { broadcasts = h.broadcasts; bodies = xs; cases = h.cases; serials = h.serials }
