-- Messages as a bag: repeats count, order does not.
use Rattle.std.specs.Prelude.{◌≡◌, ℕ, ◌+◌, Bool, cond, List, [], ◌∷◌, ◌==◌}
use Rattle.protocol.specs.declared.messages.Message.{Message}

-- how many messages pass the test
unfoldable pub count : (Message → Bool) → List Message → ℕ
count p [] = 0
count p (m ∷ ms) = cond (p m) 1 0 + count p ms

-- the same messages, each as often
abbrev pub Same : List Message → List Message → Type 0
Same xs ys = (p : Message → Bool) → count p xs ≡ count p ys

abbrev pub addressed : ℕ → Message → Bool
addressed process m = m.addressee == process

-- how many wait for a process
abbrev pub waiting_for : ℕ → List Message → ℕ
waiting_for process ms = count (addressed process) ms
