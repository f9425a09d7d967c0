-- Who is correct, and when nothing is left to be delivered.
use Rattle.std.specs.Prelude.{◌≡◌, ℕ, ◌<◌, Bool, false, List}
use Rattle.protocol.specs.declared.messages.Message.{Message}
use Rattle.protocol.specs.Bags.{waiting_for}

-- one of the processes 0 to n - 1, and not faulty
abbrev pub CorrectOf : ℕ → (ℕ → Bool) → ℕ → Type 0
CorrectOf n faulty i = (i < n) × (faulty i ≡ false)

-- no message waits for a correct process
abbrev pub QuietOf : ℕ → (ℕ → Bool) → List Message → Type 0
QuietOf n faulty ws = (i : ℕ) → CorrectOf n faulty i → waiting_for i ws ≡ 0
