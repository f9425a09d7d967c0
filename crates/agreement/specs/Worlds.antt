-- Who takes part, who is faulty, how sets of processes are weighed, and from which weight on a
-- process acts.
use Rattle.std.specs.Prelude.{◌≡◌, ℕ, ◌+◌, ◌<◌, ◌≤◌, Bool, true, false, ◌&&◌, ◌||◌}
use Rattle.protocol.specs.Counting.{below}
use Rattle.protocol.specs.Faults.{CorrectOf}
use Rattle.protocol.specs.Thresholds.{Sound}

-- What a run takes place in.
pub record World : Type 0 where
  -- the processes are 0 to n - 1
  pub n : ℕ
  -- the most that the faulty ones may weigh
  pub t : ℕ
  pub faulty : ℕ → Bool
  pub weight : (ℕ → Bool) → ℕ
  -- the thresholds: echoes that make a process ready, readies that do, readies that make it accept
  pub echo : ℕ
  pub ready : ℕ
  pub accept : ℕ

-- process i is one of the n, and not faulty
abbrev pub CorrectIn : World → ℕ → Type 0
CorrectIn w i = CorrectOf w.n w.faulty i

-- the laws of weighing sets of processes below n
pub record Measure (n : ℕ) (weight : (ℕ → Bool) → ℕ) : Type 0 where
  pub empty : weight (λ _. false) ≡ 0
  pub monotone : (p q : ℕ → Bool) → ((k : ℕ) → k < n → p k ≡ true → q k ≡ true) → weight p ≤ weight q
  pub modular : (p q : ℕ → Bool) → weight p + weight q ≡ weight (λ k. p k || q k) + weight (λ k. p k && q k)

-- What is asked of a world.
pub record Lawful (w : World) : Type 0 where
  -- a message has room for the names 0 to 15
  pub named : w.n ≤ 16
  pub measure : Measure w.n w.weight
  pub few : w.weight w.faulty ≤ w.t
  pub sound : Sound (w.weight (λ _. true)) w.t w.echo w.ready w.accept

-- each process weighs 1
abbrev pub counted : (n t echo ready accept : ℕ) → (ℕ → Bool) → World
counted n t echo ready accept faulty = record { n = n; t = t; faulty = faulty; weight = below n; echo = echo; ready = ready; accept = accept }

-- where each process weighs 1, a world meets what is asked
abbrev pub Counting : Type 0
Counting = (n t echo ready accept : ℕ) (faulty : ℕ → Bool) → n ≤ 16 → below n faulty ≤ t → Sound n t echo ready accept → Lawful (counted n t echo ready accept faulty)
