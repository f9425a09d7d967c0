-- Which accepted ballots are valid. Rounds count from 0 here.
use Rattle.std.specs.Prelude.{◌≡◌, ℕ, zero, suc, ◌-◌, ◌*◌, ◌<◌, ◌≤◌, Bool, true, ◌&&◌, Some, nat_lt}
use Rattle.protocol.specs.declared.votes.Side.{Side}
use Rattle.protocol.specs.Counting.{below}
use Rattle.protocol.specs.Numbers.{ballot_number, vote}
use Rattle.protocol.specs.Phases.{kind}
use Rattle.consensus.specs.Rounds.{BallotMap, tally, Allows}

-- n - t processes, each with a ballot that V holds of
pub record FullSet (n t : ℕ) (V : ℕ → ℕ → Type 0) (S : ℕ → Bool) : Type 0 where
  pub size : below n S ≡ n - t
  pub member : (k : ℕ) → k < n → S k ≡ true → (b : ℕ) × V k b

-- b votes for a side
abbrev pub IsVote : ℕ → Type 0
IsVote b = (v : Side) × (b ≡ ballot_number (vote v))

-- some full set of the ballots of round r that V holds of allows b in the round after it
abbrev pub Backed : ℕ → ℕ → BallotMap → (ℕ → ℕ → Type 0) → ℕ → ℕ → Type 0
Backed n t G V r b = (S : ℕ → Bool) × FullSet n t V S × Allows n t (kind r) (tally n G r S) b

-- In round r, G has the valid ballot b of process o: in round 0 a vote, later one that valid
-- ballots of the round before back.
unfoldable pub Valid : ℕ → ℕ → BallotMap → ℕ → ℕ → ℕ → Type 0
Valid n t G zero o b = (G o zero ≡ Some b) × IsVote b
Valid n t G (suc r) o b = (G o (suc r) ≡ Some b) × Backed n t G (Valid n t G r) r b

-- S is a full set of valid ballots of round r in G
abbrev pub Quorum : ℕ → ℕ → BallotMap → ℕ → (ℕ → Bool) → Type 0
Quorum n t G r S = FullSet n t (Valid n t G r) S

-- what a process that has accepted A may say in round r
abbrev pub Justified : ℕ → ℕ → BallotMap → ℕ → ℕ → Type 0
Justified n t A zero b = IsVote b
Justified n t A (suc r) b = Backed n t A (Valid n t A r) r b

-- the m lowest k that pass the test
unfoldable pub lowest : ℕ → (ℕ → Bool) → ℕ → Bool
lowest m p k = p k && nat_lt (below k p) m

-- all that A has, G has
abbrev pub Part : BallotMap → BallotMap → Type 0
Part A G = (o r b : ℕ) → A o r ≡ Some b → G o r ≡ Some b

-- of n processes at most t are faulty, and t is less than a third of n
pub record Resilient (n t : ℕ) (faulty : ℕ → Bool) : Type 0 where
  pub few : below n faulty ≤ t
  pub third : 3 * t < n
