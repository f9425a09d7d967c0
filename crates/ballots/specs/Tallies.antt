-- Rows of ballots, and counting them.
use Rattle.std.specs.Prelude.{◌≡◌, ℕ, Bool, false, cond, List, length, Some, None, Option, ◌==◌, slice_index_or}
use Rattle.protocol.specs.Counting.{below}
use Rattle.protocol.specs.Numbers.{ballot_number}
use Rattle.protocol.specs.declared.votes.Ballot.{Ballot}
use Rattle.protocol.specs.declared.votes.Ballot.TheVariants.{Keep, Release, ProposeKeep, ProposeRelease, Open}
use Rattle.ballots.specs.declared.tallies.ByBallot.{ByBallot}

-- the ballot of process k in a row
abbrev pub ballot_in : List (Option Ballot) → ℕ → Option Ballot
ballot_in row k = slice_index_or row k None

-- a row of sixteen has the ballots that g gives
pub record Holds (g : ℕ → Option Ballot) (row : List (Option Ballot)) : Type 0 where
  pub size : length row ≡ 16
  pub each : (k : ℕ) → ballot_in row k ≡ g k

-- whether it is this ballot
abbrev pub is_ballot : Ballot → Option Ballot → Bool
is_ballot b None = false
is_ballot b (Some c) = ballot_number c == ballot_number b

-- how many processes below n have each ballot
abbrev pub counts : ℕ → (ℕ → Option Ballot) → ByBallot ℕ
counts n g = record {
  keep = below n (λ k. is_ballot Keep (g k));
  release = below n (λ k. is_ballot Release (g k));
  propose_keep = below n (λ k. is_ballot ProposeKeep (g k));
  propose_release = below n (λ k. is_ballot ProposeRelease (g k));
  «open» = below n (λ k. is_ballot Open (g k));
}

-- the ballots of the members of S
abbrev pub among : (ℕ → Bool) → (ℕ → Option Ballot) → ℕ → Option Ballot
among S g k = cond (S k) (g k) None

-- what there is of a ballot
abbrev pub part : {T : Type 0} → ByBallot T → Ballot → T
part x Keep = x.keep
part x Release = x.release
part x ProposeKeep = x.propose_keep
part x ProposeRelease = x.propose_release
part x Open = x.«open»
