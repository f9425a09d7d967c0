-- Which ballots are valid, by counting. Rounds count from 0 here.
use Rattle.std.specs.Prelude.{◌≡◌, ℕ, zero, suc, ◌+◌, ◌-◌, ◌*◌, ◌/◌, min, Bool, true, false, cond, ◌&&◌, ◌||◌, Some, None, Option, nat_le, nat_lt}
use Rattle.protocol.specs.Numbers.{ballot_number, ballot_of}
use Rattle.protocol.specs.declared.votes.Ballot.{Ballot}
use Rattle.protocol.specs.declared.votes.Kind.{Kind}
use Rattle.protocol.specs.declared.votes.Kind.TheVariants.{First, Second, Third}
use Rattle.protocol.specs.Phases.{kind}
use Rattle.consensus.specs.Rounds.{BallotMap}
use Rattle.consensus.specs.Validity.{Valid}
use Rattle.ballots.specs.Tallies.{counts, part}
use Rattle.ballots.specs.declared.tallies.ByBallot.{ByBallot}

-- what a full set of m of the x can allow after a first round: which side can be ahead
abbrev pub after_first : ℕ → ByBallot ℕ → ByBallot Bool
after_first m x =
    let full = nat_le m (x.keep + x.release) in
    record {
      keep = full && nat_le m (2 * min x.keep m);
      release = full && nat_lt m (2 * min x.release m);
      propose_keep = false;
      propose_release = false;
      «open» = false;
    }

-- after a second round: which side can have more than half of all n, and if it can be that
-- neither has
abbrev pub after_second : ℕ → ℕ → ByBallot ℕ → ByBallot Bool
after_second n m x =
    let full = nat_le m (x.keep + x.release) in
    record {
      keep = false;
      release = false;
      propose_keep = full && nat_lt n (2 * min x.keep m);
      propose_release = full && nat_lt n (2 * min x.release m);
      «open» = nat_le m (min x.keep (n / 2) + min x.release (n / 2));
    }

-- after a third round: which side can be forced, and whether it can be that neither is
abbrev pub after_third : ℕ → ℕ → ByBallot ℕ → ByBallot Bool
after_third t m x =
    let full = nat_le m (x.propose_keep + x.propose_release + x.«open») in
    let tossed = nat_le m (min x.propose_keep t + min x.propose_release t + x.«open») in
    record {
      keep = full && nat_lt t (min x.propose_keep m) || tossed;
      release = full && nat_lt t (min x.propose_release m) || tossed;
      propose_keep = false;
      propose_release = false;
      «open» = false;
    }

-- what n - t ballots of a round can allow in the round after it
unfoldable pub allowed_after : ℕ → ℕ → Kind → ByBallot ℕ → ByBallot Bool
allowed_after n t First x = after_first (n - t) x
allowed_after n t Second x = after_second n (n - t) x
allowed_after n t Third x = after_third t (n - t) x

-- a case begins with votes
abbrev pub beginning : ByBallot Bool
beginning = record { keep = true; release = true; propose_keep = false; propose_release = false; «open» = false }

abbrev pub passed : ByBallot Bool → Option Ballot → Option Ballot
passed a None = None
passed a (Some b) = cond (part a b) (Some b) None

-- a body, if it is a ballot and allowed
abbrev pub sifted : ByBallot Bool → Option ℕ → Option Ballot
sifted a None = None
sifted a (Some b) = passed a (ballot_of b)

-- the valid ballots of a round, by process
unfoldable pub valid_by_counting : ℕ → ℕ → BallotMap → ℕ → ℕ → Option Ballot
valid_by_counting n t G zero k = sifted beginning (G k zero)
valid_by_counting n t G (suc r) k = sifted (allowed_after n t (kind r) (counts n (valid_by_counting n t G r))) (G k (suc r))

-- o is the one ballot whose number V holds of, and it is none if V holds of no number
pub record Exactly (V : ℕ → Type 0) (o : Option Ballot) : Type 0 where
  pub sound : (b : Ballot) → o ≡ Some b → V (ballot_number b)
  pub full : (b : ℕ) → V b → (c : Ballot) × (b ≡ ballot_number c) × (o ≡ Some c)

-- Counting finds the valid ballots, for all numbers of processes and all that may have been
-- accepted.
abbrev pub CountingFinds : Type 0
CountingFinds = (n t : ℕ) (G : BallotMap) (r k : ℕ) → Exactly (Valid n t G r k) (valid_by_counting n t G r k)
