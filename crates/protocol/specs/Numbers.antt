-- Ballots and their numbers.
use Rattle.std.specs.Prelude.{◌≡◌, ℕ, cond, Some, None, Option, Result, ok_or, ◌==◌}
use Rattle.protocol.specs.declared.refusals.Refusal.{Refusal}
use Rattle.protocol.specs.declared.refusals.Refusal.TheVariants.{ValueOutOfRange}
use Rattle.protocol.specs.declared.votes.Side.{Side}
use Rattle.protocol.specs.declared.votes.Side.TheVariants as side
use Rattle.protocol.specs.declared.votes.Ballot.{Ballot}
use Rattle.protocol.specs.declared.votes.Ballot.TheVariants.{Keep, Release, ProposeKeep, ProposeRelease, Open}

abbrev pub ballot_number : Ballot → ℕ
ballot_number Keep = 0
ballot_number Release = 1
ballot_number ProposeKeep = 2
ballot_number ProposeRelease = 3
ballot_number Open = 4

-- the ballot of a number
abbrev pub ballot_of : ℕ → Option Ballot
ballot_of n =
    cond (n == 0) (Some Keep)
    (cond (n == 1) (Some Release) (cond (n == 2) (Some ProposeKeep) (cond (n == 3) (Some ProposeRelease) (cond (n == 4) (Some Open) None))))

-- o holds a ballot exactly if n is that ballot's number
pub record ExactlyNumbered (n : ℕ) (o : Option Ballot) : Type 0 where
  pub sound : (b : Ballot) → o ≡ Some b → n ≡ ballot_number b
  pub full : (b : Ballot) → n ≡ ballot_number b → o ≡ Some b

-- what a number is turned into: the ballot that has it, if one has
pub record FromNumber (n : ℕ) (r : Result Ballot Refusal) : Type 0 where
  pub value : r ≡ ok_or (ballot_of n) ValueOutOfRange
  pub exact : ExactlyNumbered n (ballot_of n)

abbrev pub vote : Side → Ballot
vote side.Keep = Keep
vote side.Release = Release

abbrev pub proposal : Side → Ballot
proposal side.Keep = ProposeKeep
proposal side.Release = ProposeRelease
