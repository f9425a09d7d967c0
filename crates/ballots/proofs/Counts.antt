-- Counting the ballots of a row.
use Rattle.std.proofs.Common.{◌≡◌, ℕ, zero, suc, ◌+◌, ◌≤◌, Bool, true, false, cond, ◌&&◌, is_some, Some, None, Option, refl, ap, arith}
use Rattle.std.proofs.lemmas.Bool.{eqb-true}
use Rattle.protocol.specs.Counting.{below}
use Rattle.protocol.proofs.Counting.{below_past}
use Rattle.protocol.specs.declared.votes.Ballot.{Ballot}
use Rattle.protocol.specs.declared.votes.Ballot.TheVariants.{Keep, Release, ProposeKeep, ProposeRelease, Open}
use Rattle.protocol.specs.Numbers.{ballot_number, ballot_of}
use Rattle.ballots.specs.Tallies.{is_ballot, counts, part}
use Rattle.ballots.specs.declared.tallies.ByBallot.{ByBallot}

pub ballot_of_lem : (b : Ballot) → ballot_of (ballot_number b) ≡ Some b
ballot_of_lem Keep = refl
ballot_of_lem Release = refl
ballot_of_lem ProposeKeep = refl
ballot_of_lem ProposeRelease = refl
ballot_of_lem Open = refl

pub same_ballot : (b c : Ballot) → ballot_number b ≡ ballot_number c → b ≡ c
same_ballot b c e = let x = ballot_of_lem b in let y = ballot_of_lem c in let z = ap ballot_of e in cc

pub says_some : (b : Ballot) (o : Option Ballot) → is_ballot b o ≡ true → o ≡ Some b
says_some b None e = absurd cc
says_some b (Some c) e = ap Some (same_ballot c b (eqb-true _ _ e))

abbrev pub total : ByBallot ℕ → ℕ
total x = x.keep + x.release + x.propose_keep + x.propose_release + x.«open»

one_of : (o : Option Ballot) → cond (is_ballot Keep o) 1 0 + cond (is_ballot Release o) 1 0 + cond (is_ballot ProposeKeep o) 1 0 + cond (is_ballot ProposeRelease o) 1 0 + cond (is_ballot Open o) 1 0 ≡ cond (is_some o) 1 0
one_of None = refl
one_of (Some Keep) = refl
one_of (Some Release) = refl
one_of (Some ProposeKeep) = refl
one_of (Some ProposeRelease) = refl
one_of (Some Open) = refl

-- each ballot is counted once
pub counts_all : (n : ℕ) (g : ℕ → Option Ballot) → total (counts n g) ≡ below n (λ k. is_some (g k))
unfolding below
counts_all zero g = refl
counts_all (suc n) g = let one = one_of (g n) in omega (arith, counts_all n g)

-- amounts of a count
pub counts_amount : (n : ℕ) (g : ℕ → Option Ballot) (b : Ballot) → part (counts n g) b ≡ below n (λ k. is_ballot b (g k))
counts_amount n g Keep = refl
counts_amount n g Release = refl
counts_amount n g ProposeKeep = refl
counts_amount n g ProposeRelease = refl
counts_amount n g Open = refl

pub says_only : (b : Ballot) (s : Bool) (o : Option Ballot) → is_ballot b (cond s o None) ≡ (s && is_ballot b o)
says_only b true o = refl
says_only b false o = refl

pub counts_past : (m n : ℕ) (g : ℕ → Option Ballot) → n ≤ m → ((k : ℕ) → n ≤ k → g k ≡ None) → counts m g ≡ counts n g
counts_past m n g l none = λ i. record { keep = past Keep i; release = past Release i; propose_keep = past ProposeKeep i; propose_release = past ProposeRelease i; «open» = past Open i }
  where
    past : (b : Ballot) → below m (λ k. is_ballot b (g k)) ≡ below n (λ k. is_ballot b (g k))
    past b = below_past m n (λ k. is_ballot b (g k)) l (λ k h. ap (is_ballot b) (none k h))
