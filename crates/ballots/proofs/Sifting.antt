-- What is left of a body by the test of what is allowed.
use Rattle.std.proofs.Common.{◌≡◌, ℕ, Bool, true, false, cond, Some, None, Option, sym, refl, ap, ◌∙◌, arith}
use Rattle.std.proofs.lemmas.Bool.Decides.{nat_tests}
use Rattle.std.proofs.lemmas.Bool.{both_ways, cond-true}
use Rattle.protocol.specs.Numbers.{ballot_number, ballot_of}
use Rattle.protocol.specs.declared.votes.Ballot.{Ballot}
use Rattle.ballots.specs.Tallies.{is_ballot, part}
use Rattle.ballots.specs.Votes.{passed, sifted}
use Rattle.ballots.specs.declared.tallies.ByBallot.{ByBallot}
use Rattle.ballots.proofs.Counts.{ballot_of_lem, says_some}

-- the number of a ballot
ballot_number_lem : (c : ℕ) (b : Ballot) → ballot_of c ≡ Some b → c ≡ ballot_number b
ballot_number_lem c b e = grind (arith, nat_tests)

module _ (a : ByBallot Bool) where
  pub passed_some : (o : Option Ballot) (b : Ballot) → passed a o ≡ Some b → (o ≡ Some b) × (part a b ≡ true)
  passed_some None b e = absurd cc
  passed_some (Some c) b e = go (part a c) refl e
    where
      go : (p : Bool) → part a c ≡ p → cond p (Some c) None ≡ Some b → (Some c ≡ Some b) × (part a b ≡ true)
      go true x h = let y : c ≡ b = cc in (h, sym (ap (part a) y) ∙ x)
      go false x h = absurd cc

  pub sifted_some : (o : Option ℕ) (b : Ballot) → sifted a o ≡ Some b → (o ≡ Some (ballot_number b)) × (part a b ≡ true)
  sifted_some None b e = absurd cc
  sifted_some (Some c) b e = let x = passed_some (ballot_of c) b e in (ap Some (ballot_number_lem c b x.0), x.1)

  pub some_sifted : (o : Option ℕ) (b : Ballot) → o ≡ Some (ballot_number b) → part a b ≡ true → sifted a o ≡ Some b
  some_sifted o b e x = ap (sifted a) e ∙ ap (passed a) (ballot_of_lem b) ∙ cond-true (part a b) (Some b) None x

  -- what is not allowed does not pass
  pub not_sifted : (o : Option ℕ) (b : Ballot) → part a b ≡ false → is_ballot b (sifted a o) ≡ false
  not_sifted o b x = go (is_ballot b (sifted a o)) refl
    where
      go : (p : Bool) → is_ballot b (sifted a o) ≡ p → p ≡ false
      go false e = refl
      go true e = absurd (both_ways _ x (sifted_some o b (says_some b _ e)).1)
