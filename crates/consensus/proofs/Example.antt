-- Four processes, one of them silent, that decide a side in their first phase.
use Rattle.std.proofs.Common.{◌≡◌, ℕ, suc, ◌<◌, Bool, true, false, cond, eqb, ltb, Some, None, Option, refl, ap, inl, arith}
use Rattle.std.proofs.lemmas.Bool.{ltb-true, ne_eqb}
use Rattle.protocol.specs.declared.votes.Side.{Side}
use Rattle.protocol.specs.declared.votes.Side.TheVariants.{Keep, Release}
use Rattle.protocol.specs.Counting.{below}
use Rattle.protocol.specs.Numbers.{ballot_number}
use Rattle.agreement.proofs.Bodies.{some_once}
use Rattle.protocol.specs.Phases.{kind}
use Rattle.consensus.specs.Rounds.{BallotMap, tally, Allows, DecidesFor, ballot_for}
use Rattle.consensus.specs.Validity.{Valid, Quorum}
use Rattle.consensus.specs.Decisions.{DecisionHappens}
use Rattle.consensus.proofs.Tallies.{held}

module _ (v : Side) where
  abbrev body : ℕ → ℕ
  body r = ballot_number (ballot_for (kind r) v)

  abbrev pub ballots : BallotMap
  ballots o r = cond (eqb o 3) None (Some (body r))

abbrev pub three : ℕ → Bool
three k = ltb k 3

module _ (v : Side) where
  cast : (k r : ℕ) → eqb k 3 ≡ false → ballots v k r ≡ Some (body v r)
  cast k r e = ap (λ (z : Bool). cond {A = Option ℕ} z None (Some (body v r))) e

  spoken : (k r : ℕ) → three k ≡ true → ballots v k r ≡ Some (body v r)
  spoken k r e = let l : k < 3 = ltb-true k 3 e in cast k r (ne_eqb k 3 (λ z. omega arith))

  module _ (r : ℕ) (valid : (k : ℕ) → three k ≡ true → Valid 4 1 (ballots v) r k (body v r)) where
    quorum : Quorum 4 1 (ballots v) r three
    unfolding below
    quorum = record { size = refl; member = λ k l e. (body v r, valid k e) }

    next : Allows 4 1 (kind r) (tally 4 (ballots v) r three) (body v (suc r)) → (k : ℕ) → three k ≡ true → Valid 4 1 (ballots v) (suc r) k (body v (suc r))
    unfolding Valid
    next allows k e = (spoken k (suc r) e, (three, quorum, allows))

first_allows : (v : Side) → Allows 4 1 (kind 0) (tally 4 (ballots v) 0 three) (body v 1)
unfolding tally below
first_allows Keep = refl
first_allows Release = refl

second_allows : (v : Side) → Allows 4 1 (kind 1) (tally 4 (ballots v) 1 three) (body v 2)
unfolding tally below
second_allows Keep = inl (Keep, omega arith, refl)
second_allows Release = inl (Release, omega arith, refl)

third_decides : (v : Side) → DecidesFor 1 (tally 4 (ballots v) 2 three) v
unfolding tally below
third_decides Keep = omega arith
third_decides Release = omega arith

opened : (v : Side) (k : ℕ) → three k ≡ true → Valid 4 1 (ballots v) 0 k (body v 0)
unfolding Valid
opened v k e = (spoken v k 0 e, (v, refl))

pub happens : (v : Side) → DecisionHappens v (ballots v) three
unfolding below
happens v = record {
  resilient = record { few = omega arith; third = omega arith };
  unanimous = λ o b co x. some_once _ _ _ (held 4 1 (ballots v) 0 o b x) (cast v o 0 co.1);
  quorum = quorum v 2 (next v 1 (next v 0 (opened v) (first_allows v)) (second_allows v));
  decides = third_decides v;
}
