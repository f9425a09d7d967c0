-- Counting finds the valid ballots.
use Rattle.std.proofs.Common.{◌≡◌, ℕ, zero, suc, Bool, true, false, Some, sym, refl, ap, ◌∙◌, subst}
use Rattle.protocol.specs.Counting.{below}
use Rattle.protocol.specs.Numbers.{ballot_number, vote}
use Rattle.protocol.proofs.Counting.{below_zero}
use Rattle.protocol.specs.declared.votes.Side.{Side}
use Rattle.protocol.specs.declared.votes.Side.TheVariants as side
use Rattle.protocol.specs.declared.votes.Ballot.{Ballot}
use Rattle.protocol.specs.declared.votes.Ballot.TheVariants.{Keep, Release, ProposeKeep, ProposeRelease, Open}
use Rattle.protocol.specs.declared.votes.Kind.{Kind}
use Rattle.protocol.specs.declared.votes.Kind.TheVariants.{First, Second, Third}
use Rattle.protocol.specs.Phases.{kind}
use Rattle.consensus.specs.Rounds.{BallotMap}
use Rattle.consensus.specs.Validity.{Valid}
use Rattle.consensus.proofs.Sides.{kind_after}
use Rattle.consensus.proofs.Sides as sides
use Rattle.ballots.specs.Tallies.{is_ballot, counts, part}
use Rattle.ballots.specs.Votes.{allowed_after, beginning, sifted, valid_by_counting, Exactly}
use Rattle.ballots.specs.declared.tallies.ByBallot.{ByBallot}
use Rattle.ballots.proofs.Draws.{OfKind, drawn, taken}
use Rattle.ballots.proofs.Sets.{to_draw, from_draw}
use Rattle.ballots.proofs.Sifting.{sifted_some, some_sifted, not_sifted}

-- the votes are the ballots that a case may begin with
begins : (b : Ballot) → part beginning b ≡ true → (v : Side) × (ballot_number b ≡ ballot_number (vote v))
begins Keep e = (side.Keep, refl)
begins Release e = (side.Release, refl)
begins ProposeKeep e = absurd cc
begins ProposeRelease e = absurd cc
begins Open e = absurd cc

vote_begins : (v : Side) → part beginning (vote v) ≡ true
vote_begins side.Keep = refl
vote_begins side.Release = refl

module _ (n t : ℕ) (G : BallotMap) where
  none_counted : (a : ByBallot Bool) (r : ℕ) (b : Ballot) → part a b ≡ false → below n (λ k. is_ballot b (sifted a (G k r))) ≡ 0
  none_counted a r b e = below_zero n _ (λ k l. not_sifted a (G k r) b e)

  of_kind : (r : ℕ) → OfKind (kind r) (counts n (valid_by_counting n t G r))
  unfolding valid_by_counting allowed_after
  of_kind zero = (none_counted beginning zero ProposeKeep refl, none_counted beginning zero ProposeRelease refl, none_counted beginning zero Open refl)
  of_kind (suc r) = subst (λ (q : Kind). OfKind q (counts n (valid_by_counting n t G (suc r)))) (sym (kind_after r)) (go (kind r) refl)
    where
      none : (q : Kind) (b : Ballot) → kind r ≡ q → part (allowed_after n t q (counts n (valid_by_counting n t G r))) b ≡ false → below n (λ k. is_ballot b (valid_by_counting n t G (suc r) k)) ≡ 0
      none q b e f = none_counted (allowed_after n t (kind r) (counts n (valid_by_counting n t G r))) (suc r) b (ap (λ (p : Kind). part (allowed_after n t p (counts n (valid_by_counting n t G r))) b) e ∙ f)

      go : (q : Kind) → kind r ≡ q → OfKind (sides.after q) (counts n (valid_by_counting n t G (suc r)))
      go First e = (none First ProposeKeep e refl, none First ProposeRelease e refl, none First Open e refl)
      go Second e = (none Second Keep e refl, none Second Release e refl)
      go Third e = (none Third ProposeKeep e refl, none Third ProposeRelease e refl, none Third Open e refl)

  pub exact : (r k : ℕ) → Exactly (Valid n t G r k) (valid_by_counting n t G r k)
  unfolding valid_by_counting Valid
  exact zero k = record {
    sound = λ b e. let x = sifted_some beginning (G k zero) b e in (x.0, begins b x.1);
    full = λ b v. (vote v.1.0, v.1.1, some_sifted beginning (G k zero) (vote v.1.0) (v.0 ∙ ap Some v.1.1) (vote_begins v.1.0));
  }
  exact (suc r) k = record {
    sound = λ b e.
        let a = allowed_after n t (kind r) (counts n (valid_by_counting n t G r)) in
        let x = sifted_some a (G k (suc r)) b e in
        (x.0, from_draw n t G r (valid_by_counting n t G r) (exact r) (ballot_number b) (drawn n t (kind r) _ b x.1));
    full = λ b v.
        let d = taken n t (kind r) _ b (of_kind r) (to_draw n t G r (valid_by_counting n t G r) (exact r) v.1.0 b v.1.1 v.1.2) in
        (d.is, d.number, some_sifted (allowed_after n t (kind r) (counts n (valid_by_counting n t G r))) (G k (suc r)) d.is (v.0 ∙ ap Some d.number) d.allowed);
  }
