-- The sets of a round and what can be drawn from its counts.
use Rattle.std.proofs.Common.{◌≡◌, ℕ, ◌<◌, ◌≤◌, Bool, true, false, cond, ◌&&◌, eqb, ltb, is_some, Some, None, Option, sym, refl, ap, ◌∙◌, subst, arith}
use Rattle.std.proofs.lemmas.Bool.{eqb-true, and_parts}
use Rattle.std.proofs.Math.Bool.{and_comm}
use Rattle.protocol.specs.Heard.{has}
use Rattle.protocol.specs.Counting.{below}
use Rattle.protocol.specs.Numbers.{ballot_number}
use Rattle.protocol.specs.declared.votes.Ballot.{Ballot}
use Rattle.protocol.specs.declared.votes.Ballot.TheVariants.{Keep, Release, ProposeKeep, ProposeRelease, Open}
use Rattle.protocol.proofs.Counting.{below_alike, below_monotone}
use Rattle.protocol.specs.Phases.{kind}
use Rattle.consensus.specs.Rounds.{BallotMap, tally, Allows}
use Rattle.consensus.specs.Validity.{Valid, Quorum, lowest}
use Rattle.consensus.proofs.Advancing.{lowest_size}
use Rattle.consensus.proofs.Tallies.{held}
use Rattle.ballots.specs.Tallies.{is_ballot, counts, part, among}
use Rattle.ballots.specs.Votes.{Exactly}
use Rattle.ballots.specs.declared.tallies.ByBallot.{ByBallot}
use Rattle.ballots.proofs.Counts.{total, counts_all, counts_amount, same_ballot, says_only}
use Rattle.ballots.proofs.Draws.{Draw}

-- the first ones of each ballot, as many as x says
first_by : ByBallot ℕ → (ℕ → Option Ballot) → ℕ → Option Ballot → Bool
first_by x g k None = false
first_by x g k (Some b) = ltb (below k (λ j. is_ballot b (g j))) (part x b)

first_of : ByBallot ℕ → (ℕ → Option Ballot) → ℕ → Bool
first_of x g k = first_by x g k (g k)

first_says : (x : ByBallot ℕ) (g : ℕ → Option Ballot) (k : ℕ) (o : Option Ballot) (b : Ballot) → (first_by x g k o && is_ballot b o) ≡ (is_ballot b o && ltb (below k (λ j. is_ballot b (g j))) (part x b))
unfolding first_by
first_says x g k None b = refl
first_says x g k (Some c) b = and_comm _ (eqb (ballot_number c) (ballot_number b)) ∙ go (eqb (ballot_number c) (ballot_number b)) refl
  where
    go : (e : Bool) → eqb (ballot_number c) (ballot_number b) ≡ e → (e && ltb (below k (λ j. is_ballot c (g j))) (part x c)) ≡ (e && ltb (below k (λ j. is_ballot b (g j))) (part x b))
    go false h = refl
    go true h = ap (λ (d : Ballot). ltb (below k (λ j. is_ballot d (g j))) (part x d)) (same_ballot c b (eqb-true _ _ h))

first_some : (x : ByBallot ℕ) (g : ℕ → Option Ballot) (k : ℕ) (o : Option Ballot) → first_by x g k o ≡ true → (b : Ballot) × (o ≡ Some b)
unfolding first_by
first_some x g k None e = absurd cc
first_some x g k (Some b) e = (b, refl)

some_only : (s : Bool) (o : Option Ballot) → (s ≡ true → (b : Ballot) × (o ≡ Some b)) → is_some (cond s o None) ≡ s
some_only false o h = refl
some_only true o h = ap is_some (h refl).1

module _ (n t : ℕ) (G : BallotMap) (r : ℕ) (g : ℕ → Option Ballot) (exact : (k : ℕ) → Exactly (Valid n t G r k) (g k)) where
  -- what a set of the round has, by the accepted bodies and by the valid ballots
  said_alike : (S : ℕ → Bool) → ((k : ℕ) → k < n → S k ≡ true → (b : Ballot) × (g k ≡ Some b)) → (b : Ballot) → below n (λ k. is_ballot b (among S g k)) ≡ tally n G r S b
  unfolding tally
  said_alike S HasOne b = below_alike n _ _ (λ k l. go k l (S k) refl)
    where
      valid : (k : ℕ) (c : Ballot) → g k ≡ Some c → G k r ≡ Some (ballot_number c)
      valid k c e = held n t G r k (ballot_number c) ((exact k).sound c e)

      go : (k : ℕ) → k < n → (s : Bool) → S k ≡ s → is_ballot b (cond s (g k) None) ≡ (s && has (G k r) (ballot_number b))
      go k l false e = refl
      go k l true e =
          let m = HasOne k l e in
          ap (is_ballot b) m.1 ∙ sym (ap (λ o. has o (ballot_number b)) (valid k m.0 m.1))

  pub amount_alike : (S : ℕ → Bool) → ((k : ℕ) → k < n → S k ≡ true → (b : Ballot) × (g k ≡ Some b)) → part (counts n (among S g)) ≡ tally n G r S
  amount_alike S HasOne = λ i b. (counts_amount n (among S g) b ∙ said_alike S HasOne b) i

  size_alike : (S : ℕ → Bool) → ((k : ℕ) → k < n → S k ≡ true → (b : Ballot) × (g k ≡ Some b)) → total (counts n (among S g)) ≡ below n S
  size_alike S HasOne = counts_all n (among S g) ∙ below_alike n _ _ (λ k l. some_only (S k) (g k) (HasOne k l))

  pub quorum_some : (S : ℕ → Bool) → Quorum n t G r S → (k : ℕ) → k < n → S k ≡ true → (b : Ballot) × (g k ≡ Some b)
  quorum_some S full k l e = let m = full.member k l e in let c = (exact k).full m.0 m.1 in (c.0, c.2)

  pub to_draw : (S : ℕ → Bool) (b : ℕ) → Quorum n t G r S → Allows n t (kind r) (tally n G r S) b → Draw n t (kind r) (counts n g) b
  to_draw S b full allows =
      let some = quorum_some S full in
      record {
        of = counts n (among S g);
        within = fewer;
        size = size_alike S some ∙ full.size;
        allows = subst (λ (count : Ballot → ℕ). Allows n t (kind r) count b) (sym (amount_alike S some)) allows;
      }
    where
      fewer : (d : Ballot) → part (counts n (among S g)) d ≤ part (counts n g) d
      fewer d =
          let a = counts_amount n (among S g) d in
          let c = counts_amount n g d in
          let e : below n (λ k. is_ballot d (among S g k)) ≡ below n (λ k. S k && is_ballot d (g k)) = below_alike n _ _ (λ k l. says_only d (S k) (g k)) in
          omega (arith, below_monotone n (λ k. S k && is_ballot d (g k)) (λ k. is_ballot d (g k)) (λ k l x. (and_parts (S k) _ x).1))

  pub from_draw : (b : ℕ) → Draw n t (kind r) (counts n g) b → (S : ℕ → Bool) × Quorum n t G r S × Allows n t (kind r) (tally n G r S) b
  unfolding first_of lowest
  from_draw b d = (S, record { size = sym (size_alike S some) ∙ ap total same ∙ d.size; member = member }, subst (λ (count : Ballot → ℕ). Allows n t (kind r) count b) (sym (ap part same) ∙ amount_alike S some) d.allows)
    where
      S : ℕ → Bool
      S = first_of d.of g

      some : (k : ℕ) → k < n → S k ≡ true → (c : Ballot) × (g k ≡ Some c)
      some k l e = first_some d.of g k (g k) e

      member : (k : ℕ) → k < n → S k ≡ true → (c : ℕ) × Valid n t G r k c
      member k l e = let m = some k l e in (ballot_number m.0, (exact k).sound m.0 m.1)

      each : (c : Ballot) → below n (λ k. is_ballot c (among S g k)) ≡ part d.of c
      each c =
          let w = d.within c in
          let a = counts_amount n g c in
          let e : below n (λ k. is_ballot c (among S g k)) ≡ below n (lowest (part d.of c) (λ k. is_ballot c (g k))) = below_alike n _ _ (λ k l. says_only c (S k) (g k) ∙ first_says d.of g k (g k) c) in
          e ∙ lowest_size n (part d.of c) (λ k. is_ballot c (g k)) ∙ omega arith

      same : counts n (among S g) ≡ d.of
      same = λ i. record {
        keep = each Keep i;
        release = each Release i;
        propose_keep = each ProposeKeep i;
        propose_release = each ProposeRelease i;
        «open» = each Open i;
      }
