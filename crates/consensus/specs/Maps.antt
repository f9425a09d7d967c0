-- The maps that correct processes have of one case are parts of one map. Rounds count from 0 here.
use Rattle.std.specs.Prelude.{◌≡◌, ℕ, suc, ◌<◌, Bool, Some}
use Rattle.protocol.specs.declared.votes.Side.{Side}
use Rattle.protocol.specs.Numbers.{ballot_number, vote}
use Rattle.protocol.specs.declared.votes.Kind.TheVariants.{First, Third}
use Rattle.protocol.specs.Phases.{kind}
use Rattle.consensus.specs.Rounds.{BallotMap, tally, Forces, DecidesFor}
use Rattle.protocol.specs.Faults.{CorrectOf}
use Rattle.consensus.specs.Validity.{Quorum, Justified, Part, Resilient}
use Rattle.consensus.specs.Decisions.{Tossed, CanAdvance}

-- correct processes have accepted alike: own i is the map of process i
abbrev pub AcceptedAlike : ℕ → (ℕ → Bool) → (ℕ → BallotMap) → Type 0
AcceptedAlike n faulty own = (i j o r b c : ℕ) → CorrectOf n faulty i → CorrectOf n faulty j → own i o r ≡ Some b → own j o r ≡ Some c → b ≡ c

-- G has what some correct process has, and nothing else
pub record Joins (n : ℕ) (faulty : ℕ → Bool) (own : ℕ → BallotMap) (G : BallotMap) : Type 0 where
  pub part : (i : ℕ) → CorrectOf n faulty i → Part (own i) G
  pub from : (o r b : ℕ) → G o r ≡ Some b → (i : ℕ) × CorrectOf n faulty i × (own i o r ≡ Some b)

-- maps that agree wherever they overlap are parts of one
abbrev pub Joining : Type 0
Joining = (n : ℕ) (faulty : ℕ → Bool) (own : ℕ → BallotMap) → AcceptedAlike n faulty own → (G : BallotMap) × Joins n faulty own G

-- process i decides v by the set S of the third round r
pub record DecidesBy (n t : ℕ) (own : ℕ → BallotMap) (i r : ℕ) (S : ℕ → Bool) (v : Side) : Type 0 where
  pub third : kind r ≡ Third
  pub quorum : Quorum n t (own i) r S
  pub decides : DecidesFor t (tally n (own i) r S) v

-- in round r, correct processes have accepted of correct processes votes for v only
abbrev pub Votes : ℕ → (ℕ → Bool) → (ℕ → BallotMap) → ℕ → Side → Type 0
Votes n faulty own r v = (i o b : ℕ) → CorrectOf n faulty i → CorrectOf n faulty o → own i o r ≡ Some b → b ≡ ballot_number (vote v)

-- Each correct process o left the third round r by the set used o: its next ballot is the side that
-- the set forces, or else c, and no such set forces another side than c.
pub record Lucky (n t : ℕ) (faulty : ℕ → Bool) (own : ℕ → BallotMap) (r : ℕ) (used : ℕ → ℕ → Bool) (c : Side) : Type 0 where
  pub said : (i o b : ℕ) → CorrectOf n faulty i → CorrectOf n faulty o → own i o (suc r) ≡ Some b → Tossed t (tally n (own o) r (used o)) c b
  pub forced : (o : ℕ) (v : Side) → CorrectOf n faulty o → Forces t (tally n (own o) r (used o)) v → v ≡ c

-- What correct processes decide by their own maps.
pub record OwnDecisions (n t : ℕ) (faulty : ℕ → Bool) (own : ℕ → BallotMap) : Type 0 where
  -- In any two phases they decide one side, and in one phase their sets force one side.
  pub agreement : (i j q r : ℕ) (S T : ℕ → Bool) (u v : Side) → CorrectOf n faulty i → CorrectOf n faulty j → DecidesBy n t own i q S u → DecidesBy n t own j r T v → u ≡ v
  pub forced : (i j r : ℕ) (S T : ℕ → Bool) (u v : Side) → CorrectOf n faulty i → CorrectOf n faulty j → Quorum n t (own i) r S → Quorum n t (own j) r T → Forces t (tally n (own i) r S) u → Forces t (tally n (own j) r T) v → u ≡ v
  -- After a unanimous first round r they decide its side and no other.
  pub validity : (r q i : ℕ) (S : ℕ → Bool) (u v : Side) → kind r ≡ First → Votes n faulty own r v → r < q → CorrectOf n faulty i → DecidesBy n t own i q S u → u ≡ v
  pub unanimity : (r q i : ℕ) (S : ℕ → Bool) (v : Side) → kind r ≡ First → Votes n faulty own r v → r < q → CorrectOf n faulty i → kind q ≡ Third → Quorum n t (own i) q S → DecidesBy n t own i q S v
  -- After a lucky coin they decide its side from the next phase on.
  pub luck : (r q i : ℕ) (S : ℕ → Bool) (c : Side) (used : ℕ → ℕ → Bool) → kind r ≡ Third → Lucky n t faulty own r used c → suc r < q → CorrectOf n faulty i → kind q ≡ Third → Quorum n t (own i) q S → DecidesBy n t own i q S c

-- for all maps that correct processes have accepted alike
abbrev pub Deciding : Type 0
Deciding = (n t : ℕ) (faulty : ℕ → Bool) (own : ℕ → BallotMap) → Resilient n t faulty → AcceptedAlike n faulty own → OwnDecisions n t faulty own

-- Where process i has all that correct processes accepted, and of each a ballot of round r that
-- this one may say, it can advance from round r.
abbrev pub Going : Type 0
Going = (n t : ℕ) (faulty : ℕ → Bool) (own : ℕ → BallotMap) → Resilient n t faulty → (i r : ℕ) → ((k : ℕ) → CorrectOf n faulty k → Part (own k) (own i)) → ((k : ℕ) → CorrectOf n faulty k → (b : ℕ) × Justified n t (own k) r b × (own i k r ≡ Some b)) → (S : ℕ → Bool) × CanAdvance n t (own i) r S
