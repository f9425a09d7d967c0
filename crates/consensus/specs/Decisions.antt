-- What holds of valid ballots and of decisions. Rounds count from 0 here.
use Rattle.std.specs.Prelude.{◌≡◌, ℕ, suc, ◌-◌, ◌*◌, ◌<◌, ◌≤◌, Bool, true, ◌⊎◌, Some, nat_eq}
use Rattle.protocol.specs.declared.votes.Side.{Side}
use Rattle.protocol.specs.declared.votes.Ballot.{Ballot}
use Rattle.protocol.specs.Counting.{below}
use Rattle.protocol.specs.Numbers.{ballot_number, vote, proposal}
use Rattle.protocol.specs.declared.votes.Kind.TheVariants.{First, Third}
use Rattle.protocol.specs.Phases.{kind}
use Rattle.consensus.specs.Rounds.{BallotMap, tally, Forces, DecidesFor, Allows, ballot_for}
use Rattle.protocol.specs.Faults.{CorrectOf}
use Rattle.consensus.specs.Validity.{Valid, Quorum, Justified, lowest, Part, Resilient}

-- What is valid in a part is valid in the whole, and a set says there what it says here.
pub record Grown (n t : ℕ) (A G : BallotMap) (r : ℕ) : Type 0 where
  pub ballots : (o b : ℕ) → Valid n t A r o b → Valid n t G r o b
  pub quorums : (S : ℕ → Bool) → Quorum n t A r S → Quorum n t G r S
  pub tallies : (S : ℕ → Bool) → Quorum n t A r S → (b : Ballot) → tally n A r S b ≡ tally n G r S b
  -- what may be said by the part is valid in the whole, once it is accepted there
  pub justified : (o b : ℕ) → Justified n t A r b → G o r ≡ Some b → Valid n t G r o b

-- for all maps of which one is a part of the other
abbrev pub Monotone : Type 0
Monotone = (n t : ℕ) (A G : BallotMap) → Part A G → (r : ℕ) → Grown n t A G r

-- The valid proposals of a round are of one side, and so is what its sets force.
pub record OneSide (n t : ℕ) (G : BallotMap) (r : ℕ) : Type 0 where
  pub proposals : (i j : ℕ) (u v : Side) → Valid n t G r i (ballot_number (proposal u)) → Valid n t G r j (ballot_number (proposal v)) → u ≡ v
  pub forced : (S T : ℕ → Bool) (u v : Side) → Quorum n t G r S → Quorum n t G r T → Forces t (tally n G r S) u → Forces t (tally n G r T) v → u ≡ v

-- in every round of every map
abbrev pub Proposals : Type 0
Proposals = (n t : ℕ) (G : BallotMap) (r : ℕ) → OneSide n t G r

-- Once one set of a third round decides v, every set of the round forces v, and the next round has
-- no other side.
pub record Locked (n t : ℕ) (G : BallotMap) (r : ℕ) (v : Side) : Type 0 where
  pub forced : (S : ℕ → Bool) → Quorum n t G r S → Forces t (tally n G r S) v
  pub next : (o b : ℕ) → Valid n t G (suc r) o b → b ≡ ballot_number (vote v)

-- for every set of a third round
abbrev pub Locking : Type 0
Locking = (n t : ℕ) (G : BallotMap) (r : ℕ) → kind r ≡ Third → (S : ℕ → Bool) (v : Side) → Quorum n t G r S → DecidesFor t (tally n G r S) v → Locked n t G r v

-- Every valid ballot of round r speaks for v, and if it is a third round, every set forces and
-- decides v, and no other.
pub record Settled (n t : ℕ) (G : BallotMap) (r : ℕ) (v : Side) : Type 0 where
  pub ballots : (o b : ℕ) → Valid n t G r o b → b ≡ ballot_number (ballot_for (kind r) v)
  pub forced : kind r ≡ Third → (S : ℕ → Bool) → Quorum n t G r S → Forces t (tally n G r S) v
  pub decided : kind r ≡ Third → (S : ℕ → Bool) → Quorum n t G r S → DecidesFor t (tally n G r S) v
  pub alone : kind r ≡ Third → (S : ℕ → Bool) (u : Side) → Quorum n t G r S → DecidesFor t (tally n G r S) u → u ≡ v

-- correct processes have valid ballots of round r for v only; nothing is asked of the faulty ones
abbrev pub Unanimous : ℕ → ℕ → (ℕ → Bool) → BallotMap → ℕ → Side → Type 0
Unanimous n t faulty G r v = (o b : ℕ) → CorrectOf n faulty o → Valid n t G r o b → b ≡ ballot_number (vote v)

-- A first round in which correct processes are unanimous settles all later rounds.
abbrev pub Settling : Type 0
Settling = (n t : ℕ) (faulty : ℕ → Bool) → Resilient n t faulty → (G : BallotMap) (r : ℕ) (v : Side) → kind r ≡ First → Unanimous n t faulty G r v → (q : ℕ) → r < q → Settled n t G q v

-- So unanimous first ballots of correct processes are what any set of a part of G decides.
abbrev pub UnanimityDecides : Type 0
UnanimityDecides = (n t : ℕ) (faulty : ℕ → Bool) → Resilient n t faulty → (G A : BallotMap) → Part A G → (v : Side) → Unanimous n t faulty G 0 v → (r : ℕ) → kind r ≡ Third → (S : ℕ → Bool) (u : Side) → Quorum n t A r S → DecidesFor t (tally n A r S) u → u ≡ v

-- Sets of any two third rounds, each of valid ballots in a part of G, decide one side.
abbrev pub DecisionsAgree : Type 0
DecisionsAgree = (n t : ℕ) → 3 * t < n → (G A B : BallotMap) → Part A G → Part B G → (q r : ℕ) → kind q ≡ Third → kind r ≡ Third → (S T : ℕ → Bool) (u v : Side) → Quorum n t A q S → Quorum n t B r T → DecidesFor t (tally n A q S) u → DecidesFor t (tally n B r T) v → u ≡ v

-- What a process says after a third round, by the counts of the set that it went by: the side that
-- the set forces, and if it forces none, the coin's side c.
abbrev pub Tossed : ℕ → (Ballot → ℕ) → Side → ℕ → Type 0
Tossed t count c b =
    ((v : Side) × Forces t count v × (b ≡ ballot_number (vote v))) ⊎ (((v : Side) → count (proposal v) ≤ t) × (b ≡ ballot_number (vote c)))

-- If the sets that correct processes went by force no side but the coin's, all later rounds are
-- settled.
abbrev pub LuckSettles : Type 0
LuckSettles = (n t : ℕ) (faulty : ℕ → Bool) → Resilient n t faulty → (G : BallotMap) (r : ℕ) (c : Side) (counts : ℕ → Ballot → ℕ) → kind r ≡ Third → ((o b : ℕ) → CorrectOf n faulty o → Valid n t G (suc r) o b → Tossed t (counts o) c b) → ((o : ℕ) (v : Side) → CorrectOf n faulty o → Forces t (counts o) v → v ≡ c) → (q : ℕ) → suc r < q → Settled n t G q c

-- S is a full set and allows some ballot
pub record CanAdvance (n t : ℕ) (A : BallotMap) (r : ℕ) (S : ℕ → Bool) : Type 0 where
  pub quorum : Quorum n t A r S
  pub next : (b : ℕ) × Allows n t (kind r) (tally n A r S) b

-- A process advances by the n - t lowest that p finds valid ballots of.
abbrev pub Lowest : Type 0
Lowest = (n t : ℕ) (A : BallotMap) (r : ℕ) (p : ℕ → Bool) → ((k : ℕ) → k < n → p k ≡ true → (b : ℕ) × Valid n t A r k b) → n - t ≤ below n p → CanAdvance n t A r (lowest (n - t) p)

-- The valid ballots of correct processes are enough.
abbrev pub Enough : Type 0
Enough = (n t : ℕ) (faulty : ℕ → Bool) → Resilient n t faulty → (A : BallotMap) (r : ℕ) → ((k : ℕ) → CorrectOf n faulty k → (b : ℕ) × Valid n t A r k b) → (S : ℕ → Bool) × CanAdvance n t A r S

-- four processes, of which the last is faulty and silent, and a set of their third round that
-- decides v
pub record DecisionHappens (v : Side) (G : BallotMap) (S : ℕ → Bool) : Type 0 where
  pub resilient : Resilient 4 1 (λ k. nat_eq k 3)
  pub unanimous : Unanimous 4 1 (λ k. nat_eq k 3) G 0 v
  pub quorum : Quorum 4 1 G 2 S
  pub decides : DecidesFor 1 (tally 4 G 2 S) v
