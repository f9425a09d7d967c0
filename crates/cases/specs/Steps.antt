-- How a process goes on in a case. The round of a set counts from 0, the round that a process is
-- in from 1.
use Rattle.std.specs.Prelude.{◌≡◌, ℕ, ◌-◌, ◌*◌, ◌<◌, ◌≤◌, ◌↔◌, Bool, true, false, cond, ◌&&◌, is_some, Some, None, Option, nat_le, nat_lt}
use Rattle.protocol.specs.Counting.{below}
use Rattle.protocol.specs.Numbers.{ballot_number, vote, proposal}
use Rattle.protocol.specs.declared.votes.Side.{Side}
use Rattle.protocol.specs.declared.votes.Side.TheVariants as side
use Rattle.protocol.specs.declared.votes.Ballot.{Ballot}
use Rattle.protocol.specs.declared.votes.Ballot.TheVariants.{Open}
use Rattle.plan.specs.declared.plans.Plan.{Plan}
use Rattle.plan.specs.Plans.{quorum, rounds}
use Rattle.memory.specs.Contents.{Held, case_at}
use Rattle.memory.specs.Places.{case_place}
use Rattle.protocol.specs.declared.votes.Kind.{Kind}
use Rattle.protocol.specs.declared.votes.Kind.TheVariants.{First, Second, Third}
use Rattle.protocol.specs.Phases.{kind}
use Rattle.consensus.specs.Rounds.{BallotMap, tally, Forces, DecidesFor, ahead, Allows}
use Rattle.consensus.specs.Validity.{Valid, Quorum, lowest}
use Rattle.ballots.specs.Places.{ballots_at, covers, valid_at}
use Rattle.cases.specs.declared.steps.Progress.{Progress}

-- the side whose number is above a bound, keep if both are
abbrev pub over : ℕ → ℕ → ℕ → Option Side
over bound keep release = cond (nat_lt bound keep) (Some side.Keep) (cond (nat_lt bound release) (Some side.Release) None)

-- the side with more proposals than a bound, keep if both have
abbrev pub side_above : ℕ → (Ballot → ℕ) → Option Side
side_above bound count = over bound (count (proposal side.Keep)) (count (proposal side.Release))

-- more than t proposals force a side
abbrev pub forced_side : ℕ → (Ballot → ℕ) → Option Side
forced_side t count = side_above t count

-- and more than 2t decide it
abbrev pub decided_side : ℕ → (Ballot → ℕ) → Option Side
decided_side t count = side_above (2 * t) count

-- a proposal of the side that more than half of all n voted for, open if neither has so many votes
abbrev pub proposed : ℕ → (Ballot → ℕ) → Ballot
proposed n count =
    cond (nat_lt n (2 * count (vote side.Keep))) (proposal side.Keep) (cond (nat_lt n (2 * count (vote side.Release))) (proposal side.Release) Open)

-- the vote for a side
abbrev pub voted : Option Side → Option Ballot
voted None = None
voted (Some v) = Some (vote v)

-- saying a ballot, and forcing and deciding nothing
abbrev pub saying : Ballot → Progress
saying b = record { next = Some b; forced = None; decides = None }

-- what follows on a third round: the coin is tossed where no side is forced
abbrev pub third_step : ℕ → (Ballot → ℕ) → Progress
third_step t count = record { next = voted (forced_side t count); forced = forced_side t count; decides = decided_side t count }

-- what follows on a set of a round, by its counts
unfoldable pub step_by : ℕ → ℕ → Kind → (Ballot → ℕ) → Progress
step_by n t First count = saying (vote (ahead count))
step_by n t Second count = saying (proposed n count)
step_by n t Third count = third_step t count

-- whether there is a ballot
abbrev pub stands : (ℕ → Option Ballot) → ℕ → Bool
stands g k = is_some (g k)

module _ (plan : Plan) (h : Held) (i c : ℕ) where
  -- the round that process i is in
  abbrev pub round_at : ℕ
  round_at = (case_at h (case_place plan i c)).round

  -- whether k has a valid ballot in it
  abbrev pub voters : ℕ → Bool
  voters = stands (valid_at plan h i c round_at)

  abbrev pub may_advance : Bool
  may_advance = covers plan h i c round_at && nat_le (quorum plan) (below plan.n voters)

  -- the set that it goes by, and how many that set has of each ballot
  abbrev pub chosen : ℕ → Bool
  chosen = lowest (quorum plan) voters

  abbrev pub chosen_counts : Ballot → ℕ
  chosen_counts = tally plan.n (ballots_at plan h i c) (round_at - 1) chosen

  abbrev pub step_at : Option Progress
  step_at = cond may_advance (Some (step_by plan.n plan.t (kind (round_at - 1)) chosen_counts)) None

-- S is a full set of valid ballots of round q in G, and a process that goes by it goes on by s
pub record Says (n t : ℕ) (G : BallotMap) (q : ℕ) (S : ℕ → Bool) (s : Progress) : Type 0 where
  pub quorum : Quorum n t G q S
  -- what is said next is a ballot that S allows
  pub next : (b : Ballot) → s.next ≡ Some b → Allows n t (kind q) (tally n G q S) (ballot_number b)
  -- where the coin is tossed, either side may be said
  pub tossed : s.next ≡ None → (kind q ≡ Third) × ((v : Side) → tally n G q S (proposal v) ≤ t) × ((v : Side) → Allows n t (kind q) (tally n G q S) (ballot_number (vote v)))
  -- a side is forced exactly where S forces it in a third round, and is then said next
  pub forced : (v : Side) → (s.forced ≡ Some v) ↔ ((kind q ≡ Third) × Forces t (tally n G q S) v)
  pub forced_next : (v : Side) → s.forced ≡ Some v → s.next ≡ Some (vote v)
  -- in a third round that forces none, the coin is tossed
  pub unforced : kind q ≡ Third → s.forced ≡ None → s.next ≡ None
  -- a side is decided exactly where S decides it in a third round
  pub decides : (v : Side) → (s.decides ≡ Some v) ↔ ((kind q ≡ Third) × DecidesFor t (tally n G q S) v)

-- S is of the lowest that have a valid ballot of round q in G: who has one and is not in S is above
-- all in S
abbrev pub OfLowest : ℕ → ℕ → BallotMap → ℕ → (ℕ → Bool) → Type 0
OfLowest n t G q S = (j k b : ℕ) → S j ≡ true → S k ≡ false → Valid n t G q k b → j < k

-- The rule of an advance: process i leaves its round of case c by the set S, and goes on by what S
-- says, which is s.
pub record GoesBy (plan : Plan) (h : Held) (i c : ℕ) (S : ℕ → Bool) (s : Progress) : Type 0 where
  -- the case is opened and has not ended
  pub opened : 1 ≤ round_at plan h i c
  pub unended : round_at plan h i c ≤ rounds plan
  pub lowest : OfLowest plan.n plan.t (ballots_at plan h i c) (round_at plan h i c - 1) S
  pub says : Says plan.n plan.t (ballots_at plan h i c) (round_at plan h i c - 1) S s

-- o is how process i goes on in case c: by the lowest with valid ballots, if there is any full set
pub record FollowsBallots (plan : Plan) (h : Held) (i c : ℕ) (o : Option Progress) : Type 0 where
  pub voting : covers plan h i c (round_at plan h i c) ≡ true → (k b : ℕ) → Valid plan.n plan.t (ballots_at plan h i c) (round_at plan h i c - 1) k b → voters plan h i c k ≡ true
  pub valid : (k : ℕ) → voters plan h i c k ≡ true → (b : ℕ) × Valid plan.n plan.t (ballots_at plan h i c) (round_at plan h i c - 1) k b
  pub covered : (s : Progress) → o ≡ Some s → covers plan h i c (round_at plan h i c) ≡ true
  pub goes : (s : Progress) → o ≡ Some s → GoesBy plan h i c (chosen plan h i c) s
  pub none : o ≡ None → covers plan h i c (round_at plan h i c) ≡ true → (S : ℕ → Bool) → Quorum plan.n plan.t (ballots_at plan h i c) (round_at plan h i c - 1) S → ⊥
