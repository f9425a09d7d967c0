-- The ballots of one case, round by round, and what a set of ballots says of the next round. Rounds
-- count from 0 here.
use Rattle.std.specs.Prelude.{◌≡◌, ℕ, ◌*◌, ◌<◌, ◌≤◌, Bool, cond, ◌&&◌, ◌⊎◌, Option, nat_lt}
use Rattle.protocol.specs.declared.votes.Side.{Side}
use Rattle.protocol.specs.declared.votes.Side.TheVariants as side
use Rattle.protocol.specs.declared.votes.Ballot.{Ballot}
use Rattle.protocol.specs.declared.votes.Ballot.TheVariants.{Open}
use Rattle.protocol.specs.Counting.{below}
use Rattle.protocol.specs.declared.votes.Kind.{Kind}
use Rattle.protocol.specs.declared.votes.Kind.TheVariants.{First, Second, Third}
use Rattle.protocol.specs.Numbers.{ballot_number, vote, proposal}
use Rattle.protocol.specs.Heard.{has}

-- the ballots accepted in a case, as numbers: by originator, then by round
abbrev pub BallotMap : Type 0
BallotMap = ℕ → ℕ → Option ℕ

-- how many members of S below n have ballot b in round r
unfoldable pub tally : ℕ → BallotMap → ℕ → (ℕ → Bool) → Ballot → ℕ
tally n G r S b = below n (λ k. S k && has (G k r) (ballot_number b))

-- What a set says depends on how many of each ballot it has. More than t proposals of v force v,
abbrev pub Forces : ℕ → (Ballot → ℕ) → Side → Type 0
Forces t count v = t < count (proposal v)

-- and more than 2t decide it
abbrev pub DecidesFor : ℕ → (Ballot → ℕ) → Side → Type 0
DecidesFor t count v = 2 * t < count (proposal v)

-- more than half of all n processes vote for v
abbrev pub Most : ℕ → (Ballot → ℕ) → Side → Type 0
Most n count v = n < 2 * count (vote v)

-- the side with more votes, keep if they are equal
abbrev pub ahead : (Ballot → ℕ) → Side
ahead count = cond (nat_lt (count (vote side.Keep)) (count (vote side.Release))) side.Release side.Keep

-- number b is a ballot that a set of a round of kind q allows in the round after it
abbrev pub Allows : ℕ → ℕ → Kind → (Ballot → ℕ) → ℕ → Type 0
Allows n t First count b = b ≡ ballot_number (vote (ahead count))
Allows n t Second count b =
    ((v : Side) × Most n count v × (b ≡ ballot_number (proposal v))) ⊎ (((v : Side) → 2 * count (vote v) ≤ n) × (b ≡ ballot_number Open))
Allows n t Third count b =
    ((v : Side) × Forces t count v × (b ≡ ballot_number (vote v))) ⊎ (((v : Side) → count (proposal v) ≤ t) × ((v : Side) × (b ≡ ballot_number (vote v))))

-- the ballot that speaks for v in a round of a kind
abbrev pub ballot_for : Kind → Side → Ballot
ballot_for First v = vote v
ballot_for Second v = vote v
ballot_for Third v = proposal v
