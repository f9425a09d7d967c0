-- The ballots that a process has accepted in a case. In a map of ballots rounds count from 0, in
-- memory from 1.
use Rattle.std.specs.Prelude.{◌≡◌, ℕ, suc, ◌-◌, Bool, true, false, cond, ◌&&◌, List, None, Option}
use Rattle.protocol.specs.declared.votes.Ballot.{Ballot}
use Rattle.protocol.specs.declared.messages.Subject.{Subject}
use Rattle.protocol.specs.declared.messages.Subject.TheVariants as subject
use Rattle.plan.specs.declared.plans.Plan.{Plan}
use Rattle.memory.specs.Contents.{Held}
use Rattle.memory.specs.Places.{enough, within, body_at}
use Rattle.consensus.specs.Rounds.{BallotMap}
use Rattle.consensus.specs.Validity.{Valid}
use Rattle.ballots.specs.Tallies.{ballot_in}
use Rattle.ballots.specs.Votes.{valid_by_counting, Exactly}

-- what process i has accepted for a subject, if the plan has the subject
abbrev pub accepted_within : Plan → Held → ℕ → Subject → Option ℕ
accepted_within plan h i s = cond (within plan s) (body_at plan h i s) None

-- what process i has accepted in case c, by originator and round, the rounds from 0
unfoldable pub ballots_at : Plan → Held → ℕ → ℕ → BallotMap
ballots_at plan h i c o r = accepted_within plan h i (subject.Ballot o c (suc r))

-- whether the plan has process i, case c and round r, counted from 1, and memory is large enough
abbrev pub covers : Plan → Held → ℕ → ℕ → ℕ → Bool
covers plan h i c r = within plan (subject.Ballot i c r) && enough plan h

-- the valid ballot of process k in round r, by counting; none if something is not there
abbrev pub valid_at : Plan → Held → ℕ → ℕ → ℕ → ℕ → Option Ballot
valid_at plan h i c r k = cond (covers plan h i c r) (valid_by_counting plan.n plan.t (ballots_at plan h i c) (r - 1) k) None

-- a row has exactly the ballots that are valid at process i, by the sets that allow them
pub record ValidRow (plan : Plan) (h : Held) (i c r : ℕ) (row : List (Option Ballot)) : Type 0 where
  pub exact : covers plan h i c r ≡ true → (k : ℕ) → Exactly (Valid plan.n plan.t (ballots_at plan h i c) (r - 1) k) (ballot_in row k)
  pub none : covers plan h i c r ≡ false → (k : ℕ) → ballot_in row k ≡ None
