-- Ballots of different sides differ, and the kinds of rounds follow one another.
use Rattle.std.proofs.Common.{◌≡◌, ℕ, zero, suc, ◌<◌, ◌≤◌, Bool, cond, sym, refl, ap, arith}
use Rattle.std.proofs.lemmas.Bool.{lt-ltb, le-ltb}
use Rattle.protocol.specs.declared.votes.Side.{Side}
use Rattle.protocol.specs.declared.votes.Side.TheVariants.{Keep, Release}
use Rattle.protocol.specs.declared.votes.Ballot.{Ballot}
use Rattle.protocol.specs.declared.votes.Ballot.TheVariants.{Open}
use Rattle.protocol.specs.Numbers.{ballot_number, vote, proposal}
use Rattle.protocol.specs.declared.votes.Kind.{Kind}
use Rattle.protocol.specs.declared.votes.Kind.TheVariants.{First, Second, Third}
use Rattle.protocol.specs.Phases.{kind}
use Rattle.consensus.specs.Rounds.{ahead, ballot_for}

abbrev pub other : Side → Side
other Keep = Release
other Release = Keep

pub both_sides : (P : Side → Type 0) → P Keep → P Release → (v : Side) → P v
both_sides P a b Keep = a
both_sides P a b Release = b

-- what differs for the sides tells the side
told_apart : (f : Side → ℕ) → (f Keep ≡ f Release → ⊥) → (u v : Side) → f u ≡ f v → u ≡ v
told_apart f differ Keep Keep e = refl
told_apart f differ Keep Release e = absurd (differ e)
told_apart f differ Release Keep e = absurd (differ (sym e))
told_apart f differ Release Release e = refl

pub vote_side : (u v : Side) → ballot_number (vote u) ≡ ballot_number (vote v) → u ≡ v
vote_side = told_apart (λ v. ballot_number (vote v)) (λ e. cc)

pub proposal_side : (u v : Side) → ballot_number (proposal u) ≡ ballot_number (proposal v) → u ≡ v
proposal_side = told_apart (λ v. ballot_number (proposal v)) (λ e. cc)

pub side_of : (q : Kind) (u v : Side) → ballot_number (ballot_for q u) ≡ ballot_number (ballot_for q v) → u ≡ v
side_of First = vote_side
side_of Second = vote_side
side_of Third = proposal_side

pub not_vote : (u v : Side) → ballot_number (proposal u) ≡ ballot_number (vote v) → ⊥
not_vote Keep Keep e = omega arith
not_vote Keep Release e = omega arith
not_vote Release Keep e = omega arith
not_vote Release Release e = omega arith

pub not_open : (u : Side) → ballot_number (proposal u) ≡ ballot_number Open → ⊥
not_open Keep e = omega arith
not_open Release e = omega arith

pub not_other : (v : Side) → other v ≡ v → ⊥
not_other Keep e = cc
not_other Release e = cc

pub keep_ahead : (count : Ballot → ℕ) → count (vote Release) ≤ count (vote Keep) → ahead count ≡ Keep
keep_ahead count l = ap (λ (z : Bool). cond z Release Keep) (le-ltb _ _ l)

pub release_ahead : (count : Ballot → ℕ) → count (vote Keep) < count (vote Release) → ahead count ≡ Release
release_ahead count l = ap (λ (z : Bool). cond z Release Keep) (lt-ltb _ _ l)

pub ahead_is : (count : Ballot → ℕ) (v : Side) → count (vote (other v)) < count (vote v) → ahead count ≡ v
ahead_is count Keep l = keep_ahead count (omega arith)
ahead_is count Release l = release_ahead count l

abbrev pub after : Kind → Kind
after First = Second
after Second = Third
after Third = First

pub kind_after : (r : ℕ) → kind (suc r) ≡ after (kind r)
kind_after zero = refl
kind_after (suc zero) = refl
kind_after (suc (suc zero)) = refl
kind_after (suc (suc (suc r))) = kind_after r

-- a third round is not the first of all
pub third_late : (r : ℕ) → kind r ≡ Third → 0 < r
third_late zero e = absurd cc
third_late (suc r) e = omega arith
