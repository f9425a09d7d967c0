-- Nine worked rows: what the definitions give for numbers that can be followed by hand.
use Rattle.std.specs.Prelude.{◌≡◌, ℕ, List, [], ◌∷◌, Some, None, Ok, Err, Option, Result}
use Rattle.protocol.specs.Numbers.{vote}
use Rattle.protocol.specs.declared.refusals.Refusal.{Refusal}
use Rattle.protocol.specs.declared.votes.Ballot.{Ballot}
use Rattle.protocol.specs.declared.votes.Ballot.TheVariants.{Keep, Release, ProposeKeep, ProposeRelease, Open}
use Rattle.protocol.specs.declared.votes.Side.{Side}
use Rattle.protocol.specs.declared.votes.Side.TheVariants as side
use Rattle.plan.specs.Sheet.{thresholds_of}
use Rattle.item.specs.Records.{recorded, body_of}
use Rattle.item.specs.declared.records.Record.{Record}
use Rattle.protocol.specs.declared.votes.Kind.{Kind}
use Rattle.protocol.specs.declared.votes.Kind.TheVariants.{First, Second, Third}
use Rattle.cases.specs.Steps.{step_by}

-- a row of the table
pub data TableRow : Type 0 where
  -- n and t have the thresholds echo, ready and accept
  sheet : (n t echo ready accept : ℕ) → TableRow
  -- by so many keeps, releases, proposals to keep and to release, and open ballots, a process says
  -- next, is forced and decides
  progress : (n t : ℕ) (round : Kind) (keeps releases propose_keep propose_release opens : ℕ) (next : Option Ballot) (forced decides : Option Side) → TableRow
  -- for either side: by so many of its proposals, and so many open ballots, a process says next, is
  -- forced and decides
  third : (n t proposals opens : ℕ) (next : Side → Option Ballot) (forced decides : Side → Option Side) → TableRow
  -- the record of these fields has this body
  body : (kind colour station day shelf packed : ℕ) → TableRow

-- how many there are of a ballot
abbrev pub cast : ℕ → ℕ → ℕ → ℕ → ℕ → Ballot → ℕ
cast k r pk pr o Keep = k
cast k r pk pr o Release = r
cast k r pk pr o ProposeKeep = pk
cast k r pk pr o ProposeRelease = pr
cast k r pk pr o Open = o

-- the same with proposals of one side alone
abbrev pub cast_for : Side → ℕ → ℕ → Ballot → ℕ
cast_for side.Keep k o = cast 0 0 k 0 o
cast_for side.Release k o = cast 0 0 0 k o

-- the body of a record that was made
abbrev pub body_in : Result Record Refusal → Option ℕ
body_in (Ok r) = Some (body_of r)
body_in (Err e) = None

-- what a row says
abbrev pub RowHolds : TableRow → Type 0
RowHolds (sheet n t e r a) = thresholds_of n t ≡ record { echo = e; ready = r; accept = a }
RowHolds (progress n t q k r pk pr o next forced decides) = step_by n t q (cast k r pk pr o) ≡ record { next = next; forced = forced; decides = decides }
RowHolds (third n t k o next forced decides) = (v : Side) → step_by n t Third (cast_for v k o) ≡ record { next = next v; forced = forced v; decides = decides v }
RowHolds (body kind colour station day shelf b) = body_in (recorded kind colour station day shelf) ≡ Some b

abbrev pub table : List TableRow
table =
    sheet 4 1 3 2 3
    ∷ (sheet 5 1 4 2 3
    ∷ (sheet 16 5 11 6 11
    ∷ (progress 5 1 First 2 2 0 0 0 (Some Keep) None None
    ∷ (progress 6 1 Second 2 3 0 0 0 (Some Open) None None
    ∷ (third 4 1 3 0 (λ v. Some (vote v)) Some Some
    ∷ (third 4 1 2 1 (λ v. Some (vote v)) Some (λ _. None)
    ∷ (third 4 1 1 2 (λ _. None) (λ _. None) (λ _. None)
    ∷ (body 1 2 3 4 5 0x0102000300040005 ∷ []))))))))

abbrev pub AllHold : List TableRow → Type 0
AllHold [] = Unit {0}
AllHold (r ∷ rs) = RowHolds r × AllHold rs
