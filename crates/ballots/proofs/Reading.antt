-- Rows of the ballots of a memory.
use Rattle.std.proofs.Common.{◌≡◌, ℕ, zero, suc, ◌+◌, ◌-◌, ◌*◌, ◌<◌, ◌≤◌, Bool, true, ltb, List, None, Option, sym, ap, ◌∙◌, subst, arith}
use Rattle.std.proofs.lemmas.Bool.Decides.{nat_tests}
use Rattle.std.proofs.lemmas.Bool.{cond-true, cond-false, lt-ltb, le-ltb, le-leb, and_from, and_left}
use Rattle.protocol.specs.declared.messages.Subject.TheVariants as subject
use Rattle.protocol.specs.declared.votes.Ballot.{Ballot}
use Rattle.plan.specs.declared.plans.Plan.{Plan}
use Rattle.memory.specs.Contents.{Held}
use Rattle.memory.specs.Places.{enough, within}
use Rattle.protocol.specs.Phases.{kind}
use Rattle.consensus.specs.Rounds.{BallotMap}
use Rattle.consensus.specs.Validity.{Valid}
use Rattle.ballots.specs.Places.{accepted_within, ballots_at, covers, valid_at, ValidRow}
use Rattle.ballots.specs.Tallies.{ballot_in, Holds, counts}
use Rattle.ballots.specs.Votes.{allowed_after, beginning, sifted, valid_by_counting, Exactly}
use Rattle.ballots.specs.declared.tallies.ByBallot.{ByBallot}
use Rattle.ballots.proofs.Counts.{counts_past}
use Rattle.ballots.proofs.Theorem.{exact}

module _ (plan : Plan) (h : Held) (i c : ℕ) where
  pub accepted_within_lem : (o r : ℕ) → 1 ≤ r → accepted_within plan h i (subject.Ballot o c r) ≡ ballots_at plan h i c o (r - 1)
  unfolding ballots_at
  accepted_within_lem o r l = let e : r ≡ suc (r - 1) = omega arith in ap (λ (q : ℕ). accepted_within plan h i (subject.Ballot o c q)) e

  pub none_behind : (o r : ℕ) → plan.n ≤ o → ballots_at plan h i c o r ≡ None
  unfolding ballots_at
  none_behind o r l = cond-false (within plan (subject.Ballot o c (suc r))) _ None (and_left (ltb o plan.n) _ (le-ltb o plan.n l))

pub ballot_within : (plan : Plan) (o c r : ℕ) → o < plan.n → c < plan.cases → 1 ≤ r → r ≤ 3 * plan.phases → within plan (subject.Ballot o c r) ≡ true
ballot_within plan o c r a b first last = and_from _ _ (lt-ltb _ _ a) (and_from _ _ (lt-ltb _ _ b) (and_from _ _ (le-leb _ _ first) (le-leb _ _ last)))

-- what a process, a case and a round have that are covered
pub record Covered (plan : Plan) (h : Held) (i c r : ℕ) : Type 0 where
  pub process : i < plan.n
  pub case : c < plan.cases
  pub first : 1 ≤ r
  pub last : r ≤ 3 * plan.phases
  pub enough : enough plan h ≡ true

pub votes_behind : (n t : ℕ) (G : BallotMap) (r k : ℕ) → G k r ≡ None → valid_by_counting n t G r k ≡ None
unfolding valid_by_counting
votes_behind n t G zero k e = ap (sifted beginning) e
votes_behind n t G (suc r) k e = ap (sifted (allowed_after n t (kind r) (counts n (valid_by_counting n t G r)))) e

pub holds_is : (g : ℕ → Option Ballot) (row : List (Option Ballot)) → Holds g row → ballot_in row ≡ g
holds_is g row h = λ i k. h.each k i

pub holds_alike : (f g : ℕ → Option Ballot) (row : List (Option Ballot)) → ((k : ℕ) → f k ≡ g k) → Holds f row → Holds g row
holds_alike f g row e h = record { size = h.size; each = λ k. h.each k ∙ e k }

-- the counts of a row are those of the processes of the plan
pub counts_row : (n : ℕ) (g : ℕ → Option Ballot) (row : List (Option Ballot)) → n ≤ 16 → ((k : ℕ) → n ≤ k → g k ≡ None) → Holds g row → counts 16 (ballot_in row) ≡ counts n g
counts_row n g row l none h = ap (counts 16) (holds_is g row h) ∙ counts_past 16 n g l none

module _ (plan : Plan) (h : Held) (i c : ℕ) where
  abbrev valid : ℕ → ℕ → Option Ballot
  valid r = valid_by_counting plan.n plan.t (ballots_at plan h i c) r

  -- a round of the loop: the row of round r is counted, and what it allows is sifted from the round
  -- after
  pub next_row :
      (r : ℕ) (before row : List (Option Ballot)) (allowed : ByBallot Bool)
      → 1 ≤ r
      → Holds (valid (r - 1)) before
      → allowed ≡ allowed_after plan.n plan.t (kind (r - 1)) (counts 16 (ballot_in before))
      → Holds (λ k. sifted allowed (ballots_at plan h i c k (r + 1 - 1))) row
      → Holds (valid (r + 1 - 1)) row
  unfolding valid_by_counting
  next_row r before row allowed l x e y = holds_alike _ _ row each y
    where
      is : allowed ≡ allowed_after plan.n plan.t (kind (r - 1)) (counts plan.n (valid (r - 1)))
      is = e ∙ ap (allowed_after plan.n plan.t (kind (r - 1))) (counts_row plan.n (valid (r - 1)) before plan.few (λ k b. votes_behind plan.n plan.t (ballots_at plan h i c) (r - 1) k (none_behind plan h i c k (r - 1) b)) x)

      up : r + 1 - 1 ≡ suc (r - 1)
      up = omega arith

      each : (k : ℕ) → sifted allowed (ballots_at plan h i c k (r + 1 - 1)) ≡ valid (r + 1 - 1) k
      each k = (λ j. sifted (is j) (ballots_at plan h i c k (up j))) ∙ ap (λ (q : ℕ). valid q k) (sym up)

  pub last_row : (r : ℕ) (row : List (Option Ballot)) (q : ℕ) → covers plan h i c r ≡ true → q ≡ r → Holds (valid (q - 1)) row → Holds (valid_at plan h i c r) row
  last_row r row q e same x =
      holds_alike _ _ row (λ k. ap (λ (p : ℕ). valid (p - 1) k) same ∙ sym (cond-true (covers plan h i c r) _ None e)) x

  pub valid_row : (r : ℕ) (row : List (Option Ballot)) → Holds (valid_at plan h i c r) row → ValidRow plan h i c r row
  valid_row r row x = record {
    exact = λ e k. subst (Exactly (Valid plan.n plan.t (ballots_at plan h i c) (r - 1) k)) (sym (x.each k ∙ cond-true (covers plan h i c r) _ None e)) (exact plan.n plan.t (ballots_at plan h i c) (r - 1) k);
    none = λ e k. x.each k ∙ cond-false (covers plan h i c r) _ None e;
  }

  pub covered : (r : ℕ) → covers plan h i c r ≡ true → Covered plan h i c r
  covered r e = record {
    process = grind (arith, nat_tests);
    case = grind (arith, nat_tests);
    first = grind (arith, nat_tests);
    last = grind (arith, nat_tests);
    enough = grind (arith, nat_tests);
  }
