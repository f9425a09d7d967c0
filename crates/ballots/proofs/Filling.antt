-- Rows that a loop fills.
use Rattle.std.proofs.Common.{◌≡◌, ℕ, ◌+◌, ◌<◌, ◌≤◌, ◌≢◌, List, length, set, replicate, None, Option, sym, ap, ◌∙◌, ⊎_elim, arith, length-set}
use Rattle.std.proofs.lemmas.Bool.{cases_lt, cases_eq}
use Rattle.std.proofs.lemmas.List.{get_or-replicate, get_or-set_same, get_or-set_other, get_or_past, length-replicate}
use Rattle.protocol.specs.declared.votes.Ballot.{Ballot}
use Rattle.ballots.specs.Tallies.{ballot_in, Holds}

-- the first m places of a row of sixteen have what g gives, and the others are empty
pub record Filled (m : ℕ) (g : ℕ → Option Ballot) (row : List (Option Ballot)) : Type 0 where
  pub size : length row ≡ 16
  pub each : (k : ℕ) → k < m → ballot_in row k ≡ g k
  pub rest : (k : ℕ) → m ≤ k → ballot_in row k ≡ None

pub filled_none : (g : ℕ → Option Ballot) → Filled 0 g (replicate 16 None)
filled_none g = record {
  size = length-replicate {A = Option Ballot} 16 None;
  each = λ k l. absurd (omega arith);
  rest = λ k _. ⊎_elim (λ (l : k < 16). get_or-replicate 16 k None None l) (λ (l : 16 ≤ k). get_or_past (replicate 16 None) k None (omega (arith, length-replicate {A = Option Ballot} 16 None))) (cases_lt k 16);
}

pub filled_more : (m : ℕ) (g : ℕ → Option Ballot) (row : List (Option Ballot)) (o : Option Ballot) → m < 16 → Filled m g row → o ≡ g m → Filled (m + 1) g (set row m o)
filled_more m g row o l f e = record {
  size = length-set row m o ∙ f.size;
  each = λ k h. ⊎_elim (λ (x : k ≡ m). ap (ballot_in (set row m o)) x ∙ get_or-set_same row m o None (omega (arith, f.size)) ∙ e ∙ ap g (sym x)) (λ (x : k ≢ m). get_or-set_other row m k o None x ∙ f.each k (omega arith)) (cases_eq k m);
  rest = λ k h. let ne : k ≢ m = omega arith in get_or-set_other row m k o None ne ∙ f.rest k (omega arith);
}

pub filled_all : (m : ℕ) (g : ℕ → Option Ballot) (row : List (Option Ballot)) → Filled m g row → ((k : ℕ) → m ≤ k → g k ≡ None) → Holds g row
filled_all m g row f none = record {
  size = f.size;
  each = λ k. ⊎_elim (λ (l : k < m). f.each k l) (λ (l : m ≤ k). f.rest k l ∙ sym (none k l)) (cases_lt k m);
}
