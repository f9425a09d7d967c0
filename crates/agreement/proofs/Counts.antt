-- Counting the processes below n is a measure.
use Rattle.std.proofs.Common.{◌≡◌, ℕ, zero, suc, ◌+◌, ◌≤◌, Bool, true, false, cond, ◌&&◌, ◌||◌, sym, refl, subst, arith}
use Rattle.protocol.specs.Counting.{below}
use Rattle.protocol.proofs.Counting.{below_zero, below_monotone}
use Rattle.agreement.specs.Worlds.{Measure, Lawful, counted}
use Rattle.protocol.specs.Thresholds.{Sound}

pub below_all : (n : ℕ) → below n (λ _. true) ≡ n
unfolding below
below_all zero = refl
below_all (suc n) = let e = below_all n in omega arith

one_modular : (x y : Bool) → cond x 1 0 + cond y 1 0 ≡ cond (x || y) 1 0 + cond (x && y) 1 0
one_modular true true = refl
one_modular true false = refl
one_modular false true = refl
one_modular false false = refl

below_modular : (n : ℕ) (p q : ℕ → Bool) → below n p + below n q ≡ below n (λ k. p k || q k) + below n (λ k. p k && q k)
unfolding below
below_modular zero p q = refl
below_modular (suc n) p q = let one = one_modular (p n) (q n) in omega (arith, below_modular n p q)

pub below_measure : (n : ℕ) → Measure n (below n)
below_measure n = record { empty = below_zero n (λ _. false) (λ k l. refl); monotone = below_monotone n; modular = below_modular n }

pub counted_lawful : (n t echo ready accept : ℕ) (faulty : ℕ → Bool) → n ≤ 16 → below n faulty ≤ t → Sound n t echo ready accept → Lawful (counted n t echo ready accept faulty)
counted_lawful n t echo ready accept faulty named few sound = record {
  named = named;
  measure = below_measure n;
  few = few;
  sound = subst (λ m. Sound m t echo ready accept) (sym (below_all n)) sound;
}
