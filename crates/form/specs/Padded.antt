-- The places of marks: the marks in front, and zeros behind them.
use Rattle.std.specs.Prelude.{◌≡◌, ℕ, ◌-◌, ◌≤◌, List, ◌++◌, length, take, replicate}
use Rattle.form.specs.declared.marks.Marks.TheInside.{Inside}
use Rattle.std.proofs.Common.{sym, ◌∙◌, arith, length-take}

abbrev pub marks_listed : Inside → List ℕ
marks_listed m = take m.count m.values

pub record Padded (m : Inside) : Type 0 where
  pub size : length m.values ≡ 16
  pub few : m.count ≤ 16
  pub zeros : m.values ≡ marks_listed m ++ replicate (16 - m.count) 0

abbrev pub padded : List ℕ → Inside
padded ms = record { values = ms ++ replicate (16 - length ms) 0; count = length ms }

pub padded_listed : (m : Inside) → Padded m → padded (marks_listed m) ≡ m
padded_listed m p =
    let n : length (marks_listed m) ≡ m.count = omega (arith, length-take m.count m.values, p.size, p.few) in
    λ i. record { values = ((λ j. marks_listed m ++ replicate (16 - n j) 0) ∙ sym p.zeros) i; count = n i }
