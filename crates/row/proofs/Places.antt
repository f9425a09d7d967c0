-- The first places of a list, one of them more, and one taken out.
use Rattle.std.proofs.Common.{◌≡◌, ℕ, suc, ◌+◌, ◌-◌, ◌<◌, ◌≤◌, List, ◌++◌, length, take, drop, sym, ap, ◌∙◌, add-one, arith}
use Rattle.std.specs.List.{remove, copy_within}
use Rattle.std.proofs.lemmas.List.{append-nil, length-take-le, length-drop, length-append, take_all, take-take, drop-take, drop_all}
use Rattle.std.proofs.Math.Seq.{take-append_seam}

pub removed_past : {X : Type 0} (xs : List X) (at : ℕ) → length xs ≤ at → remove xs at ≡ xs
removed_past xs at h = (λ i. take_all at xs h i ++ drop_all (suc at) xs (omega arith) i) ∙ append-nil xs

-- those behind `at` moved a place down
pub closed_up : {X : Type 0} (xs : List X) (at held : ℕ) → at < held → held ≤ length xs → take (held - 1) (copy_within xs (at + 1) held at) ≡ remove (take held xs) at
closed_up xs at held h within =
    let n = held - (at + 1) in
    let front : length (take at xs) ≡ at = length-take-le at xs (omega arith) in
    let moved = take n (drop (at + 1) xs) in
    let many : length moved ≡ n = length-take-le n (drop (at + 1) xs) (omega (arith, length-drop (at + 1) xs)) in
    let all : length (take at xs ++ moved) ≡ held - 1 = omega (arith, length-append (take at xs) moved) in
    let end : at + 1 + n ≡ held = omega arith in
    let left : take (held - 1) (copy_within xs (at + 1) held at) ≡ take at xs ++ moved =
    ap (λ (j : ℕ). take j (take at xs ++ moved ++ drop (at + n) xs)) (sym all) ∙ take-append_seam (take at xs ++ moved) (drop (at + n) xs) in
    left ∙ (λ i. sym (take-take at held xs (omega arith)) i ++ (sym (drop-take (at + 1) n xs) ∙ ap (λ (j : ℕ). drop (at + 1) (take j xs)) end) i) ∙ ap (λ (j : ℕ). take at (take held xs) ++ drop j (take held xs)) (add-one at)
