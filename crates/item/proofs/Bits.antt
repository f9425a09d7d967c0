-- The bits of a body.
use Rattle.std.specs.Prelude.{◌≡◌, ℕ, ◌+◌, ◌*◌, ◌/◌, ◌%◌, ◌^◌, ◌<◌, ◌≤◌, bit_and, bit_or}
use Rattle.std.proofs.Common.{sym, ap, ◌∙◌, arith}
use Rattle.std.proofs.lemmas.Nat.{shr_split, or_shifted, and_mask}
use Rattle.std.specs.Result.{result_ok}
use Rattle.item.specs.Records.{record_in, recorded}

-- bits above and bits below place k are put together by their sum
beside : (x y k : ℕ) → x % 2 ^ k ≡ 0 → y < 2 ^ k → bit_or x y ≡ x + y
beside x y k e lt =
    let whole : x / 2 ^ k * 2 ^ k ≡ x = omega (arith, shr_split x k) in
    ap (λ (z : ℕ). bit_or z y) (sym whole) ∙ or_shifted (x / 2 ^ k) k y lt ∙ ap (λ (z : ℕ). z + y) whole

module _ (kind colour station day shelf : ℕ) where
  -- the fields, each shifted to its place and put together
  pub shifted : kind ≤ 40 → colour ≤ 11 → station ≤ 65535 → day ≤ 65535 → shelf ≤ 65535 → bit_or (bit_or (bit_or (bit_or (kind * 2 ^ 56 % 2 ^ 64) (colour * 2 ^ 48 % 2 ^ 64)) (station * 2 ^ 32 % 2 ^ 64)) (day * 2 ^ 16 % 2 ^ 64)) shelf ≡ kind * 2 ^ 56 + colour * 2 ^ 48 + station * 2 ^ 32 + day * 2 ^ 16 + shelf
  shifted k≤ c≤ s≤ d≤ h≤ =
      let k : ℕ = kind * 2 ^ 56 % 2 ^ 64 in
      let c : ℕ = colour * 2 ^ 48 % 2 ^ 64 in
      let s : ℕ = station * 2 ^ 32 % 2 ^ 64 in
      let d : ℕ = day * 2 ^ 16 % 2 ^ 64 in
      ap (λ (x : ℕ). bit_or (bit_or (bit_or x s) d) shelf) (beside k c 56 (omega arith) (omega arith))
      ∙ ap (λ (x : ℕ). bit_or (bit_or x d) shelf) (beside (k + c) s 48 (omega arith) (omega arith))
      ∙ ap (λ (x : ℕ). bit_or x shelf) (beside (k + c + s) d 32 (omega arith) (omega arith))
      ∙ beside (k + c + s + d) shelf 16 (omega arith) (omega arith)
      ∙ omega arith

-- the fields of a body
pub masked : (b : ℕ) → result_ok (recorded (b / 2 ^ 56) (bit_and (b / 2 ^ 48) 255) (bit_and (b / 2 ^ 32) 65535) (bit_and (b / 2 ^ 16) 65535) (bit_and b 65535)) ≡ record_in b
masked b = λ i.
    result_ok (recorded (b / 2 ^ 56) (and_mask (b / 2 ^ 48) 8 i) (and_mask (b / 2 ^ 32) 16 i) (and_mask (b / 2 ^ 16) 16 i) (and_mask b 16 i))
