-- What ties reading a body to packing a value.
use Rattle.std.specs.Prelude.{◌≡◌, ℕ, ◌^◌, ◌<◌, Some, Option}

-- A body, a number of 64 bits, is read as a value exactly if it is what that value packs to.
pub record Faithful {V : Type 0} (ok : V → Type 0) (packed : V → ℕ) (unpacked : ℕ → Option V) : Type 0 where
  pub within : (v : V) → ok v → packed v < 2 ^ 64
  pub full : (v : V) → ok v → unpacked (packed v) ≡ Some v
  pub sound : (b : ℕ) (v : V) → b < 2 ^ 64 → unpacked b ≡ Some v → ok v × (b ≡ packed v)
