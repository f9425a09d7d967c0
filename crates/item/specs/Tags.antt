-- Which number makes a tag.
use Rattle.std.specs.Prelude.{◌≡◌, ℕ, Bool, true, false, ◌&&◌, Ok, Err, Option, Result, nat_le, refl}
use Rattle.std.proofs.lemmas.Bool.{and_parts, leb-true}
use Rattle.std.specs.Result.{result_ok}
use Rattle.protocol.specs.declared.refusals.Refusal.{Refusal}
use Rattle.protocol.specs.declared.refusals.Refusal.TheVariants.{ValueOutOfRange}
use Rattle.item.specs.declared.tags.Tag.{Tag}

abbrev pub tag_in_range : ℕ → Bool
tag_in_range n = nat_le 1 n && nat_le n 999999

module _ (n : ℕ) where
  abbrev pub tag_if : (b : Bool) → tag_in_range n ≡ b → Result Tag Refusal
  tag_if false e = Err ValueOutOfRange
  tag_if true e =
      let a = and_parts _ _ e in Ok record { number = n; first = leb-true 1 n a.0; last = leb-true n 999999 a.1 }

  -- the tag of this number, if it makes one
  unfoldable pub tagged : Result Tag Refusal
  tagged = tag_if (tag_in_range n) refl

-- a tag is its own body
abbrev pub tag_body : Tag → ℕ
tag_body tag = tag.number

abbrev pub tag_in : ℕ → Option Tag
tag_in b = result_ok (tagged b)
