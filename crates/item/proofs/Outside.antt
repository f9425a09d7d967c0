-- Numbers out of range make nothing.
use Rattle.std.specs.Prelude.{◌≡◌, ℕ, Bool, true, false, Err, refl}
use Rattle.std.proofs.Common.{sym, ◌∙◌}
use Rattle.std.proofs.lemmas.Bool.{true≢false}
use Rattle.protocol.specs.declared.refusals.Refusal.TheVariants.{ValueOutOfRange}
use Rattle.item.specs.Records.{fields_in_range, record_if, recorded}
use Rattle.item.specs.Tags as tags

module _ (kind colour station day shelf : ℕ) where
  -- numbers out of range make none
  pub recorded_not : fields_in_range kind colour station day shelf ≡ false → recorded kind colour station day shelf ≡ Err ValueOutOfRange
  unfolding recorded
  recorded_not h = go (fields_in_range kind colour station day shelf) refl where
    go : (b : Bool) (e : fields_in_range kind colour station day shelf ≡ b) → record_if kind colour station day shelf b e ≡ Err ValueOutOfRange
    go true e = absurd (true≢false (sym e ∙ h))
    go false e = refl

-- a number out of range makes none
pub tagged_not : (n : ℕ) → tags.tag_in_range n ≡ false → tags.tagged n ≡ Err ValueOutOfRange
unfolding tags.tagged
tagged_not n h = go (tags.tag_in_range n) refl where
  go : (b : Bool) (e : tags.tag_in_range n ≡ b) → tags.tag_if n b e ≡ Err ValueOutOfRange
  go true e = absurd (true≢false (sym e ∙ h))
  go false e = refl
