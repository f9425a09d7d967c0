-- Which numbers make a record, and the body of one.
use Rattle.std.specs.Prelude.{◌≡◌, ℕ, ◌+◌, ◌*◌, ◌/◌, ◌%◌, ◌^◌, Bool, true, false, ◌&&◌, Ok, Err, Option, Result, nat_le, refl}
use Rattle.std.proofs.lemmas.Bool.{and_parts, leb-true}
use Rattle.std.specs.Result.{result_ok}
use Rattle.protocol.specs.declared.refusals.Refusal.{Refusal}
use Rattle.protocol.specs.declared.refusals.Refusal.TheVariants.{ValueOutOfRange}
use Rattle.item.specs.declared.records.Record.{Record}

-- kinds 1 to 40, colours up to 11, and 16 bits for each of the others
abbrev pub fields_in_range : ℕ → ℕ → ℕ → ℕ → ℕ → Bool
fields_in_range kind colour station day shelf =
    (nat_le 1 kind && nat_le kind 40) && (nat_le colour 11 && (nat_le station 65535 && (nat_le day 65535 && nat_le shelf 65535)))

module _ (kind colour station day shelf : ℕ) where
  abbrev pub record_if : (b : Bool) → fields_in_range kind colour station day shelf ≡ b → Result Record Refusal
  record_if false e = Err ValueOutOfRange
  record_if true e =
      let a = and_parts _ _ e in
      let k = and_parts _ _ a.0 in
      let b = and_parts _ _ a.1 in
      let c = and_parts _ _ b.1 in
      let d = and_parts _ _ c.1 in
      Ok record {
        kind = kind;
        colour = colour;
        station = station;
        day = day;
        shelf = shelf;
        first = leb-true 1 kind k.0;
        last = leb-true kind 40 k.1;
        coloured = leb-true colour 11 b.0;
        placed = leb-true station 65535 c.0;
        dated = leb-true day 65535 d.0;
        shelved = leb-true shelf 65535 d.1;
      }

  -- the record of these numbers, if they make one
  unfoldable pub recorded : Result Record Refusal
  recorded = record_if (fields_in_range kind colour station day shelf) refl

-- highest first, in 8, 8, 16, 16 and 16 bits
abbrev pub body_of : Record → ℕ
body_of r = r.kind * 2 ^ 56 + r.colour * 2 ^ 48 + r.station * 2 ^ 32 + r.day * 2 ^ 16 + r.shelf

-- the record whose fields stand in the bits of a body
abbrev pub record_in : ℕ → Option Record
record_in b = result_ok (recorded (b / 2 ^ 56) (b / 2 ^ 48 % 2 ^ 8) (b / 2 ^ 32 % 2 ^ 16) (b / 2 ^ 16 % 2 ^ 16) (b % 2 ^ 16))
