-- When numbers make a record or a tag, and when two of them are equal.
use Rattle.std.specs.Prelude.{◌≡◌, ℕ, ◌≤◌, Bool, true, false, Some, Ok, Err, Result}
use Rattle.std.proofs.Math.Path.{refl}
use Rattle.std.proofs.Common.{sym, ap, ◌∙◌, arith}
use mathlib.Core.HLevel.{is_prop→PathP}
use Rattle.std.proofs.Math.Bridge.{le_prop}
use Rattle.std.proofs.lemmas.Bool.{and_from, le-leb, true≢false}
use Rattle.std.specs.Result.{result_ok}
use Rattle.item.specs.declared.records.Record.{Record}
use Rattle.item.specs.declared.tags.Tag.{Tag}
use Rattle.item.specs.Records.{fields_in_range, record_if, recorded}
use Rattle.item.specs.Tags as tags

-- a result whose good part is there is that part
pub good_part : {V E : Type 0} (r : Result V E) (v : V) → result_ok r ≡ Some v → r ≡ Ok v
good_part (Ok x) v e = cc
good_part (Err x) v e = let z : ◌≡◌ {A = ℕ} 0 1 = cc in absurd (omega arith)

-- records with equal fields are equal
same_record : (p q : Record) → p.kind ≡ q.kind → p.colour ≡ q.colour → p.station ≡ q.station → p.day ≡ q.day → p.shelf ≡ q.shelf → p ≡ q
same_record p q kind colour station day shelf = λ i.
    record {
      kind = kind i;
      colour = colour i;
      station = station i;
      day = day i;
      shelf = shelf i;
      first = is_prop→PathP (λ j. 1 ≤ kind j) (λ j. le_prop {n = 1} {m = kind j}) p.first q.first i;
      last = is_prop→PathP (λ j. kind j ≤ 40) (λ j. le_prop {n = kind j} {m = 40}) p.last q.last i;
      coloured = is_prop→PathP (λ j. colour j ≤ 11) (λ j. le_prop {n = colour j} {m = 11}) p.coloured q.coloured i;
      placed = is_prop→PathP (λ j. station j ≤ 65535) (λ j. le_prop {n = station j} {m = 65535}) p.placed q.placed i;
      dated = is_prop→PathP (λ j. day j ≤ 65535) (λ j. le_prop {n = day j} {m = 65535}) p.dated q.dated i;
      shelved = is_prop→PathP (λ j. shelf j ≤ 65535) (λ j. le_prop {n = shelf j} {m = 65535}) p.shelved q.shelved i;
    }

-- the fields of a record are in range
record_in_range : (r : Record) → fields_in_range r.kind r.colour r.station r.day r.shelf ≡ true
record_in_range r =
    and_from _ _ (and_from _ _ (le-leb 1 r.kind r.first) (le-leb r.kind 40 r.last))
    (and_from _ _ (le-leb r.colour 11 r.coloured)
    (and_from _ _ (le-leb r.station 65535 r.placed) (and_from _ _ (le-leb r.day 65535 r.dated) (le-leb r.shelf 65535 r.shelved))))

-- a record is what its fields make
pub recorded_of : (r : Record) → recorded r.kind r.colour r.station r.day r.shelf ≡ Ok r
unfolding recorded
recorded_of r = go (fields_in_range r.kind r.colour r.station r.day r.shelf) refl where
  go : (b : Bool) (e : fields_in_range r.kind r.colour r.station r.day r.shelf ≡ b) → record_if r.kind r.colour r.station r.day r.shelf b e ≡ Ok r
  go true e = ap Ok (same_record _ r refl refl refl refl refl)
  go false e = absurd (true≢false (sym (record_in_range r) ∙ e))

module _ (kind colour station day shelf : ℕ) where
  -- the fields of a record are the numbers that it was made of
  pub record Fields (r : Record) : Type 0 where
    pub kind_is : kind ≡ r.kind
    pub colour_is : colour ≡ r.colour
    pub station_is : station ≡ r.station
    pub day_is : day ≡ r.day
    pub shelf_is : shelf ≡ r.shelf

  pub recorded_fields : (r : Record) → recorded kind colour station day shelf ≡ Ok r → Fields r
  unfolding recorded
  recorded_fields r h = go (fields_in_range kind colour station day shelf) refl h where
    go : (b : Bool) (e : fields_in_range kind colour station day shelf ≡ b) → record_if kind colour station day shelf b e ≡ Ok r → Fields r
    go true e made = record { kind_is = cc; colour_is = cc; station_is = cc; day_is = cc; shelf_is = cc }
    go false e made = let z : ◌≡◌ {A = ℕ} 0 1 = cc in absurd (omega arith)

  pub recorded_at : (r : Record) → Fields r → recorded kind colour station day shelf ≡ Ok r
  recorded_at r f =
      (λ i. recorded (f.kind_is i) (f.colour_is i) (f.station_is i) (f.day_is i) (f.shelf_is i)) ∙ recorded_of r

-- tags of equal numbers are equal
same_tag : (s t : Tag) → s.number ≡ t.number → s ≡ t
same_tag s t number = λ i.
    record {
      number = number i;
      first = is_prop→PathP (λ j. 1 ≤ number j) (λ j. le_prop {n = 1} {m = number j}) s.first t.first i;
      last = is_prop→PathP (λ j. number j ≤ 999999) (λ j. le_prop {n = number j} {m = 999999}) s.last t.last i;
    }

-- a tag is what its number makes
pub tagged_of : (t : Tag) → tags.tagged t.number ≡ Ok t
unfolding tags.tagged
tagged_of t = go (tags.tag_in_range t.number) refl where
  go : (b : Bool) (e : tags.tag_in_range t.number ≡ b) → tags.tag_if t.number b e ≡ Ok t
  go true e = ap Ok (same_tag _ t refl)
  go false e = absurd (true≢false (sym (and_from _ _ (le-leb 1 t.number t.first) (le-leb t.number 999999 t.last)) ∙ e))

-- the number of a tag is the one that it was made of
pub tagged_number : (n : ℕ) (t : Tag) → tags.tagged n ≡ Ok t → n ≡ t.number
unfolding tags.tagged
tagged_number n t h = go (tags.tag_in_range n) refl h where
  go : (b : Bool) (e : tags.tag_in_range n ≡ b) → tags.tag_if n b e ≡ Ok t → n ≡ t.number
  go true e made = cc
  go false e made = let z : ◌≡◌ {A = ℕ} 0 1 = cc in absurd (omega arith)
