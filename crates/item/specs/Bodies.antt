-- Bodies are read as what they were packed from.
use Rattle.std.proofs.Common.{ap, arith}
use Rattle.std.proofs.lemmas.Nat.{shr-shr}
use Rattle.std.specs.Result.{result_ok}
use Rattle.item.specs.Laws.{Faithful}
use Rattle.item.specs.Records.{body_of, record_in}
use Rattle.item.specs.Tags.{tag_body, tag_in}
use Rattle.item.specs.Made.{good_part, recorded_at, recorded_fields, tagged_of, tagged_number}

pub record_faithful : Faithful (λ _. Unit {0}) body_of record_in
record_faithful =
    record {
      within = λ r _. omega arith;
      full = λ r _. ap result_ok
          (recorded_at _ _ _ _ _ r
          record {
            kind_is = omega arith;
            colour_is = omega arith;
            station_is = omega arith;
            day_is = omega arith;
            shelf_is = omega arith;
          });
      sound = λ b r lt e. let f = recorded_fields _ _ _ _ _ r (good_part _ r e) in (tt, omega (arith, shr-shr b 16 16, shr-shr b 32 16, shr-shr b 48 8));
    }

pub tag_faithful : Faithful (λ _. Unit {0}) tag_body tag_in
tag_faithful =
    record {
      within = λ t _. omega arith;
      full = λ t _. ap result_ok (tagged_of t);
      sound = λ b t lt e. (tt, tagged_number b t (good_part _ t e));
    }
