-- How long the parts of a memory are that is large enough.
use Rattle.std.proofs.Common.{◌≡◌, ◌≤◌, true, length, arith}
use Rattle.std.proofs.lemmas.Bool.Decides.{nat_tests}
use Rattle.plan.specs.Plans.{needs_of}
use Rattle.plan.specs.declared.plans.Plan.{Plan}
use Rattle.memory.specs.Contents.{Held}
use Rattle.memory.specs.Places.{enough}

pub record Sizes (plan : Plan) (h : Held) : Type 0 where
  pub broadcasts : (needs_of plan).broadcast_records ≤ length h.broadcasts
  pub bodies : (needs_of plan).body_places ≤ length h.bodies
  pub cases : (needs_of plan).case_records ≤ length h.cases
  pub serials : (needs_of plan).next_serials ≤ length h.serials

pub sizes : (plan : Plan) (h : Held) → enough plan h ≡ true → Sizes plan h
sizes plan h e = record {
  broadcasts = grind (arith, nat_tests);
  bodies = grind (arith, nat_tests);
  cases = grind (arith, nat_tests);
  serials = grind (arith, nat_tests);
}
