use Rattle.std.proofs.Common.{sym, arith}
use Rattle.std.proofs.lemmas.Bool.Decides.{nat_tests}
use Rattle.plan.proofs.Bounds.{planned_of, planned_not}
use Rattle.plan.proofs.plans.Plan.new.Goals as goal

pub returns-then-not-contains : goal.returns-then-not-contains
returns-then-not-contains c = sym (planned_not _ _ _ _ _ (grind (arith, nat_tests)))

pub returns-then-serials-gt-MOST_SERIALS : goal.returns-then-serials-gt-MOST_SERIALS
returns-then-serials-gt-MOST_SERIALS c = sym (planned_not _ _ _ _ _ (grind (arith, nat_tests)))

pub returns : goal.returns
returns c = sym (planned_of _)
