use Rattle.std.proofs.Common.{sym, arith}
use Rattle.std.proofs.lemmas.Bool.Decides.{nat_tests}
use Rattle.item.specs.Made.{recorded_of}
use Rattle.item.proofs.Outside.{recorded_not}
use Rattle.item.proofs.records.Record.new.Goals as goal

pub returns-then-not-contains : goal.returns-then-not-contains
returns-then-not-contains c = sym (recorded_not _ _ _ _ _ (grind (arith, nat_tests)))

pub returns-then-station-gt-LAST : goal.returns-then-station-gt-LAST
returns-then-station-gt-LAST c = sym (recorded_not _ _ _ _ _ (grind (arith, nat_tests)))

pub returns : goal.returns
returns c = sym (recorded_of _)
