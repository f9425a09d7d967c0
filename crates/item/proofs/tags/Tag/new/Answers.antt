use Rattle.std.proofs.Common.{sym, arith}
use Rattle.std.proofs.lemmas.Bool.Decides.{nat_tests}
use Rattle.item.specs.Made.{tagged_of}
use Rattle.item.proofs.Outside.{tagged_not}
use Rattle.item.proofs.tags.Tag.new.Goals as goal

pub returns-then-not-contains : goal.returns-then-not-contains
returns-then-not-contains c = sym (tagged_not _ (grind (arith, nat_tests)))

pub returns : goal.returns
returns c = sym (tagged_of _)
