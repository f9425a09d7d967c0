use Rattle.std.proofs.Common.{◌≡◌}
use Rattle.memory.specs.Contents.{wiped}
use Rattle.memory.proofs.memories.wipe.Given as goal

abbrev pub invariant-loop-place : goal.invariant-loop-place
invariant-loop-place g l = l.place-items ≡ wiped l.place-index l.blank l.initial.place-items
