use Rattle.std.proofs.Common.{arith, rules}
use Rattle.std.proofs.lemmas.Grind.{common_steps}
use Rattle.memory.proofs.Wiping.{wiped_none, wiped_more, wiped_front}
use Rattle.memory.proofs.memories.wipe.Goals as goal

pub loop-place-init : goal.loop-place-init
loop-place-init g c = search (rules, wiped_none)

pub loop-place-preserved : goal.loop-place-preserved
loop-place-preserved g c = grind (arith, wiped_more)

pub returns : goal.returns
returns g c =
    let e = wiped_front c.args.blank c.min-end.result c.args.need c.args.places.now (omega arith) in
    grind (arith, common_steps)
