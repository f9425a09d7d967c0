use Rattle.std.proofs.Common.{◌≡◌, take}
use Rattle.memory.specs.Contents.{held}
use Rattle.runs.specs.Ran.{Led}
use Rattle.runs.proofs.running.run.Given as goal

abbrev pub invariant-loop-turn : goal.invariant-loop-turn
invariant-loop-turn g l =
    let carrier = g.C.Carrier in
    let item = g.I.Item in
    (carrier.capacity l.carrier ≡ carrier.capacity l.initial.carrier)
    × Led carrier.waiting carrier.posting carrier.taking item.ok item.packed item.unpacked l.line (carrier.capacity l.initial.carrier) (g.K.Coin.shows l.coin) (take l.turn-index l.turns) (held l.initial.memory) l.initial.carrier (held l.memory) l.carrier
