use Rattle.memory.proofs.Grid.{laid}
use Rattle.memory.proofs.places.slots.place_of.Goals as goal

pub returns-clause-laid : goal.returns-clause-laid
returns-clause-laid c = laid c.args.plan.now
