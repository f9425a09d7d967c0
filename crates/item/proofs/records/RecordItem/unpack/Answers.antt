use Rattle.item.proofs.Bits.{masked}
use Rattle.item.proofs.records.RecordItem.unpack.Goals as goal

pub returns : goal.returns
returns c = cc (masked c.args.body)
