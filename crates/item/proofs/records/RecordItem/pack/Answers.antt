use Rattle.std.proofs.Common.{arith}
use Rattle.item.proofs.Bits.{shifted}
use Rattle.item.proofs.records.RecordItem.pack.Goals as goal

pub returns : goal.returns
returns c =
    let r = c.args.self.now in
    let e =
    shifted c.kind.result c.colour.result c.station.result c.day.result c.shelf.result (omega arith) (omega arith) (omega arith) (omega arith)
    (omega arith) in
    record { value = omega arith; fits = tt }
