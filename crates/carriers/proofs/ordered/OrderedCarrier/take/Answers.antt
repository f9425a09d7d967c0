use Rattle.std.proofs.Common.{arith}
use Rattle.row.specs.Order.{listed}
use Rattle.row.proofs.Order.{lawful}
use Rattle.carriers.proofs.ordered.OrderedCarrier.take.Goals as goal

pub returns-clause-taken : goal.returns-clause-taken
returns-clause-taken g c =
    let ms = listed c.args.self.now.row in
    let among = g.met.K.Choice.among c.args.process c.args.pick ms in
    lawful c.args.process c.number-number.result ms _ _ (λ lt. omega (arith, c.number-number.ensures, among lt)) c.take.ensures.answer c.take.ensures.left
