use Rattle.std.proofs.Common.{arith}
use Rattle.protocol.proofs.Bags.{count_append}
use Rattle.protocol.specs.Bags.{addressed}
use Rattle.tray.specs.Tables.{kept}
use Rattle.tray.proofs.trays.TrayCarrier.waiting_for.Goals as goal

pub returns : goal.returns
returns g c =
    let tray = c.args.self.now in
    omega (arith, count_append (addressed c.args.process) (kept tray.table.places) (g.C.Carrier.waiting tray.below))
