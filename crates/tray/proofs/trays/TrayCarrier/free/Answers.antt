use Rattle.std.proofs.Common.{arith, length-append}
use Rattle.tray.specs.Layers.{kept_le}
use Rattle.tray.specs.Tables.{kept}
use Rattle.tray.proofs.trays.TrayCarrier.free.Goals as goal

pub returns : goal.returns
returns g c =
    let tray = c.args.self.now in
    let places = tray.table.places in
    omega (arith, length-append (kept places) (g.C.Carrier.waiting tray.below), kept_le places, g.C.Carrier.fits tray.below)
