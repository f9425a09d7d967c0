use Rattle.std.proofs.Common.{arith}
use Rattle.tray.specs.Layers.{kept_le}
use Rattle.tray.specs.Tables.{kept}
use Rattle.tray.proofs.Layered.{own_added, posted_below}
use Rattle.tray.proofs.trays.TrayCarrier.post.Goals as goal

pub returns-in-Ok-clause-posted : goal.returns-in-Ok-clause-posted
returns-in-Ok-clause-posted g c =
    let below = c.args.self.now.below in
    let carrier = g.C.Carrier in
    own_added _ _ (carrier.waiting below) _ (carrier.capacity below) (carrier.fits below) c.in-Ok.ensures.posted

pub returns-in-Err-clause-posted : goal.returns-in-Err-clause-posted
returns-in-Err-clause-posted g c =
    let places = c.args.self.now.table.places in
    let own = c.in-Err.ensures.posted in
    posted_below (kept places) _ own.same _ _ c.post-in-Err.result _ _ (omega (arith, own.full, kept_le places)) c.post-in-Err.ensures.posted
