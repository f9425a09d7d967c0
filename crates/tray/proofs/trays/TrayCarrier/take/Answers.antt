use Rattle.tray.specs.Tables.{kept}
use Rattle.tray.proofs.Layered.{own_removed, taken_below}
use Rattle.tray.proofs.trays.TrayCarrier.take.Goals as goal

pub returns-in-Ok-clause-taken : goal.returns-in-Ok-clause-taken
returns-in-Ok-clause-taken g c = own_removed _ _ (g.C.Carrier.waiting c.args.self.now.below) _ _ c.in-Ok.ensures.taken

pub returns-in-Err-clause-taken : goal.returns-in-Err-clause-taken
returns-in-Err-clause-taken g c =
    let own = c.in-Err.ensures.taken in
    taken_below (kept c.args.self.now.table.places) _ own.same _ _ c.take-in-Err.result _ own.none c.take-in-Err.ensures.taken
