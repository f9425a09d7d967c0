use Rattle.std.proofs.Common.{take, ap, ◌-◌, ◌∙◌, arith}
use Rattle.std.proofs.lemmas.List.{length-take-le}
use Rattle.row.proofs.Places.{closed_up}
use Rattle.row.proofs.rows.Row.remove.Goals as goal

pub returns-clause-left : goal.returns-clause-left
returns-clause-left c =
    let row = c.args.self.now in
    ap (take (row.held - 1)) c.copy_within.ensures.after ∙ closed_up row.places.now c.args.at row.held (omega (arith, length-take-le row.held row.places.now row.within)) row.within
