use Rattle.std.proofs.Common.{[], ◌∷◌, ap, ◌∙◌, arith}
use Rattle.std.proofs.lemmas.List.{length-take-le, take_more_set}
use Rattle.protocol.specs.Bags.{count}
use Rattle.protocol.proofs.Bags.{same_swap}
use Rattle.row.specs.Order.{listed}
use Rattle.row.proofs.rows.Row.post.Goals as goal

pub returns-clause-posted : goal.returns-clause-posted
returns-clause-posted c =
    let row = c.args.self.now in
    let m = c.args.message in
    let order = take_more_set row.places.now row.held m (omega (arith, row.within)) in
    record { room = omega (arith, length-take-le row.held row.places.now row.within); same = λ p. ap (count p) order ∙ same_swap (listed row) (m ∷ []) p }
