use Rattle.std.proofs.Common.{◌≡◌, ℕ, ◌+◌, ◌*◌, ◌≤◌, arith}
use Rattle.std.proofs.lemmas.Nat.{mul-le}
use Rattle.memory.specs.Places.{record_place}
use Rattle.memory.proofs.Grid.{records_few, inside}
use Rattle.memory.proofs.places.slots.locate.Goals as goal

abbrev at : goal.After-number_of-number → ℕ
at c = (c.args.process * c.n-n.result + c.originator.result) * (c.serials.result + c.rounds.result * c.cases.result) + c.number_of-number.result

few : (c : goal.After-number_of-number) → at c ≤ 106496
few c =
    let same : at c ≡ record_place c.args.plan.now c.args.process c.args.subject = cc in
    omega (arith, same, inside c.args.plan.now c.args.process c.args.subject c.requires.process c.requires.subject, records_few c.args.plan.now)

row : (c : goal.After-number_of-number) → 2 * c.n-n.result * at c ≤ 32 * 106496
row c = mul-le (2 * c.n-n.result) (at c) 32 106496 (omega (arith, c.n-n.ensures, c.args.plan.now.few)) (few c)

pub overflow_mul-record : goal.overflow_mul-record
overflow_mul-record c = omega (arith, few c)

pub overflow_add-record : goal.overflow_add-record
overflow_add-record c = omega (arith, few c)

pub overflow_mul-echoes-2 : goal.overflow_mul-echoes-2
overflow_mul-echoes-2 c = omega (arith, row c)

pub overflow_add-result : goal.overflow_add-result
overflow_add-result c = omega (arith, row c, c.n-n.ensures, c.args.plan.now.few)
