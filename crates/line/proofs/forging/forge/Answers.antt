use Rattle.std.proofs.Common.{refl, ap, arith}
use Rattle.std.proofs.lemmas.Result.{err_from_is_err_and}
use Rattle.plan.specs.declared.plans.Plan.{Plan}
use Rattle.carrier.specs.Posting.{none, more}
use Rattle.memory.specs.Contents.{held}
use Rattle.line.proofs.Allowed.{not_from, not_to}
use Rattle.line.proofs.forging.forge.Goals as goal

pub returns-in_err-check_process-clause-turn : goal.returns-in_err-check_process-clause-turn
returns-in_err-check_process-clause-turn g c =
    let p = err_from_is_err_and c.from_residual.result c.from_residual.ensures.1 in
    rw (p.1, p.2)
    record { first = not_from c.args.line.now (g.C.Carrier.capacity c.args.carrier.now) (held c.args.memory.now) (g.C.Carrier.waiting c.args.carrier.now) c.args.message c.sender.result c.sender.ensures _ c.in_err-check_process.ensures.first; memory = refl; carrier = refl }

pub returns-then-addressee-n-clause-turn : goal.returns-then-addressee-n-clause-turn
returns-then-addressee-n-clause-turn g c =
    let n = ap (λ (p : Plan). p.n) c.plan-plan.ensures in
    record { first = not_to c.args.line.now (g.C.Carrier.capacity c.args.carrier.now) (held c.args.memory.now) (g.C.Carrier.waiting c.args.carrier.now) c.args.message c.sender.result c.sender.ensures c.in_ok-check_process.ensures.first (omega (arith, n)); memory = refl; carrier = refl }

pub returns-clause-order : goal.returns-clause-order
returns-clause-order g c = more none (rw c.unwrap.ensures at c.post.ensures.told)
