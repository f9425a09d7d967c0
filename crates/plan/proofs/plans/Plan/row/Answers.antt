use Rattle.std.proofs.Common.{ℕ, ◌<◌, sym, subst}
use Rattle.plan.proofs.Table.{row_is, row_within}
use Rattle.plan.proofs.plans.Plan.row.Goals as goal

pub returns : goal.returns
returns c =
    let plan = c.args.self.now in
    let at = row_is plan.n plan.t plan.few plan.tolerated in
    record { within = subst (λ (k : ℕ). k < 51) (sym at) (row_within plan.n plan.t plan.few plan.tolerated); value = at }
