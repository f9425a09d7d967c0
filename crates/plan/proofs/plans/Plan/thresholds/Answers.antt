use Rattle.plan.proofs.Table.{row_value, row_sound}
use Rattle.plan.proofs.plans.Plan.thresholds.Goals as goal

pub returns : goal.returns
returns c =
    let plan = c.args.self.now in
    record {
      value = row_value plan.n plan.t plan.few plan.tolerated c.row.result c.row.ensures.value;
      sound = row_sound plan.n plan.t plan.few plan.tolerated c.row.result c.row.ensures.value;
    }
