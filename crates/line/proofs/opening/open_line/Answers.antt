use Rattle.std.proofs.Common.{◌≡◌, true, [], sym, ap, ◌∙◌, subst}
use Rattle.plan.specs.declared.plans.Plan.{Plan}
use Rattle.memory.specs.Contents.{Held, held, cleared}
use Rattle.memory.specs.Places.{enough}
use Rattle.rules.specs.Runs.{Run, begun}
use Rattle.rules.proofs.Theorem.{kept}
use Rattle.line.proofs.opening.open_line.Goals as goal

pub returns-clause-promise : goal.returns-clause-promise
returns-clause-promise g c =
    let h = held c.args.memory.now in
    let capacity = g.C.Carrier.capacity c.args.carrier.now in
    let line = c.from.result in
    let same = c.plan-plan.ensures ∙ sym c.from.ensures.plan in
    let large : enough line.plan h ≡ true = ap (λ (p : Plan). enough p h) (sym same) ∙ sym c.is_enough.ensures ∙ c.if-not-is_enough.false in
    record {
      run =
          λ coin.
          subst (λ (x : Held). Run line capacity coin [] x []) (sym (c.clear.ensures ∙ ap (λ (p : Plan). cleared p h) same)) (begun h large);
      kept = kept line capacity;
    }
