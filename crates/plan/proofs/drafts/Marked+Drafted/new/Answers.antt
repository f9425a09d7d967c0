use Rattle.std.proofs.lemmas.Nat.{pow_pos}
use Rattle.plan.proofs.drafts.Marked+Drafted.new.Goals as goal

pub invariant_of-result-clause-inside : goal.invariant_of-result-clause-inside
invariant_of-result-clause-inside c = pow_pos c.args.plan.n
