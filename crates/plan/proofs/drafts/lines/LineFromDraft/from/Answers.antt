use Rattle.std.proofs.Common.{rules}
use Rattle.plan.proofs.Marked.{few_marked}
use Rattle.plan.proofs.drafts.lines.LineFromDraft.from.Goals as goal

pub returns : goal.returns
returns c = record { plan = search rules; marks = search rules; few = search (rules, few_marked) }
