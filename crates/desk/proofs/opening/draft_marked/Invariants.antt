use Rattle.std.proofs.Common.{◌≡◌, drop}
use Rattle.desk.specs.Desk.{marking}
use Rattle.desk.proofs.opening.draft_marked.Given as goal

-- what is still to be marked leads to where all lead
abbrev pub invariant-loop-mark : goal.invariant-loop-mark
invariant-loop-mark l =
    (l.draft.plan ≡ l.initial.draft.plan)
    × (marking l.initial.draft.plan l.draft.marks (drop l.mark-index l.mark-items) ≡ marking l.initial.draft.plan l.initial.draft.marks l.marks)
