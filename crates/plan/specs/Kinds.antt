-- The two states of a plan with its marks, as types.
use Rattle.plan.specs.declared.drafts.Marked.{Marked}
use Rattle.plan.specs.declared.drafts.Drafted.{Drafted}
use Rattle.plan.specs.declared.drafts.InUse.{InUse}

abbrev pub Draft : Type 0
Draft = Marked Drafted

abbrev pub Line : Type 0
Line = Marked InUse
