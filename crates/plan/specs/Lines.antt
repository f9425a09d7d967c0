-- What a draft becomes when it is opened.
use Rattle.std.specs.Prelude.{◌≡◌, ◌≤◌}
use Rattle.protocol.specs.Counting.{below}
use Rattle.plan.specs.Marks.{marked}
use Rattle.plan.specs.Kinds.{Draft, Line}

-- the line has the plan and the marks of the draft, and so no more than t of its processes are
-- marked
pub record Becomes (draft : Draft) (line : Line) : Type 0 where
  pub plan : line.plan ≡ draft.plan
  pub marks : line.marks ≡ draft.marks
  pub few : below line.plan.n (marked line.marks) ≤ line.plan.t
