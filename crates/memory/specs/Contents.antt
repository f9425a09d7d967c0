-- What a memory holds, and what its places hold after a change.
use Rattle.std.specs.Prelude.{ℕ, zero, suc, List, [], ◌∷◌, Some, None, Option, slice_index, slice_index_or, slice_set}
use Rattle.plan.specs.declared.plans.Plan.{Plan}
use Rattle.plan.specs.Plans.{needs_of}
use Rattle.memory.specs.declared.memories.Memory.{Memory}
use Rattle.memory.specs.declared.records.BroadcastRecord.{BroadcastRecord}
use Rattle.memory.specs.declared.records.CaseRecord.{CaseRecord}
use Rattle.memory.specs.declared.records.Slip.TheVariants.{Absent}
use Rattle.memory.specs.declared.records.Stage.{Stage}
use Rattle.memory.specs.declared.records.Stage.TheVariants.{Silent, Echoed, Readied, Accepted}

-- what the four parts of a memory hold
pub record Held : Type 0 where
  pub broadcasts : List BroadcastRecord
  pub bodies : List (Option ℕ)
  pub cases : List CaseRecord
  pub serials : List ℕ

abbrev pub held : Memory → Held
held m = record { broadcasts = m.broadcasts.now; bodies = m.bodies.now; cases = m.cases.now; serials = m.serials.now }

-- what cleared places hold
abbrev pub silent : BroadcastRecord
silent = record { stage = Silent }

abbrev pub unopened : CaseRecord
unopened = record { round = 0; decision = None; slip = Absent }

-- the first n entries, or all if there are fewer, replaced by x
unfoldable pub wiped : {X : Type 0} → ℕ → X → List X → List X
wiped zero x xs = xs
wiped (suc n) x [] = []
wiped (suc n) x (y ∷ xs) = x ∷ wiped n x xs

-- the needed places cleared, and the others as they were
abbrev pub cleared : Plan → Held → Held
cleared plan h =
    let needs = needs_of plan in
    record {
      broadcasts = wiped needs.broadcast_records silent h.broadcasts;
      bodies = wiped needs.body_places None h.bodies;
      cases = wiped needs.case_records unopened h.cases;
      serials = wiped needs.next_serials 0 h.serials;
    }

-- What stands in a place; past the end, what a cleared place holds.
abbrev pub stage_at : Held → ℕ → Stage
stage_at h at = (slice_index_or h.broadcasts at silent).stage

-- the body that was accepted, if one was
abbrev pub accepted_body : Stage → Option ℕ
accepted_body Silent = None
accepted_body Echoed = None
accepted_body Readied = None
accepted_body (Accepted b) = Some b

abbrev pub case_at : Held → ℕ → CaseRecord
case_at h at = slice_index_or h.cases at unopened

abbrev pub serial_at : Held → ℕ → ℕ
serial_at h process = slice_index h.serials process

-- memory with another case record, and with another serial
abbrev pub with_case : ℕ → CaseRecord → Held → Held
with_case at r h = record { broadcasts = h.broadcasts; bodies = h.bodies; cases = slice_set h.cases at r; serials = h.serials }

abbrev pub with_serial : ℕ → ℕ → Held → Held
with_serial process k h = record { broadcasts = h.broadcasts; bodies = h.bodies; cases = h.cases; serials = slice_set h.serials process k }
