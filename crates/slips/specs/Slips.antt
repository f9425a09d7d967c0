-- When slips are issued and given back, and what that does.
use Rattle.std.specs.Prelude.{◌≡◌, ℕ, Bool, true, false, ◌&&◌, List, Some, None, Ok, Err, Option, Result, nat_lt}
use Rattle.protocol.specs.declared.messages.Message.{Message}
use Rattle.protocol.specs.declared.refusals.Refusal.{Refusal}
use Rattle.protocol.specs.declared.refusals.Refusal.TheVariants.{SubjectOutOfPlan, SlipRefused}
use Rattle.protocol.specs.declared.votes.Side.{Side}
use Rattle.protocol.specs.declared.votes.Side.TheVariants.{Keep, Release}
use Rattle.plan.specs.Kinds.{Line}
use Rattle.memory.specs.Contents.{Held, case_at, with_case}
use Rattle.memory.specs.Places.{case_place}
use Rattle.memory.specs.declared.records.CaseRecord.{CaseRecord}
use Rattle.memory.specs.declared.records.Decision.{Decision}
use Rattle.memory.specs.declared.records.Slip.{Slip}
use Rattle.memory.specs.declared.records.Slip.TheVariants.{Absent, Out, HandedOver}
use Rattle.rules.specs.Turns.{Coin, unless, process_tests, case_tests}
use Rattle.rules.specs.Runs.{Event, Run, Decided, Aside}
use Rattle.slips.specs.declared.slip.ReleaseSlip.{ReleaseSlip}

abbrev pub releases : Side → Bool
releases Keep = false
releases Release = true

-- release was decided
abbrev pub decides_release : Option Decision → Bool
decides_release None = false
decides_release (Some d) = releases d.side

abbrev pub is_absent : Slip → Bool
is_absent Absent = true
is_absent Out = false
is_absent HandedOver = false

abbrev pub is_out : Slip → Bool
is_out Absent = false
is_out Out = true
is_out HandedOver = false

-- release was decided, and no slip is out or was handed over
abbrev pub may_issue : CaseRecord → Bool
may_issue r = decides_release r.decision && is_absent r.slip

module _ (line : Line) (h : Held) (i c : ℕ) where
  abbrev pub record_at : CaseRecord
  record_at = case_at h (case_place line.plan i c)

  -- the memory with another state of the slip
  abbrev pub with_slip : Slip → Held
  with_slip state = with_case (case_place line.plan i c) (record { round = record_at.round; decision = record_at.decision; slip = state }) h

  -- why issuing is refused, if it is
  abbrev pub issue_refusal : Option Refusal
  issue_refusal = case_tests line h i c (unless (may_issue record_at) SlipRefused None)

  -- why giving back is refused, if it is: a faulty process is not asked for its role
  abbrev pub back_refusal : Option Refusal
  back_refusal = process_tests line h i (unless (nat_lt c line.plan.cases) SubjectOutOfPlan (unless (is_out record_at.slip) SlipRefused None))

  -- the call was refused, and nothing changed
  pub record SlipCallRefused (why : Option Refusal) (e : Refusal) (after : Held) : Type 0 where
    pub first : why ≡ Some e
    pub memory : after ≡ h
    pub aside : Aside h after

  -- the slip with these numbers is out
  pub record IsIssued (slip : ReleaseSlip) (after : Held) : Type 0 where
    pub allowed : issue_refusal ≡ None
    pub process : slip.process ≡ i
    pub case : slip.case ≡ c
    pub memory : after ≡ with_slip Out
    pub aside : Aside h after

  abbrev pub Issued : Result ReleaseSlip Refusal → Held → Type 0
  Issued (Ok slip) after = IsIssued slip after
  Issued (Err e) after = SlipCallRefused issue_refusal e after

  -- A slip says the truth: whatever run led to this memory, it tells that the process decided
  -- release in the case.
  abbrev pub Truthful : Result ReleaseSlip Refusal → Type 0
  Truthful (Ok slip) = (capacity : ℕ) (coin : Coin) (es : List Event) (ws : List Message) → Run line capacity coin es h ws → (k : ℕ) × Decided es i c Release k
  Truthful (Err e) = Unit {0}

  pub record IsSpent (state : Slip) (after : Held) : Type 0 where
    pub allowed : back_refusal ≡ None
    pub memory : after ≡ with_slip state
    pub aside : Aside h after

  abbrev pub Spent : Slip → Result (Unit {0}) Refusal → Held → Type 0
  Spent state (Ok x) after = IsSpent state after
  Spent state (Err e) after = SlipCallRefused back_refusal e after

-- the slip came back with the refusal
pub record NotGivenBack (line : Line) (h : Held) (slip : ReleaseSlip) (e : Refusal) (back : ReleaseSlip) (after : Held) : Type 0 where
  pub refused : SlipCallRefused line h slip.process slip.case (back_refusal line h slip.process slip.case) e after
  pub same : back ≡ slip

-- what giving a slip back answers, and what memory then holds
abbrev pub GivenBack : Slip → Line → Held → ReleaseSlip → Result (Unit {0}) (Refusal × ReleaseSlip) → Held → Type 0
GivenBack state line h slip (Ok x) after = IsSpent line h slip.process slip.case state after
GivenBack state line h slip (Err r) after = NotGivenBack line h slip r.0 r.1 after
