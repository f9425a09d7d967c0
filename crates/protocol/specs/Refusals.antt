-- The number of each refusal, and the sentence that it is shown as.
use Rattle.std.specs.Prelude.{ℕ, List, codes}
use Rattle.protocol.specs.declared.refusals.Refusal.{Refusal}
use Rattle.protocol.specs.declared.refusals.Refusal.TheVariants.{
  PlanOutOfRange,
  MemoryTooSmall,
  MessageWaiting,
  ProcessOutOfRange,
  MarkRefused,
  WrongRole,
  SubjectOutOfPlan,
  NothingWaiting,
  ValueOutOfRange,
  SerialsUsedUp,
  CaseAlreadyOpened,
  MayNotAdvance,
  NoRoom,
  SlipRefused,
  NotRead,
  LineOutOfPlace,
}

abbrev pub refusal_number : Refusal → ℕ
refusal_number PlanOutOfRange = 1
refusal_number MemoryTooSmall = 2
refusal_number MessageWaiting = 3
refusal_number ProcessOutOfRange = 4
refusal_number MarkRefused = 5
refusal_number WrongRole = 6
refusal_number SubjectOutOfPlan = 7
refusal_number NothingWaiting = 8
refusal_number ValueOutOfRange = 9
refusal_number SerialsUsedUp = 10
refusal_number CaseAlreadyOpened = 11
refusal_number MayNotAdvance = 12
refusal_number NoRoom = 13
refusal_number SlipRefused = 14
refusal_number NotRead = 15
refusal_number LineOutOfPlace = 16

abbrev pub sentence : Refusal → List ℕ
sentence PlanOutOfRange = codes "The plan is outside its ranges."
sentence MemoryTooSmall = codes "The memory is smaller than what is needed."
sentence MessageWaiting = codes "A message already waits in the carrier."
sentence ProcessOutOfRange = codes "There is no process of that number."
sentence MarkRefused = codes "The process is marked already, or no more may be marked."
sentence WrongRole = codes "A correct process may not do this, or only a correct one may."
sentence SubjectOutOfPlan = codes "The subject is outside the plan."
sentence NothingWaiting = codes "Nothing waits for the process."
sentence ValueOutOfRange = codes "A value is out of its range."
sentence SerialsUsedUp = codes "All serials of the process are used."
sentence CaseAlreadyOpened = codes "The process opened the case before."
sentence MayNotAdvance = codes "The process may not advance in the case."
sentence NoRoom = codes "The carrier has too little room."
sentence SlipRefused = codes "No release slip may be issued or given back here."
sentence NotRead = codes "The line of the script cannot be read."
sentence LineOutOfPlace = codes "A turn comes before a line is opened, or a second line is."
