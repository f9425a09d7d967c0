-- Each text is the sentence of its refusal, letter by letter.
use Rattle.std.proofs.Common.{sym, ap}
use Rattle.protocol.specs.Refusals.{sentence}
use Rattle.protocol.proofs.refusals.Refusal.sentence.Goals as goal

pub returns-in-PlanOutOfRange : goal.returns-in-PlanOutOfRange
returns-in-PlanOutOfRange c = sym (ap sentence c.in-PlanOutOfRange.is)

pub returns-in-MemoryTooSmall : goal.returns-in-MemoryTooSmall
returns-in-MemoryTooSmall c = sym (ap sentence c.in-MemoryTooSmall.is)

pub returns-in-MessageWaiting : goal.returns-in-MessageWaiting
returns-in-MessageWaiting c = sym (ap sentence c.in-MessageWaiting.is)

pub returns-in-ProcessOutOfRange : goal.returns-in-ProcessOutOfRange
returns-in-ProcessOutOfRange c = sym (ap sentence c.in-ProcessOutOfRange.is)

pub returns-in-MarkRefused : goal.returns-in-MarkRefused
returns-in-MarkRefused c = sym (ap sentence c.in-MarkRefused.is)

pub returns-in-WrongRole : goal.returns-in-WrongRole
returns-in-WrongRole c = sym (ap sentence c.in-WrongRole.is)

pub returns-in-SubjectOutOfPlan : goal.returns-in-SubjectOutOfPlan
returns-in-SubjectOutOfPlan c = sym (ap sentence c.in-SubjectOutOfPlan.is)

pub returns-in-NothingWaiting : goal.returns-in-NothingWaiting
returns-in-NothingWaiting c = sym (ap sentence c.in-NothingWaiting.is)

pub returns-in-ValueOutOfRange : goal.returns-in-ValueOutOfRange
returns-in-ValueOutOfRange c = sym (ap sentence c.in-ValueOutOfRange.is)

pub returns-in-SerialsUsedUp : goal.returns-in-SerialsUsedUp
returns-in-SerialsUsedUp c = sym (ap sentence c.in-SerialsUsedUp.is)

pub returns-in-CaseAlreadyOpened : goal.returns-in-CaseAlreadyOpened
returns-in-CaseAlreadyOpened c = sym (ap sentence c.in-CaseAlreadyOpened.is)

pub returns-in-MayNotAdvance : goal.returns-in-MayNotAdvance
returns-in-MayNotAdvance c = sym (ap sentence c.in-MayNotAdvance.is)

pub returns-in-NoRoom : goal.returns-in-NoRoom
returns-in-NoRoom c = sym (ap sentence c.in-NoRoom.is)

pub returns-in-SlipRefused : goal.returns-in-SlipRefused
returns-in-SlipRefused c = sym (ap sentence c.in-SlipRefused.is)

pub returns-in-NotRead : goal.returns-in-NotRead
returns-in-NotRead c = sym (ap sentence c.in-NotRead.is)

pub returns-in-LineOutOfPlace : goal.returns-in-LineOutOfPlace
returns-in-LineOutOfPlace c = sym (ap sentence c.in-LineOutOfPlace.is)
