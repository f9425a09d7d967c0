-- What a turn does to memory and to what waits, and when it is refused.
use Rattle.std.specs.Prelude.{◌≡◌, ℕ, ◌+◌, ◌*◌, ◌/◌, Bool, true, cond, not, ◌||◌, List, [], ◌∷◌, ◌++◌, length, Some, None, Option, ◌==◌, nat_le, nat_lt}
use Rattle.protocol.specs.Bags.{Same, waiting_for}
use Rattle.protocol.specs.Messages.{originator_of}
use Rattle.protocol.specs.Numbers.{ballot_number, vote}
use Rattle.protocol.specs.Sending.{to_all}
use Rattle.protocol.specs.declared.messages.Message.{Message}
use Rattle.protocol.specs.declared.messages.Step.TheVariants.{Initial, Echo, Ready}
use Rattle.protocol.specs.declared.messages.Subject.{Subject}
use Rattle.protocol.specs.declared.messages.Subject.TheVariants.{Item}
use Rattle.protocol.specs.declared.messages.Subject.TheVariants as subject
use Rattle.protocol.specs.declared.votes.Ballot.{Ballot}
use Rattle.protocol.specs.declared.votes.Side.{Side}
use Rattle.protocol.specs.declared.refusals.Refusal.{Refusal}
use Rattle.protocol.specs.declared.refusals.Refusal.TheVariants.{MemoryTooSmall, ProcessOutOfRange, WrongRole, SubjectOutOfPlan, NothingWaiting, ValueOutOfRange, SerialsUsedUp, CaseAlreadyOpened, MayNotAdvance, NoRoom}
use Rattle.plan.specs.Marks.{marked}
use Rattle.plan.specs.Kinds.{Line}
use Rattle.plan.specs.Plans.{rounds}
use Rattle.carrier.specs.Waiting.{free_in}
use Rattle.memory.specs.Contents.{Held, case_at, with_case, serial_at, with_serial}
use Rattle.memory.specs.Places.{enough, within, case_place}
use Rattle.memory.specs.declared.records.Decision.{Decision}
use Rattle.broadcast.specs.Receiving.{Outcome, outcome, received}
use Rattle.broadcast.specs.Stages.{nothing}
use Rattle.broadcast.specs.declared.reactions.Reaction.{Reaction}
use Rattle.cases.specs.Steps.{round_at, may_advance}
use Rattle.cases.specs.declared.steps.Progress.{Progress}

-- what a coin shows a process in a phase of a case
abbrev pub Coin : Type 0
Coin = (process case phase : ℕ) → Side

-- what a turn is told; the value that is announced is told by its body
pub data Turn : Type 0 where
  Announce : (process body : ℕ) → Turn
  Open : (process case vote : ℕ) → Turn
  Forge : Message → Turn
  Deliver : (process pick : ℕ) → Turn
  Advance : (process case : ℕ) → Turn

-- process i is marked
abbrev pub faulty : Line → ℕ → Bool
faulty line i = marked line.marks i

-- refused with e unless the test holds; then as the rest says
abbrev pub unless : Bool → Refusal → Option Refusal → Option Refusal
unless test e rest = cond test rest (Some e)

-- The first tests of most calls, and then as the rest says: the memory is large enough, and the
-- plan has the process;
abbrev pub process_tests : Line → Held → ℕ → Option Refusal → Option Refusal
process_tests line h i rest = unless (enough line.plan h) MemoryTooSmall (unless (nat_lt i line.plan.n) ProcessOutOfRange rest)

-- and the process is correct.
abbrev pub correct_tests : Line → Held → ℕ → Option Refusal → Option Refusal
correct_tests line h i rest = process_tests line h i (unless (not (faulty line i)) WrongRole rest)

-- and the plan has the case
abbrev pub case_tests : Line → Held → ℕ → ℕ → Option Refusal → Option Refusal
case_tests line h i c rest = correct_tests line h i (unless (nat_lt c line.plan.cases) SubjectOutOfPlan rest)

-- the last test: there is room for k more messages
abbrev pub room_test : ℕ → ℕ → List Message → Option Refusal
room_test k capacity ws = unless (nat_le k (free_in capacity ws)) NoRoom None

-- whether there is room for all that a delivery may make a process send: a faulty one sends nothing
abbrev pub room_for_replies : Line → ℕ → ℕ → List Message → Bool
room_for_replies line i capacity ws = faulty line i || nat_le (2 * line.plan.n) (free_in capacity ws)

-- the last tests of a delivery
abbrev pub delivery_tests : Line → ℕ → ℕ → List Message → Option Refusal
delivery_tests line i capacity ws =
    unless (nat_le 1 (waiting_for i ws)) NothingWaiting (unless (room_for_replies line i capacity ws) NoRoom None)

-- the subject of the ballot that a process sends after a round of a case: after the last round
-- there is none
abbrev pub subject_after : Line → ℕ → ℕ → ℕ → Option Subject
subject_after line i c r = cond (nat_lt r (rounds line.plan)) (Some (subject.Ballot i c (r + 1))) None

-- whether there is room for that ballot, if there is one
abbrev pub room_for_ballot : Line → Option Subject → ℕ → List Message → Bool
room_for_ballot line None capacity ws = true
room_for_ballot line (Some s) capacity ws = nat_le line.plan.n (free_in capacity ws)

-- why a turn is refused, if it is: the tests are made in the order of the refusals' numbers
abbrev pub refusal : Line → ℕ → Held → List Message → Turn → Option Refusal
refusal line capacity h ws (Announce i b) =
    correct_tests line h i (unless (nat_lt (serial_at h i) line.plan.serials) SerialsUsedUp (room_test line.plan.n capacity ws))
refusal line capacity h ws (Open i c v) =
    case_tests line h i c
    (unless (nat_le v 1) ValueOutOfRange (unless (round_at line.plan h i c == 0) CaseAlreadyOpened (room_test line.plan.n capacity ws)))
refusal line capacity h ws (Forge m) =
    process_tests line h m.sender
    (unless (nat_lt m.addressee line.plan.n) ProcessOutOfRange
    (unless (faulty line m.sender) WrongRole (unless (within line.plan m.subject) SubjectOutOfPlan (room_test 1 capacity ws))))
refusal line capacity h ws (Deliver i pick) = process_tests line h i (delivery_tests line i capacity ws)
refusal line capacity h ws (Advance i c) =
    case_tests line h i c
    (unless (may_advance line.plan h i c) MayNotAdvance
    (unless (room_for_ballot line (subject_after line i c (round_at line.plan h i c)) capacity ws) NoRoom None))

-- what a process sends in an item's broadcast when it announces it under serial k
abbrev pub initials : Line → ℕ → ℕ → ℕ → List Message
initials line i k b = to_all line.plan.n i Initial (Item i k) b

-- and in that of its vote, which is a number, when it opens a case
abbrev pub first_ballots : Line → ℕ → ℕ → ℕ → List Message
first_ballots line i c v = to_all line.plan.n i Initial (subject.Ballot i c 1) v

-- the case record of process i with another round and decision
abbrev pub moved : Line → ℕ → ℕ → ℕ → Option Decision → Held → Held
moved line i c round decision h =
    let at = case_place line.plan i c in
    with_case at (record { round = round; decision = decision; slip = (case_at h at).slip }) h

-- what a process says next: where the ballots force neither side, what the coin shows
abbrev pub said : Option Ballot → Side → Ballot
said None coin = vote coin
said (Some b) coin = b

-- the first decision stands with its phase
abbrev pub decision_after : Option Decision → Option Side → ℕ → Option Decision
decision_after (Some d) decides phase = Some d
decision_after None None phase = None
decision_after None (Some v) phase = Some (record { side = v; phase = phase })

-- what is sent of a ballot for a subject, if there is one
abbrev pub sent_for : Line → Option Subject → Ballot → List Message
sent_for line None b = []
sent_for line (Some s) b = to_all line.plan.n (originator_of s) Initial s (ballot_number b)

-- what a message does at its addressee: a faulty process drops it
abbrev pub reacted : Line → Message → Held → Outcome
reacted line m h = cond (faulty line m.addressee) (outcome h nothing) (received line.plan m.addressee m h)

-- what the addressee then sends, all echoes first
abbrev pub replies : ℕ → Message → Reaction → List Message
replies n m r =
    cond r.echo (to_all n m.addressee Echo m.subject m.body) []
    ++ cond r.ready (to_all n m.addressee Ready m.subject m.body) []

-- What a turn that is not refused leaves in memory, and what it sends.
pub record Effect : Type 0 where
  pub held : Held
  pub sent : List Message

abbrev pub effect : Held → List Message → Effect
effect h ms = record { held = h; sent = ms }

module _ (line : Line) (h : Held) where
  -- the value goes out under serial k, the next
  abbrev pub announcing : (i k b : ℕ) → Effect
  announcing i k b = effect (with_serial i (k + 1) h) (initials line i k b)

  -- the process is in the first round, and votes; what it may have decided stands
  abbrev pub opening : (i c v : ℕ) → Effect
  opening i c v = effect (moved line i c 1 (case_at h (case_place line.plan i c)).decision h) (first_ballots line i c v)

  abbrev pub forging : Message → Effect
  forging m = effect h (m ∷ [])

  -- a message does its work at its addressee
  abbrev pub delivering : Message → Effect
  delivering m = effect (reacted line m h).held (replies line.plan.n m (reacted line m h).reaction)

  -- The process leaves round r and goes on. The phase of a third round is a third of its number,
  -- and the coin shows a side for it.
  abbrev pub advancing : (coin : Coin) (i c r : ℕ) → Progress → Effect
  advancing coin i c r step =
      effect (moved line i c (r + 1) (decision_after (case_at h (case_place line.plan i c)).decision step.decides (r / 3)) h) (sent_for line (subject_after line i c r) (said step.next (coin i c (r / 3))))

-- The turn was refused: nothing changed.
pub record Refused (why : Option Refusal) (e : Refusal) (h after : Held) (ws left : List Message) : Type 0 where
  pub first : why ≡ Some e
  pub memory : after ≡ h
  pub carrier : left ≡ ws

-- The turn was done: memory holds what it is to hold, and what is sent waits with the others.
pub record Done (why : Option Refusal) (does : Effect) (after : Held) (ws left : List Message) (posted : ℕ) : Type 0 where
  pub allowed : why ≡ None
  pub memory : after ≡ does.held
  pub carrier : Same left (does.sent ++ ws)
  pub counted : posted ≡ length does.sent
