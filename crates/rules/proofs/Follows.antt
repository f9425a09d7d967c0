-- What it means that the machine of broadcasts follows a run.
use Rattle.std.proofs.Common.{◌≡◌, ℕ, true, ◌<◌, List, ◌∷◌, ◌++◌, get_or, Option, ap, arith}
use Rattle.protocol.specs.Bags.{count, Same}
use Rattle.protocol.specs.declared.messages.Message.{Message}
use Rattle.protocol.specs.declared.messages.Step.TheVariants.{Initial}
use Rattle.protocol.specs.declared.messages.Subject.{Subject}
use Rattle.protocol.specs.declared.messages.Subject.TheVariants.{Ballot}
use Rattle.protocol.specs.Sending.{to_all}
use Rattle.protocol.proofs.Bags.{count_append}
use Rattle.protocol.specs.declared.votes.Side.{Side}
use Rattle.plan.specs.Kinds.{Line}
use Rattle.memory.specs.Contents.{Held, unopened}
use Rattle.memory.specs.Places.{within}
use Rattle.memory.specs.declared.records.CaseRecord.{CaseRecord}
use Rattle.agreement.specs.Runs as machine
use Rattle.agreement.specs.Runs.{State, after_telling}
use Rattle.consensus.specs.Validity.{Part}
use Rattle.ballots.specs.Places.{ballots_at}
use Rattle.rules.specs.Turns.{said, Coin}
use Rattle.rules.specs.Runs.{Event, Opening, Advancing}
use Rattle.rules.proofs.Told.{decision_of}
use Rattle.rules.proofs.Records.{world_of}
use Rattle.rules.proofs.Cases.{CasesShown, untold, all_carried}
use Rattle.rules.proofs.Shows.{Shows, stranger, no_stranger}

-- the machine can follow to a state that shows where the run came to
abbrev pub Follow : Line → Coin → State → List Event → Held → List Message → Type 0
Follow line coin st es h ws = (next : State) × (machine.Reachable (world_of line) st → machine.Reachable (world_of line) next) × Shows line coin es h ws next

module _ (line : Line) (capacity : ℕ) (coin : Coin) (es : List Event) (h : Held) (ws : List Message) (st : State) (shows : Shows line coin es h ws st) where
  -- what is sent joins what waits
  pub joined : (sent left : List Message) → Same left (sent ++ ws) → Same left (sent ++ st.waiting)
  joined sent left same p = omega (arith, same p, count_append p sent ws, count_append p sent st.waiting, shows.mirrors.waits p)

  -- what a process of the line tells has no stranger
  pub known_told : (i : ℕ) (s : Subject) (b : ℕ) (left : List Message) → i < line.plan.n → within line.plan s ≡ true → Same left (to_all line.plan.n i Initial s b ++ ws) → count (stranger line) left ≡ 0
  known_told i s b left lt inside same =
      omega (arith, same (stranger line), count_append (stranger line) (to_all line.plan.n i Initial s b) ws, no_stranger line line.plan.n i Initial s b lt inside, shows.mirrors.known)

  -- nothing is told of cases
  pub still : (e : Event) (next : Held) (now : State) → ((j d r : ℕ) (f x : Option Side) → Advancing j d r f x e → ⊥) → ((j d : ℕ) (v : Side) → Opening j d v e → ⊥) → ((j d : ℕ) → decision_of (e ∷ es) j d ≡ decision_of es j d) → next.cases ≡ h.cases → ((j d q : ℕ) → now.said (Ballot j d q) ≡ st.said (Ballot j d q)) → ((j d : ℕ) → j < line.plan.n → Part (ballots_at line.plan h j d) (ballots_at line.plan next j d)) → CasesShown line coin (e ∷ es) next now
  still e next now no_advance no_open undecided same said part =
      all_carried line coin es h st shows.cases (e ∷ es) next now (λ j d. untold e es j d (no_advance j d) (no_open j d) (undecided j d)) (λ k. ap (λ (xs : List CaseRecord). (get_or xs k unopened).round) same) (λ k. ap (λ (xs : List CaseRecord). (get_or xs k unopened).decision) same) said part
