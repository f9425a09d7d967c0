-- A run of one process, from announcing an item and opening a case to rest.
use Rattle.std.proofs.Common.{◌≡◌, ℕ, zero, suc, ◌+◌, ◌*◌, ◌/◌, ◌<◌, ◌≤◌, Bool, true, false, List, [], ◌∷◌, ◌++◌, drop, length, replicate, Some, None, Option, refl, sym, ap, subst, inl, inr, ⊎_elim, arith}
use lib.Count.{ones}
use Rattle.std.specs.Prelude.{count_ones}
use Rattle.std.proofs.lemmas.Bool.{leb-true}
use Rattle.protocol.specs.Bags.{count}
use Rattle.protocol.specs.Counting.{below}
use Rattle.protocol.specs.Messages.{message}
use Rattle.protocol.specs.Sending.{to_all}
use Rattle.protocol.specs.declared.messages.Message.{Message}
use Rattle.protocol.specs.declared.messages.Step as steps
use Rattle.protocol.specs.declared.messages.Step.TheVariants.{Initial, Echo, Ready}
use Rattle.protocol.specs.declared.messages.Subject.{Subject}
use Rattle.protocol.specs.declared.messages.Subject.TheVariants.{Item, Ballot}
use Rattle.protocol.specs.declared.refusals.Refusal.{Refusal}
use Rattle.protocol.specs.declared.votes.Ballot.TheVariants as ballot
use Rattle.protocol.specs.declared.votes.Side.{Side}
use Rattle.protocol.specs.declared.votes.Side.TheVariants.{Release}
use Rattle.plan.specs.declared.plans.Plan.{Plan}
use Rattle.plan.specs.Kinds.{Line}
use Rattle.plan.specs.Marks.{marked}
use Rattle.memory.specs.Contents.{Held, silent, wiped, case_at}
use Rattle.memory.specs.declared.records.BroadcastRecord.{BroadcastRecord}
use Rattle.memory.specs.declared.records.Decision.{Decision}
use Rattle.memory.specs.declared.records.Slip.TheVariants.{Absent}
use Rattle.memory.specs.declared.records.Stage.{Stage}
use Rattle.memory.specs.declared.records.Stage.TheVariants.{Silent, Echoed, Readied, Accepted}
use Rattle.broadcast.specs.Receiving.{handled}
use Rattle.ballots.specs.Places.{ballots_at}
use Rattle.ballots.specs.Votes as ballots
use Rattle.consensus.specs.Rounds.{tally}
use Rattle.consensus.specs.Validity.{lowest}
use Rattle.cases.specs.Steps.{step_at, step_by, chosen}
use Rattle.cases.specs.declared.steps.Progress.{Progress}
use Rattle.rules.specs.Turns as turns
use Rattle.rules.specs.Turns.{refusal, reacted, replies, moved, said, decision_after, Coin}
use Rattle.rules.specs.Runs.{Event, Run, begun, after, announced, opened, delivered, advanced, Told, Opening, Advancing, Opened, Forced, Ended}
use Rattle.rules.specs.Promises.{Correct, Stuck, Happening}
use Rattle.rules.proofs.Going.{goes_on}
use Rattle.rules.proofs.Theorem.{kept}

abbrev plan : Plan
plan = record { n = 1; t = 0; serials = 1; cases = 1; phases = 2; few = omega arith; tolerated = omega arith; numbered = omega arith; listed = omega arith; first = omega arith; last = omega arith }

none_marked : count_ones 0 ≤ 0
unfolding ones
none_marked = leb-true (count_ones 0) 0 refl

abbrev line : Line
line = record { plan = plan; marks = 0; state = record {}; few = none_marked; inside = omega arith }

abbrev coin : Coin
coin process case phase = Release

-- Memory where bodies were accepted for the first subjects, the next one is at a stage, with what
-- was heard of it, and as many more as `left` says are untouched.
abbrev records : List ℕ → Stage → ℕ → List BroadcastRecord
records [] stage left = record { stage = stage } ∷ replicate left silent
records (b ∷ bs) stage left = record { stage = Accepted b } ∷ records bs stage left

abbrev bodies : List ℕ → Option ℕ → Option ℕ → ℕ → List (Option ℕ)
bodies [] echo ready left = echo ∷ ready ∷ replicate (2 * left) None
bodies (b ∷ bs) echo ready left = Some b ∷ Some b ∷ bodies bs echo ready left

module _ (bs : List ℕ) (left serial round : ℕ) (decision : Option Decision) where
  abbrev memory : Stage → Option ℕ → Option ℕ → Held
  memory stage echo ready = record {
    broadcasts = records bs stage left;
    bodies = bodies bs echo ready left;
    cases = record { round = round; decision = decision; slip = Absent } ∷ [];
    serials = serial ∷ [];
  }

  abbrev untouched : Held
  untouched = memory Silent None None

  abbrev accepted : ℕ → Held
  accepted b = memory (Accepted b) (Some b) (Some b)

-- what comes of a turn: whether it is refused, what memory then holds, what is sent, and whether a
-- body is accepted
record Deed : Type 0 where
  refused : Option Refusal
  held : Held
  sent : List Message
  accepts : Bool

abbrev done : Held → List Message → Bool → Deed
done h sent accepts = record { refused = None; held = h; sent = sent; accepts = accepts }

abbrev letter : steps.Step → Subject → ℕ → Message
letter step s b = message 0 0 step s b

abbrev vote : ℕ → Subject
vote r = Ballot 0 0 r

did : {d : Deed} {h : Held} {sent : List Message} {accepts : Bool} (ws : List Message) → d ≡ done h sent accepts → turns.Done d.refused (turns.effect d.held d.sent) h ws (sent ++ ws) (length sent)
did ws e = record {
  allowed = ap (λ (x : Deed). x.refused) e;
  memory = sym (ap (λ (x : Deed). x.held) e);
  carrier = λ p. sym (ap (λ (x : Deed). count p (x.sent ++ ws)) e);
  counted = sym (ap (λ (x : Deed). length x.sent) e);
}

-- the one message that waits is delivered
abbrev hearing : Message → Held → Deed
hearing m h =
    let r = reacted line m h in
    record { refused = refusal line 3 h (m ∷ []) (turns.Deliver 0 0); held = r.held; sent = replies 1 m r.reaction; accepts = r.reaction.accepted }

hears : (es : List Event) (m : Message) (h next : Held) (sent : List Message) (accepts : Bool) → m.addressee ≡ 0 → hearing m h ≡ done next sent accepts → Run line 3 coin es h (m ∷ []) → Run line 3 coin (delivered 0 0 m (length sent) accepts ∷ es) next (sent ++ [])
hears es m h next sent accepts to e run = after run _ (record {
  rest = [];
  addressee = to;
  taken = λ p. refl;
  done = did [] e;
  answer = sym (ap (λ (x : Deed). x.accepts) e);
})

-- a subject is told by the one message that waits, and the process accepts its body
abbrev heard : Subject → ℕ → List Event → List Event
heard s b es = delivered 0 0 (letter Ready s b) 0 true ∷ delivered 0 0 (letter Echo s b) 1 false ∷ delivered 0 0 (letter Initial s b) 1 false ∷ es

module _ (s : Subject) (b : ℕ) (bs : List ℕ) (left round : ℕ) (decision : Option Decision) where
  abbrev Hearing : Type 0
  Hearing =
      (hearing (letter Initial s b) (untouched bs left 1 round decision) ≡ done (memory bs left 1 round decision Echoed None None) (letter Echo s b ∷ []) false)
      × (hearing (letter Echo s b) (memory bs left 1 round decision Echoed None None) ≡ done (memory bs left 1 round decision Readied (Some b) None) (letter Ready s b ∷ []) false)
      × (hearing (letter Ready s b) (memory bs left 1 round decision Readied (Some b) None) ≡ done (accepted bs left 1 round decision b) [] true)

  hears_all : (es : List Event) → Hearing → Run line 3 coin es (untouched bs left 1 round decision) (letter Initial s b ∷ []) → Run line 3 coin (heard s b es) (accepted bs left 1 round decision b) []
  unfolding message
  hears_all es e run = hears _ _ _ _ _ true refl e.2 (hears _ _ _ _ _ false refl e.1 (hears _ _ _ _ _ false refl e.0 run))

-- the process advances, and nothing waits
abbrev going : Held → ℕ → Progress → Deed
going h r step = record {
  refused = refusal line 3 h [] (turns.Advance 0 0);
  held = moved line 0 0 (r + 1) (decision_after (case_at h 0).decision step.decides (r / 3)) h;
  sent = turns.sent_for line (turns.subject_after line 0 0 r) (said step.next Release);
  accepts = false;
}

-- a round: its ballot is accepted, and the process goes on
abbrev gone : ℕ → ℕ → Progress → List Message → List Event → List Event
gone r b step sent es = advanced 0 0 r step.forced step.decides (r + 1) (length sent) ∷ heard (vote r) b es

goes : (r b : ℕ) (bs : List ℕ) (left : ℕ) (decision : Option Decision) (step : Progress) (sent : List Message) (next : Held) (es : List Event) → Hearing (vote r) b bs left r decision → step_at plan (accepted bs left 1 r decision b) 0 0 ≡ Some step → going (accepted bs left 1 r decision b) r step ≡ done next sent false → Run line 3 coin es (untouched bs left 1 r decision) (letter Initial (vote r) b ∷ []) → Run line 3 coin (gone r b step sent es) next (sent ++ [])
goes r b bs left decision step sent next es heard_it by e run =
    after (hears_all (vote r) b bs left r decision es heard_it run) _ (goes_on line 3 (accepted bs left 1 r decision b) [] coin 0 0 step _ _ _ by (did [] e))

abbrev votes : Progress
votes = record { next = Some ballot.Release; forced = None; decides = None }

abbrev proposes : Progress
proposes = record { next = Some ballot.ProposeRelease; forced = None; decides = None }

abbrev decides : Progress
decides = record { next = Some ballot.Release; forced = Some Release; decides = Some Release }

-- the decision of the first phase
abbrev decision : Option Decision
decision = Some (record { side = Release; phase = 1 })

-- the ballot of a round, on its way
abbrev cast : ℕ → ℕ → List Message
cast r b = letter Initial (vote r) b ∷ []

abbrev begun_with : List Event
begun_with = opened 0 0 1 1 ∷ heard (Item 0 0) 5 (announced 0 5 0 1 ∷ [])

abbrev first_phase : List Event
first_phase = gone 3 3 decides (cast 4 1) (gone 2 1 proposes (cast 3 3) (gone 1 1 votes (cast 2 1) begun_with))

abbrev events : List Event
events = gone 6 3 decides [] (gone 5 1 proposes (cast 6 3) (gone 4 1 votes (cast 5 1) first_phase))

begins : Run line 3 coin begun_with (untouched (5 ∷ []) 5 1 1 None) (cast 1 1)
unfolding wiped to_all marked message handled below count
begins =
    after (hears_all (Item 0 0) 5 [] 6 0 None _ (refl, refl, refl)
    (after (begun (untouched [] 6 0 0 None) refl) _ (record { serial = refl; done = record { allowed = refl; memory = refl; carrier = λ p. refl; counted = refl } })))
    _ (record { allowed = refl; memory = refl; carrier = λ p. refl; counted = refl })

decided : Run line 3 coin first_phase (untouched (5 ∷ 1 ∷ 1 ∷ 3 ∷ []) 2 1 4 decision) (cast 4 1)
unfolding to_all marked message handled below count step_by tally lowest ballots_at ballots.valid_by_counting ballots.allowed_after
decided =
    goes 3 3 (5 ∷ 1 ∷ 1 ∷ []) 3 None decides (cast 4 1) (untouched (5 ∷ 1 ∷ 1 ∷ 3 ∷ []) 2 1 4 decision) _ (refl, refl, refl) refl refl
    (goes 2 1 (5 ∷ 1 ∷ []) 4 None proposes (cast 3 3) (untouched (5 ∷ 1 ∷ 1 ∷ []) 3 1 3 None) _ (refl, refl, refl) refl refl
    (goes 1 1 (5 ∷ []) 5 None votes (cast 2 1) (untouched (5 ∷ 1 ∷ []) 4 1 2 None) _ (refl, refl, refl) refl refl begins))

abbrev end : Held
end = accepted (5 ∷ 1 ∷ 1 ∷ 3 ∷ 1 ∷ 1 ∷ []) 0 1 7 decision 3

run : Run line 3 coin events end []
unfolding to_all marked message handled below count step_by tally lowest ballots_at ballots.valid_by_counting ballots.allowed_after
run =
    goes 6 3 (5 ∷ 1 ∷ 1 ∷ 3 ∷ 1 ∷ 1 ∷ []) 0 decision decides [] end _ (refl, refl, refl) refl refl
    (goes 5 1 (5 ∷ 1 ∷ 1 ∷ 3 ∷ 1 ∷ []) 1 decision proposes (cast 6 3) (untouched (5 ∷ 1 ∷ 1 ∷ 3 ∷ 1 ∷ 1 ∷ []) 0 1 6 decision) _ (refl, refl, refl) refl refl
    (goes 4 1 (5 ∷ 1 ∷ 1 ∷ 3 ∷ []) 2 decision votes (cast 5 1) (untouched (5 ∷ 1 ∷ 1 ∷ 3 ∷ 1 ∷ []) 1 1 5 decision) _ (refl, refl, refl) refl refl decided))

correct : Correct line 0
unfolding marked
correct = (omega arith, refl)

alone : (o : ℕ) → Correct line o → 0 ≡ o
alone zero co = refl
alone (suc o) co = absurd (omega (arith, co.0))

ended : (i c : ℕ) → i < 1 → c < 1 → Stuck line end i c
ended zero zero li lc r S at early full = let is : 7 ≡ suc r = at in absurd (omega (arith, is, early))
ended zero (suc c) li lc r S at early full = absurd (omega (arith, lc))
ended (suc i) c li lc r S at early full = absurd (omega (arith, li))

-- what is told of an older event
older : (P : Event → Type 0) (k : ℕ) (es : List Event) → Told P (drop k es) → Told P es
older P zero es t = t
older P (suc k) [] t = t
older P (suc k) (e ∷ es) t = inr (older P k es t)

module _ (k : ℕ) (f x : Option Side) where
  not_heard : (s : Subject) (b : ℕ) (es : List Event) → Told (Advancing 0 0 k f x) (heard s b es) → Told (Advancing 0 0 k f x) es
  not_heard s b es = ⊎_elim (λ z. absurd z) (⊎_elim (λ z. absurd z) (⊎_elim (λ z. absurd z) (λ t. t)))

  not_in : (r b : ℕ) (step : Progress) (sent : List Message) (es : List Event) → (r ≡ k → ⊥) → Told (Advancing 0 0 k f x) (gone r b step sent es) → Told (Advancing 0 0 k f x) es
  not_in r b step sent es apart = ⊎_elim (λ z. absurd (apart z.2)) (not_heard (vote r) b es)

before_it : (u : Side) (x : Option Side) → Told (Advancing 0 0 3 (Some u) x) (gone 2 1 proposes (cast 3 3) (gone 1 1 votes (cast 2 1) begun_with)) → ⊥
before_it u x t =
    ⊎_elim (λ z. z) (λ t. ⊎_elim (λ z. z) (λ z. z) (not_heard 3 (Some u) x (Item 0 0) 5 (announced 0 5 0 1 ∷ []) t))
    (not_in 3 (Some u) x 1 1 votes (cast 2 1) begun_with (λ z. omega (arith, z))
    (not_in 3 (Some u) x 2 1 proposes (cast 3 3) (gone 1 1 votes (cast 2 1) begun_with) (λ z. omega (arith, z)) t))

only : (u : Side) (x : Option Side) → Told (Advancing 0 0 3 (Some u) x) events → u ≡ Release
only u x t =
    ⊎_elim (λ z. some_side z.3) (λ t. absurd (before_it u x (not_heard 3 (Some u) x (vote 3) 3 (gone 2 1 proposes (cast 3 3) (gone 1 1 votes (cast 2 1) begun_with)) t)))
    (not_in 3 (Some u) x 4 1 votes (cast 5 1) first_phase (λ z. omega (arith, z))
    (not_in 3 (Some u) x 5 1 proposes (cast 6 3) (gone 4 1 votes (cast 5 1) first_phase) (λ z. omega (arith, z))
    (not_in 3 (Some u) x 6 3 decides [] (gone 5 1 proposes (cast 6 3) (gone 4 1 votes (cast 5 1) first_phase)) (λ z. omega (arith, z)) t)))
  where
    some_side : ◌≡◌ {A = Option Side} (Some Release) (Some u) → u ≡ Release
    some_side e = cc

pub happens : (line : Line) × (coin : Coin) × (es : List Event) × (h : Held) × Happening line 3 coin es h
unfolding count
happens =
    let promises = kept line 3 coin events end [] run in
    let body = promises.recorded.only (Item 0 0) 0 5 correct refl refl in
    let below : 0 < 1 = omega arith in
    let past : 6 < 7 = omega arith in (
      line,
      coin,
      events,
      end,
      record {
        run = run;
        rest = record { quiet = λ i ci. refl; stuck = λ i c ci. ended i c ci.0 };
        correct = correct;
        announced = promises.agreement.items 0 0 0 5 correct correct body;
        accepted = body;
        opened = λ o co. subst (λ k. Opened events k 0 Release) (alone o co) (older (Opening 0 0 Release) 24 events (inl (refl, refl, refl)));
        forced = λ o co. subst (λ k. Forced events k 0 1 Release) (alone o co) (Some Release, older (Advancing 0 0 3 (Some Release) (Some Release)) 12 events (inl (refl, refl, refl, refl, refl)));
        only = λ o u co x. let y = subst (λ k. Forced events k 0 1 u) (sym (alone o co)) x in only u y.0 y.1;
        shown = λ o co. refl;
        ended = λ o co. subst (λ k. Ended events k 0 2) (alone o co) ((promises.recorded.ended 0 0 2 correct (omega arith)).1 (below, past));
        last = refl;
        decided = (promises.recorded.decided 0 0 correct below Release 1).0 refl;
      },
    )
