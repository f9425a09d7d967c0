-- A run of four processes, one of them faulty, from a forgery to rest: an item and a case.
use Rattle.std.proofs.Common.{◌≡◌, ℕ, zero, suc, ◌*◌, ◌<◌, ◌≤◌, Bool, true, false, not, ◌&&◌, ◌||◌, eqb, List, [], ◌∷◌, replicate, Some, None, Option, refl, sym, ap, ◌∙◌, subst, true≢false, inl, inr, ⊎_elim, arith}
use Rattle.std.specs.Prelude.{count_ones}
use Rattle.std.proofs.lemmas.Bool.{leb-true, and_parts, eqb-true}
use lib.Count.{ones}
use Rattle.protocol.specs.Bags.{count}
use Rattle.protocol.proofs.Bags.{count_none}
use Rattle.protocol.specs.Counting.{below}
use Rattle.protocol.specs.Messages.{message}
use Rattle.protocol.specs.Numbers.{ballot_number, vote}
use Rattle.protocol.specs.Sending.{to_all}
use Rattle.protocol.specs.declared.messages.Message.{Message}
use Rattle.protocol.specs.declared.messages.Subject.TheVariants.{Item}
use Rattle.protocol.specs.declared.votes.Side.{Side}
use Rattle.protocol.specs.declared.votes.Side.TheVariants.{Release, Keep}
use Rattle.plan.specs.declared.plans.Plan.{Plan}
use Rattle.plan.specs.Kinds.{Line}
use Rattle.plan.specs.Marks.{marked}
use Rattle.memory.specs.Contents.{Held, silent, unopened, wiped, case_at}
use Rattle.memory.specs.Places.{body_at, case_place}
use Rattle.memory.specs.declared.records.Decision.{Decision}
use Rattle.broadcast.specs.Receiving.{handled}
use Rattle.ballots.specs.Places.{ballots_at}
use Rattle.ballots.specs.Votes as ballots
use Rattle.consensus.specs.Rounds.{tally}
use Rattle.consensus.specs.Validity.{lowest}
use Rattle.cases.specs.Steps.{round_at, step_by}
use Rattle.rules.specs.Turns.{Turn, Announce, Open, Forge, Advance, Coin}
use Rattle.rules.specs.Runs.{Event, refused, announced, opened, forged, delivered, advanced, Run, begun, Told, Opening, Advancing, Accepted, Opened, Ended, Forced}
use Rattle.rules.specs.Promises.{Correct, Stuck, Promises, Happening}
use Rattle.rules.specs.Withstood.{Forging, Arriving, false_echo, Withstood}
use Rattle.rules.proofs.Draining.{Standing, Stands, drained}
use Rattle.rules.proofs.Playing.{played, plays, carries, first_tells}
use Rattle.rules.proofs.Theorem.{kept}

abbrev plan : Plan
plan = record { n = 4; t = 1; serials = 1; cases = 1; phases = 2; few = omega arith; tolerated = omega arith; numbered = omega arith; listed = omega arith; first = omega arith; last = omega arith }

one_marked : count_ones 8 ≤ 1
unfolding ones
one_marked = leb-true (count_ones 8) 1 refl

abbrev line : Line
line = record { plan = plan; marks = 8; state = record {}; few = one_marked; inside = omega arith }

abbrev coin : Coin
coin process case phase = Release

-- memory in which nothing was heard
abbrev memory : Held
memory = record { broadcasts = replicate 112 silent; bodies = replicate 896 None; cases = replicate 4 unopened; serials = replicate 4 0 }

abbrev start : Standing
start = record { events = []; held = memory; waiting = [] }

begins : Stands line 32 coin start
unfolding wiped
begins = begun memory refl

-- each correct process makes this turn
abbrev all : (ℕ → Turn) → List Turn → List Turn
all turn turns = turn 0 ∷ turn 1 ∷ turn 2 ∷ turns

abbrev advance : List Turn → List Turn
advance turns = all (λ i. Advance i 0) turns

-- the turns after the lie
abbrev others : List Turn
others = Announce 0 5 ∷ all (λ i. Open i 0 1) (advance (advance (advance (advance (advance (advance []))))))

-- the faulty process lies before anything is announced
abbrev turns : List Turn
turns = Forge false_echo ∷ others

-- 28 messages are sent in each broadcast
abbrev end : Standing
end = plays line 32 28 coin turns start

-- a vote is for release, and the third round of the first phase forces it
abbrev releases : Option Side → Bool
releases (Some Release) = true
releases _ = false

abbrev fits : Event → Bool
fits (opened i c v posted) = eqb v 1
fits (advanced i c r forced decides reached posted) = not (eqb r 3) || releases forced
fits _ = true

unfoldable all_fit : List Event → Bool
all_fit [] = true
all_fit (e ∷ es) = fits e && all_fit es

-- what a process has in the end
record Mine : Type 0 where
  body : Option ℕ
  round : ℕ
  decision : Option Decision

abbrev mine : Standing → ℕ → Mine
mine s i = record {
  body = body_at plan s.held i (Item 0 0);
  round = round_at plan s.held i 0;
  decision = (case_at s.held (case_place plan i 0)).decision;
}

record Seen : Type 0 where
  waiting : List Message
  fit : Bool
  zeroth : Mine
  first : Mine
  second : Mine

abbrev seen : Standing → Seen
seen s = record { waiting = s.waiting; fit = all_fit s.events; zeroth = mine s 0; first = mine s 1; second = mine s 2 }

abbrev done : Mine
done = record { body = Some 5; round = 7; decision = Some (record { side = Release; phase = 1 }) }

computed : seen end ≡ record { waiting = []; fit = true; zeroth = done; first = done; second = done }
unfolding plays drained all_fit to_all marked message handled below count step_by tally lowest ballots_at ballots.valid_by_counting ballots.allowed_after
computed = refl

run : Run line 32 coin end.events end.held []
run = subst (λ ws. Run line 32 coin end.events end.held ws) (ap (λ (x : Seen). x.waiting) computed) (carries line 32 28 coin turns start begins)

liar : marked 8 3 ≡ true
unfolding marked
liar = refl

correct : (i : ℕ) → i < 3 → Correct line i
unfolding marked
correct zero lt = (omega arith, refl)
correct (suc zero) lt = (omega arith, refl)
correct (suc (suc zero)) lt = (omega arith, refl)
correct (suc (suc (suc i))) lt = absurd (omega (arith, lt))

finishes : (i : ℕ) → Correct line i → mine end i ≡ done
finishes zero ci = ap (λ (x : Seen). x.zeroth) computed
finishes (suc zero) ci = ap (λ (x : Seen). x.first) computed
finishes (suc (suc zero)) ci = ap (λ (x : Seen). x.second) computed
finishes (suc (suc (suc zero))) ci = absurd (true≢false (sym liar ∙ ci.1))
finishes (suc (suc (suc (suc i)))) ci = absurd (omega (arith, ci.0))

reached : (i : ℕ) → Correct line i → round_at plan end.held i 0 ≡ 7
reached i ci = ap (λ (x : Mine). x.round) (finishes i ci)

ended : (i c : ℕ) → Correct line i → c < 1 → Stuck line end.held i c
ended i zero ci lt r S at early full = omega (arith, reached i ci, at, early)
ended i (suc c) ci lt r S at early full = absurd (omega (arith, lt))

-- what follows of each event that is told
told_fits : (P : Event → Type 0) (Q : Type 0) → ((e : Event) → fits e ≡ true → P e → Q) → (es : List Event) → all_fit es ≡ true → Told P es → Q
unfolding all_fit
told_fits P Q f [] h t = absurd t
told_fits P Q f (e ∷ es) h t = let both = and_parts (fits e) (all_fit es) h in ⊎_elim (f e both.0) (told_fits P Q f es both.1) t

fit : all_fit end.events ≡ true
fit = ap (λ (x : Seen). x.fit) computed

vote_released : (v : Side) (w : ℕ) → eqb w 1 ≡ true → w ≡ ballot_number (vote v) → v ≡ Release
vote_released Release w h e = refl
vote_released Keep w h e = absurd (omega (arith, eqb-true w 1 h, e))

opening_released : (o : ℕ) (v : Side) (e : Event) → fits e ≡ true → Opening o 0 v e → v ≡ Release
opening_released o v (refused turn e) h z = absurd z
opening_released o v (announced j b k posted) h z = absurd z
opening_released o v (opened j d w posted) h z = vote_released v w h z.2
opening_released o v (forged m posted) h z = absurd z
opening_released o v (delivered j pick m posted accepted) h z = absurd z
opening_released o v (advanced j d q g y reached posted) h z = absurd z

side_released : (g : Option Side) (r : ℕ) → (not (eqb r 3) || releases g) ≡ true → r ≡ 3 → g ≡ Some Release
side_released (Some Release) r h e = refl
side_released (Some Keep) r h e = absurd (true≢false (sym (subst (λ k. (not (eqb k 3) || false) ≡ true) e h)))
side_released None r h e = absurd (true≢false (sym (subst (λ k. (not (eqb k 3) || false) ≡ true) e h)))

advancing_released : (o : ℕ) (f x : Option Side) (e : Event) → fits e ≡ true → Advancing o 0 3 f x e → f ≡ Some Release
advancing_released o f x (refused turn e) h z = absurd z
advancing_released o f x (announced j b k posted) h z = absurd z
advancing_released o f x (opened j d w posted) h z = absurd z
advancing_released o f x (forged m posted) h z = absurd z
advancing_released o f x (delivered j pick m posted accepted) h z = absurd z
advancing_released o f x (advanced j d q g y reached posted) h z = sym z.3 ∙ side_released g q h z.2

some_side : (u : Side) → ◌≡◌ {A = Option Side} (Some u) (Some Release) → u ≡ Release
some_side u e = cc

promises : Promises line coin end.events end.held []
promises = kept line 32 coin end.events end.held [] run

accepts : (i : ℕ) → Correct line i → Accepted end.events i (Item 0 0) 5
accepts i ci = promises.recorded.only (Item 0 0) i 5 ci refl (ap (λ (x : Mine). x.body) (finishes i ci))

ends : (k : ℕ) → 1 ≤ k → k ≤ 2 → (i : ℕ) → Correct line i → Ended end.events i 0 k
ends k first last i ci = let here : 0 < 1 = omega arith in let past : 3 * k < round_at plan end.held i 0 = omega (arith, reached i ci, last) in (promises.recorded.ended i 0 k ci first).1 (here, past)

opens : (i : ℕ) → Correct line i → Opened end.events i 0 Release
opens i ci =
    let here : 0 < 1 = omega arith in
    let past : 0 < round_at plan end.held i 0 = omega (arith, reached i ci) in
    let t = (promises.recorded.opened i 0 ci).1 (here, past) in
    subst (λ v. Opened end.events i 0 v) (told_fits (Opening i 0 t.0) _ (opening_released i t.0) end.events fit t.1) t.1

forces : (i : ℕ) → Correct line i → Forced end.events i 0 1 Release
forces i ci =
    let t = ends 1 (omega arith) (omega arith) i ci in
    (t.1, subst (λ f. Told (Advancing i 0 3 f t.1) end.events) (told_fits (Advancing i 0 3 t.0 t.1) _ (advancing_released i t.0 t.1) end.events fit t.2) t.2)

happening : Happening line 32 coin end.events end.held
happening = record {
  run = run;
  rest = record { quiet = λ i ci. count_none _; stuck = ended };
  correct = honest;
  announced = promises.agreement.items 0 0 0 5 honest honest (accepts 0 honest);
  accepted = accepts 0 honest;
  opened = opens;
  forced = forces;
  only = λ o u co t. some_side u (told_fits (Advancing o 0 3 (Some u) t.0) _ (advancing_released o (Some u) t.0) end.events fit t.1);
  shown = λ o co. refl;
  ended = λ o co. ends 2 (omega arith) (omega arith) o co;
  last = refl;
  decided = (promises.recorded.decided 0 0 honest (omega arith) Release 1).0 (ap (λ (x : Mine). x.decision) (finishes 0 honest));
}
  where
    honest : Correct line 0
    honest = correct 0 (omega arith)

-- where the faulty process has lied
abbrev misled : Standing
misled = played line 32 28 coin (Forge false_echo) start

lied : Told (Forging false_echo) misled.events
unfolding drained to_all marked message handled below count
lied = inr (inl refl)

arrived : Told (Arriving false_echo) misled.events
unfolding drained to_all marked message handled below count
arrived = inl refl

stands : (P : Event → Type 0) → Told P misled.events → Told P end.events
stands P t = first_tells line 32 28 coin P (Forge false_echo) others start t

pub withstands : (line : Line) × (coin : Coin) × (es : List Event) × (h : Held) × Withstood 4 1 line 32 coin es h
withstands = (
  line,
  coin,
  end.events,
  end.held,
  record {
    processes = refl;
    tolerated = refl;
    liar = liar;
    correct = correct;
    happening = happening;
    lied = stands (Forging false_echo) lied;
    arrived = stands (Arriving false_echo) arrived;
    accepted = accepts;
  },
)
