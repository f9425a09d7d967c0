-- What a message makes of the record that a process keeps of a subject, in memory and in the
-- machine of broadcasts.
use Rattle.std.proofs.Common.{◌≡◌, ℕ, ◌+◌, ◌<◌, ◌≤◌, false, eqb, leb, List, length, get_or, Some, None, Option, sym, refl, ap, ◌∙◌, subst, inl, arith}
use Rattle.std.proofs.lemmas.Bool.{both_ways, leb-true, le-leb}
use Rattle.protocol.specs.Heard.{has}
use Rattle.protocol.specs.Messages.{originator_of}
use Rattle.protocol.specs.declared.messages.Message.{Message}
use Rattle.protocol.specs.declared.messages.Step.{Step}
use Rattle.protocol.specs.declared.messages.Step.TheVariants.{Initial, Echo, Ready}
use Rattle.protocol.proofs.Counting.{below_alike}
use Rattle.plan.specs.Sheet.{thresholds_of}
use Rattle.plan.specs.Kinds.{Line}
use Rattle.memory.specs.Places.{echoes, readies, record_places}
use Rattle.memory.specs.declared.records.Stage.{Stage}
use Rattle.memory.specs.declared.records.Stage.TheVariants.{Silent, Echoed, Readied}
use Rattle.memory.proofs.Grid.{laid}
use Rattle.broadcast.specs.Hearing.{count_saying, listened, agreeing}
use Rattle.broadcast.specs.Receiving.{heard}
use Rattle.broadcast.specs.Stages.{turn, by_step, made_ready, on_ready}
use Rattle.agreement.specs.Worlds.{World, counted}
use Rattle.agreement.specs.Records as machine
use Rattle.agreement.specs.Records.{Rec, when, support}
use Rattle.agreement.specs.Runs.{spread}
use Rattle.rules.specs.Turns.{faulty}
use Rattle.rules.proofs.Rows.{heard_row, heard_elsewhere}
use Rattle.rules.proofs.Stages.{Shown, silent, echoed, readied, accepted, Follows, initial_follows, echo_follows, ready_follows}

-- the line as a world of processes
abbrev pub world_of : Line → World
world_of line =
    let limits = thresholds_of line.plan.n line.plan.t in
    counted line.plan.n line.plan.t limits.echo limits.ready limits.accept (faulty line)

-- the places of record q hold what f and g say was heard
pub record Rows (line : Line) (q : ℕ) (xs : List (Option ℕ)) (f g : ℕ → Option ℕ) : Type 0 where
  pub echo : (j : ℕ) → j < line.plan.n → get_or xs (echoes line.plan q + j) None ≡ f j
  pub ready : (j : ℕ) → j < line.plan.n → get_or xs (readies line.plan q + j) None ≡ g j

module _ (line : Line) (q : ℕ) (xs : List (Option ℕ)) (fits : readies line.plan q + line.plan.n ≤ length xs) (m : Message) (known : m.sender < line.plan.n) where
  abbrev next : Step → Option ℕ → Option ℕ → Option ℕ → (ℕ → Option ℕ) → (ℕ → Option ℕ) → Rec
  next step e r a f g =
      machine.receive (world_of line) (originator_of m.subject) step m.sender m.body (record { echoed = e; readied = r; accepted = a; echo = f; ready = g })

  module _ (f g : ℕ → Option ℕ) (rows : Rows line q xs f g) where
    rows_next : (step : Step) (e r a : Option ℕ) → Rows line q (listened (record_places line.plan q) m step xs) (next step e r a f g).echo (next step e r a f g).ready
    rows_next Initial e r a = rows
    rows_next Echo e r a = record {
      echo = λ j lt. heard_row xs (echoes line.plan q) m.sender m.body f j (omega arith) (rows.echo j lt);
      ready = λ j lt. heard_elsewhere xs (echoes line.plan q + m.sender) m.body _ (λ z. (laid line.plan).steps_apart q q m.sender j known lt (sym z)) ∙ rows.ready j lt;
    }
    rows_next Ready e r a = record {
      echo = λ j lt. heard_elsewhere xs (readies line.plan q + m.sender) m.body _ (λ z. (laid line.plan).steps_apart q q j m.sender lt known z) ∙ rows.echo j lt;
      ready = λ j lt. heard_row xs (readies line.plan q) m.sender m.body g j (omega arith) (rows.ready j lt);
    }

    -- who is counted in memory is who supports the body
    counts : (from b : ℕ) (ys : List (Option ℕ)) (k : ℕ → Option ℕ) → ((j : ℕ) → j < line.plan.n → get_or ys (from + j) None ≡ k j) → support (world_of line) k b ≡ count_saying line.plan.n from b ys
    unfolding support
    counts from b ys k row = below_alike line.plan.n _ _ (λ j lt. ap (λ o. has o b) (sym (row j lt)))

    by_steps : (step : Step) (x : Stage) (e r : Option ℕ) → Shown x e r None → Follows line.plan.n m (by_step (thresholds_of line.plan.n line.plan.t) m (agreeing line.plan.n (record_places line.plan q) m step (listened (record_places line.plan q) m step xs)) x step) x e r None (next step e r None f g).echoed (next step e r None f g).readied (next step e r None f g).accepted
    by_steps Initial x e r s = initial_follows line.plan.n m (eqb m.sender (originator_of m.subject)) x e r s
    by_steps Echo x e r s =
        let n = line.plan.n in
        let limit = (thresholds_of n line.plan.t).echo in
        let ys = listened (record_places line.plan q) m Echo xs in
        let c = count_saying n (echoes line.plan q) m.body ys in
        subst (λ (y : ℕ). Follows n m (made_ready (leb limit c) x) x e r None (when (leb limit y) e m.body) (when (leb limit y) r m.body) None)
        (sym (counts (echoes line.plan q) m.body ys _ (rows_next Echo e r None).echo))
        (echo_follows n m (leb limit c) x e r s)
    by_steps Ready x e r s =
        let n = line.plan.n in
        let limits = thresholds_of n line.plan.t in
        let ys = listened (record_places line.plan q) m Ready xs in
        let c = count_saying n (readies line.plan q) m.body ys in
        subst (λ (y : ℕ). Follows n m (on_ready (leb limits.ready c) (leb limits.accept c) m.body x) x e r None (when (leb limits.ready y) e m.body) (when (leb limits.ready y) r m.body) (when (leb limits.accept y) None m.body))
        (sym (counts (readies line.plan q) m.body ys _ (rows_next Ready e r None).ready))
        (ready_follows n m (leb limits.ready c) (leb limits.accept c) x e r (λ h. le-leb limits.ready c (omega (arith, leb-true limits.accept c h))) s)

    -- what the machine makes of a record
    abbrev made : Option ℕ → Option ℕ → Option ℕ → Rec
    made e r a =
        machine.handle (world_of line) (originator_of m.subject) m.step m.sender m.body (record { echoed = e; readied = r; accepted = a; echo = f; ready = g })

    pub rows_made : (x : Stage) (e r a : Option ℕ) → Shown x e r a → Rows line q (heard (record_places line.plan q) m x xs) (made e r a).echo (made e r a).ready
    unfolding machine.handle
    rows_made _ _ _ _ silent = rows_next m.step None None None
    rows_made _ _ _ _ (echoed b) = rows_next m.step (Some b) None None
    rows_made _ _ _ _ (readied b c) = rows_next m.step (Some b) (Some c) None
    rows_made _ _ _ _ (accepted b c d) = rows

    pub follows_made : (x : Stage) (e r a : Option ℕ) → Shown x e r a → Follows line.plan.n m (turn (thresholds_of line.plan.n line.plan.t) m (agreeing line.plan.n (record_places line.plan q) m m.step (heard (record_places line.plan q) m x xs)) x) x e r a (made e r a).echoed (made e r a).readied (made e r a).accepted
    unfolding machine.handle spread
    follows_made _ _ _ _ silent = by_steps m.step Silent None None silent
    follows_made _ _ _ _ (echoed b) = by_steps m.step Echoed (Some b) None (echoed b)
    follows_made _ _ _ _ (readied b c) = by_steps m.step Readied (Some b) (Some c) (readied b c)
    follows_made _ _ _ _ (accepted b c d) = record { shown = accepted b c d; sent = refl; accepts = λ h. absurd (both_ways false refl h); from = λ k h. inl h }
