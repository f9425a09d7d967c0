-- A message that reaches a correct process does in memory what it does in the machine of
-- broadcasts.
use Rattle.std.proofs.Common.{◌≡◌, ℕ, ◌+◌, ◌-◌, ◌<◌, ◌≤◌, true, false, ◌&&◌, eqb, ◌≢◌, ◌⊎◌, List, length, get_or, Some, None, Option, sym, refl, ap, ◌∙◌, subst, subst₂, inl, inr, ⊎_elim, arith, length-set, get_or-set_other, get_or-set_same}
use Rattle.std.proofs.lemmas.Bool.{both_ways, eqb-true, eq-eqb, and_parts, and_from, lt-ltb, cond-true, cond_both}
use Rattle.protocol.specs.Messages.{originator_of}
use Rattle.agreement.specs.Runs.{same_subject}
use Rattle.protocol.specs.declared.messages.Message.{Message}
use Rattle.protocol.specs.declared.messages.Step.{Step}
use Rattle.protocol.specs.declared.messages.Step.TheVariants.{Initial, Echo, Ready}
use Rattle.protocol.specs.declared.messages.Subject.{Subject}
use Rattle.plan.specs.Plans.{needs_of}
use Rattle.plan.specs.Sheet.{thresholds_of}
use Rattle.plan.specs.Kinds.{Line}
use Rattle.memory.specs.Contents.{Held, silent, stage_at}
use Rattle.memory.specs.Places.{enough, within, record_place, readies, record_places}
use Rattle.memory.specs.declared.records.BroadcastRecord.{BroadcastRecord}
use Rattle.memory.specs.declared.records.Stage.{Stage}
use Rattle.memory.specs.declared.records.Stage.TheVariants.{Silent, Echoed, Readied, Accepted}
use Rattle.memory.proofs.Grid.{laid}
use Rattle.memory.proofs.Sizes.{sizes}
use Rattle.broadcast.specs.Hearing.{listened, agreeing}
use Rattle.broadcast.specs.Receiving.{outcome, heard, handled, received}
use Rattle.broadcast.specs.Stages.{Turned, turn, put}
use Rattle.agreement.specs.Records as machine
use Rattle.agreement.specs.Records.{Rec}
use Rattle.agreement.specs.Runs.{records_after}
use Rattle.agreement.proofs.Waiting.{same_subject_true, subject_same}
use Rattle.rules.proofs.Rows.{heard_length, heard_elsewhere}
use Rattle.rules.proofs.Stages.{Shown, onward, Follows}
use Rattle.rules.proofs.Records.{world_of, Rows, rows_made, follows_made}
use Rattle.rules.proofs.Shows.{Keeps, as_large}

-- a stage that is put in its place
module _ (at : ℕ) (rs : List BroadcastRecord) where
  put_here : (o : Option Stage) → at < length rs → (get_or (put at o rs) at silent).stage ≡ onward o (get_or rs at silent).stage
  put_here None lt = refl
  put_here (Some x) lt = ap (λ (r : BroadcastRecord). r.stage) (get_or-set_same rs at (record { stage = x }) silent lt)

  put_elsewhere : (o : Option Stage) (k : ℕ) → k ≢ at → get_or (put at o rs) k silent ≡ get_or rs k silent
  put_elsewhere None k apart = refl
  put_elsewhere (Some x) k apart = get_or-set_other rs at k (record { stage = x }) silent apart

  put_length : (o : Option Stage) → length (put at o rs) ≡ length rs
  put_length None = refl
  put_length (Some x) = length-set rs at (record { stage = x })

module _ (line : Line) (m : Message) (known : m.sender < line.plan.n) where
  -- a record that the message is not for keeps what was heard, and how much there is stays
  listened_elsewhere : (step : Step) (q k : ℕ) → k ≢ q → (xs : List (Option ℕ)) (f g : ℕ → Option ℕ) → Rows line k xs f g → Rows line k (listened (record_places line.plan q) m step xs) f g
  listened_elsewhere Initial q k apart xs f g rows = rows
  listened_elsewhere Echo q k apart xs f g rows = record {
    echo = λ j lt. heard_elsewhere xs _ m.body _ (λ z. apart ((laid line.plan).echo_apart k q j m.sender lt known z).0) ∙ rows.echo j lt;
    ready = λ j lt. heard_elsewhere xs _ m.body _ (λ z. (laid line.plan).steps_apart q k m.sender j known lt (sym z)) ∙ rows.ready j lt;
  }
  listened_elsewhere Ready q k apart xs f g rows = record {
    echo = λ j lt. heard_elsewhere xs _ m.body _ (λ z. (laid line.plan).steps_apart k q j m.sender lt known z) ∙ rows.echo j lt;
    ready = λ j lt. heard_elsewhere xs _ m.body _ (λ z. apart ((laid line.plan).ready_apart k q j m.sender lt known z).0) ∙ rows.ready j lt;
  }

  heard_rows : (x : Stage) (q k : ℕ) → k ≢ q → (xs : List (Option ℕ)) (f g : ℕ → Option ℕ) → Rows line k xs f g → Rows line k (heard (record_places line.plan q) m x xs) f g
  heard_rows Silent q k apart xs f g rows = listened_elsewhere m.step q k apart xs f g rows
  heard_rows Echoed q k apart xs f g rows = listened_elsewhere m.step q k apart xs f g rows
  heard_rows Readied q k apart xs f g rows = listened_elsewhere m.step q k apart xs f g rows
  heard_rows (Accepted b) q k apart xs f g rows = rows

listened_length : (line : Line) (m : Message) (step : Step) (q : ℕ) (xs : List (Option ℕ)) → length (listened (record_places line.plan q) m step xs) ≡ length xs
listened_length line m Initial q xs = refl
listened_length line m Echo q xs = heard_length xs _ m.body
listened_length line m Ready q xs = heard_length xs _ m.body

all_heard : (line : Line) (m : Message) (x : Stage) (q : ℕ) (xs : List (Option ℕ)) → length (heard (record_places line.plan q) m x xs) ≡ length xs
all_heard line m Silent q xs = listened_length line m m.step q xs
all_heard line m Echoed q xs = listened_length line m m.step q xs
all_heard line m Readied q xs = listened_length line m m.step q xs
all_heard line m (Accepted b) q xs = refl

module _ (line : Line) (h : Held) (large : enough line.plan h ≡ true) (m : Message) (to : m.addressee < line.plan.n) (known : m.sender < line.plan.n) (inside : within line.plan m.subject ≡ true) where
  abbrev q : ℕ
  q = record_place line.plan m.addressee m.subject

  abbrev stage : Stage
  stage = stage_at h q

  abbrev bodies : List (Option ℕ)
  bodies = heard (record_places line.plan q) m stage h.bodies

  abbrev pub turned : Turned
  turned = turn (thresholds_of line.plan.n line.plan.t) m (agreeing line.plan.n (record_places line.plan q) m m.step bodies) stage

  abbrev pub landed : Held
  landed = record { broadcasts = put q turned.next h.broadcasts; bodies = bodies; cases = h.cases; serials = h.serials }

  pub received_is : received line.plan m.addressee m h ≡ outcome landed turned.reaction
  unfolding handled
  received_is = cond-true _ _ _ (and_from _ _ (lt-ltb _ _ known) (and_from _ _ large (and_from _ _ (lt-ltb _ _ to) inside)))

  q_inside : q < (needs_of line.plan).broadcast_records
  q_inside = (laid line.plan).inside m.addressee m.subject to inside

  pub landed_large : enough line.plan landed ≡ true
  landed_large = as_large line.plan h landed (put_length q h.broadcasts turned.next) (all_heard line m stage q h.bodies) refl refl large

  -- what the machine makes of a record
  abbrev pub made : (u : Subject) → Rec → Rec
  made u r = machine.handle (world_of line) (originator_of u) m.step m.sender m.body r

  module _ (recs : ℕ → Subject → Rec) (keeps : (j : ℕ) (u : Subject) → j < line.plan.n → within line.plan u ≡ true → Keeps line h j u (recs j u)) where
    abbrev old : Rec
    old = recs m.addressee m.subject

    fits : readies line.plan q + line.plan.n ≤ length h.bodies
    fits =
        let size = sizes line.plan h large in
        omega (arith, size.bodies, (laid line.plan).ready_inside q (line.plan.n - 1) q_inside (omega (arith, line.plan.tolerated)))

    pub follows : Follows line.plan.n m turned stage old.echoed old.readied old.accepted (made m.subject old).echoed (made m.subject old).readied (made m.subject old).accepted
    follows =
        let k = keeps m.addressee m.subject to inside in
        follows_made line q h.bodies fits m known old.echo old.ready k.rows stage old.echoed old.readied old.accepted k.stage

    keeps_here : Keeps line landed m.addressee m.subject (made m.subject old)
    keeps_here =
        let k = keeps m.addressee m.subject to inside in
        let size = sizes line.plan h large in
        let at : q < length h.broadcasts = omega (arith, size.broadcasts, q_inside) in
        record {
          stage = subst (λ x. Shown x (made m.subject old).echoed (made m.subject old).readied (made m.subject old).accepted) (sym (put_here q h.broadcasts turned.next at)) follows.shown;
          rows = rows_made line q h.bodies fits m known old.echo old.ready k.rows stage old.echoed old.readied old.accepted k.stage;
        }

    keeps_elsewhere : (j : ℕ) (u : Subject) → j < line.plan.n → within line.plan u ≡ true → record_place line.plan j u ≢ q → Keeps line landed j u (recs j u)
    keeps_elsewhere j u lt within_u apart =
        let k = keeps j u lt within_u in
        record {
          stage = subst (λ x. Shown x (recs j u).echoed (recs j u).readied (recs j u).accepted) (sym (ap (λ (r : BroadcastRecord). r.stage) (put_elsewhere q h.broadcasts turned.next (record_place line.plan j u) apart))) k.stage;
          rows = heard_rows line m known stage q (record_place line.plan j u) apart h.bodies (recs j u).echo (recs j u).ready k.rows;
        }

    pub keeps_landed : (j : ℕ) (u : Subject) → j < line.plan.n → within line.plan u ≡ true → Keeps line landed j u (records_after (world_of line) m recs j u)
    keeps_landed j u lt within_u =
        cond_both (eqb j m.addressee && same_subject u m.subject) (made u (recs j u)) (recs j u) (Keeps line landed j u) here there
      where
        here : (eqb j m.addressee && same_subject u m.subject) ≡ true → Keeps line landed j u (made u (recs j u))
        here e =
            let both = and_parts _ _ e in
            subst₂ (λ k v. Keeps line landed k v (made v (recs k v))) (sym (eqb-true _ _ both.0)) (sym (same_subject_true u m.subject both.1)) keeps_here

        there : (eqb j m.addressee && same_subject u m.subject) ≡ false → Keeps line landed j u (recs j u)
        there e = keeps_elsewhere j u lt within_u (λ z.
            let same = (laid line.plan).apart j m.addressee u m.subject lt to within_u inside z in
            both_ways _ e (and_from _ _ (eq-eqb _ _ same.0) (subst (λ v. same_subject u v ≡ true) same.1 (subject_same u))))

    pub here_is : records_after (world_of line) m recs m.addressee m.subject ≡ made m.subject old
    here_is = cond-true _ _ _ (and_from _ _ (eq-eqb m.addressee m.addressee refl) (subject_same m.subject))

    -- what the machine has as accepted, and what the turn answers
    pub accepts : turned.reaction.accepted ≡ true → (records_after (world_of line) m recs m.addressee m.subject).accepted ≡ Some m.body
    accepts e = ap (λ (r : Rec). r.accepted) here_is ∙ follows.accepts e

    pub from : (j : ℕ) (u : Subject) (b : ℕ) → (records_after (world_of line) m recs j u).accepted ≡ Some b → ((recs j u).accepted ≡ Some b) ⊎ ((turned.reaction.accepted ≡ true) × (m.addressee ≡ j) × (m.subject ≡ u) × (m.body ≡ b))
    from j u b = cond_both (eqb j m.addressee && same_subject u m.subject) (made u (recs j u)) (recs j u) (λ r. r.accepted ≡ Some b → ((recs j u).accepted ≡ Some b) ⊎ ((turned.reaction.accepted ≡ true) × (m.addressee ≡ j) × (m.subject ≡ u) × (m.body ≡ b))) here (λ e x. inl x)
      where
        here : (eqb j m.addressee && same_subject u m.subject) ≡ true → (made u (recs j u)).accepted ≡ Some b → ((recs j u).accepted ≡ Some b) ⊎ ((turned.reaction.accepted ≡ true) × (m.addressee ≡ j) × (m.subject ≡ u) × (m.body ≡ b))
        here e =
            let both = and_parts _ _ e in
            subst₂ (λ k v. (made v (recs k v)).accepted ≡ Some b → ((recs k v).accepted ≡ Some b) ⊎ ((turned.reaction.accepted ≡ true) × (m.addressee ≡ k) × (m.subject ≡ v) × (m.body ≡ b)))
            (sym (eqb-true _ _ both.0)) (sym (same_subject_true u m.subject both.1))
            (λ x. ⊎_elim inl (λ y. inr (y.0, refl, refl, y.1)) (follows.from b x))
