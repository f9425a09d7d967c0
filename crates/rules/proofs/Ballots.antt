-- The ballots that a process has accepted, in memory and as the machine of broadcasts has them;
-- case records that change.
use Rattle.std.proofs.Common.{◌≡◌, ℕ, suc, ◌<◌, Bool, true, false, cond, ◌&&◌, eqb, List, ◌∷◌, get_or, Some, None, Option, sym, refl, ◌∙◌, subst, arith, length-set, get_or-set_other, get_or-set_same}
use Rattle.std.proofs.lemmas.Bool.{both_ways, and_from, and_right, eq-eqb, ne_eqb, cond-true, cond-false}
use Rattle.protocol.specs.declared.messages.Subject.{Subject}
use Rattle.protocol.specs.declared.messages.Subject.TheVariants.{Ballot}
use Rattle.protocol.specs.declared.messages.Message.{Message}
use Rattle.protocol.specs.declared.votes.Side.{Side}
use Rattle.agreement.proofs.Bodies.{some_if}
use Rattle.plan.specs.Kinds.{Line}
use Rattle.memory.specs.Contents.{Held, silent, unopened, case_at, accepted_body}
use Rattle.memory.specs.Places.{enough, within, record_place, case_place}
use Rattle.memory.specs.declared.records.BroadcastRecord.{BroadcastRecord}
use Rattle.memory.specs.declared.records.Decision.{Decision}
use Rattle.memory.proofs.Grid.{laid}
use Rattle.memory.proofs.Sizes.{sizes}
use Rattle.consensus.specs.Validity.{Part}
use Rattle.ballots.specs.Places.{ballots_at}
use Rattle.agreement.specs.Records.{Rec}
use Rattle.agreement.specs.Runs.{State, after_telling}
use Rattle.rules.specs.Turns.{moved}
use Rattle.rules.specs.Runs.{Event, opened, advanced}
use Rattle.rules.proofs.Stages.{shown_accepted}
use Rattle.rules.proofs.Cases.{Tale, untold}
use Rattle.rules.proofs.Shows.{Keeps, as_large}

module _ (line : Line) where
  -- memory with the same broadcast records has the same ballots
  pub same_ballots : (h next : Held) → next.broadcasts ≡ h.broadcasts → (i c : ℕ) → Part (ballots_at line.plan h i c) (ballots_at line.plan next i c)
  unfolding ballots_at
  same_ballots h next e i c o r b x =
      subst (λ (rs : List BroadcastRecord). cond (within line.plan (Ballot o c (suc r))) (accepted_body (get_or rs (record_place line.plan i (Ballot o c (suc r))) silent).stage) None ≡ Some b) (sym e) x

  module _ (h : Held) (recs : ℕ → Subject → Rec) (keeps : (i : ℕ) (s : Subject) → i < line.plan.n → within line.plan s ≡ true → Keeps line h i s (recs i s)) (i c o r b : ℕ) (lt : i < line.plan.n) where
    pub ballot_accepted : ballots_at line.plan h i c o r ≡ Some b → (within line.plan (Ballot o c (suc r)) ≡ true) × ((recs i (Ballot o c (suc r))).accepted ≡ Some b)
    unfolding ballots_at
    ballot_accepted e =
        let x = some_if (within line.plan (Ballot o c (suc r))) _ b e in
        (x.0, sym (shown_accepted _ _ _ _ (keeps i (Ballot o c (suc r)) lt x.0).stage) ∙ x.1)

    pub accepted_ballot : within line.plan (Ballot o c (suc r)) ≡ true → (recs i (Ballot o c (suc r))).accepted ≡ Some b → ballots_at line.plan h i c o r ≡ Some b
    unfolding ballots_at
    accepted_ballot inside e = cond-true _ _ None inside ∙ shown_accepted _ _ _ _ (keeps i (Ballot o c (suc r)) lt inside).stage ∙ e

  -- the case record of process i is written
  module _ (h : Held) (large : enough line.plan h ≡ true) (i c round : ℕ) (decision : Option Decision) (lt : i < line.plan.n) (below : c < line.plan.cases) where
    abbrev later : Held
    later = moved line i c round decision h

    pub moved_here : case_at later (case_place line.plan i c) ≡ record { round = round; decision = decision; slip = (case_at h (case_place line.plan i c)).slip }
    moved_here =
        get_or-set_same h.cases (case_place line.plan i c) _ unopened (omega (arith, (sizes line.plan h large).cases, (laid line.plan).case_inside i c lt below))

    pub moved_other : (j d : ℕ) → d < line.plan.cases → (eqb j i && eqb d c) ≡ false → case_at later (case_place line.plan j d) ≡ case_at h (case_place line.plan j d)
    moved_other j d bound apart =
        get_or-set_other h.cases (case_place line.plan i c) (case_place line.plan j d) _ unopened (λ z.
        let same = (laid line.plan).case_apart j i d c bound below z in
        both_ways _ apart (and_from _ _ (eq-eqb j i same.0) (eq-eqb d c same.1)))

    pub moved_large : enough line.plan later ≡ true
    moved_large = as_large line.plan h later refl refl (length-set h.cases (case_place line.plan i c) _) refl large

-- a ballot that is told leaves what was said of other subjects
apart_subject : (a b e : Bool) → (a && b) ≡ false → (a && (b && e)) ≡ false
apart_subject true true e h = absurd (both_ways true h refl)
apart_subject true false e h = refl
apart_subject false b e h = refl

pub said_other : (i c k b : ℕ) (left : List Message) (st : State) (j d q : ℕ) → (eqb j i && eqb d c) ≡ false → (after_telling (Ballot i c k) b left st).said (Ballot j d q) ≡ st.said (Ballot j d q)
said_other i c k b left st j d q e = cond-false _ _ _ (apart_subject (eqb j i) (eqb d c) (eqb q k) e)

pub said_round : (i c k b : ℕ) (left : List Message) (st : State) (q : ℕ) → (q ≡ k → ⊥) → (after_telling (Ballot i c k) b left st).said (Ballot i c q) ≡ st.said (Ballot i c q)
said_round i c k b left st q apart = cond-false _ _ _ (and_right (eqb i i) _ (and_right (eqb c c) _ (ne_eqb q k apart)))

-- what is told of one case says nothing of another
module _ (i c j d : ℕ) (apart : (eqb j i && eqb d c) ≡ false) where
  elsewhere : i ≡ j → c ≡ d → ⊥
  elsewhere e f = both_ways _ apart (and_from _ _ (eq-eqb j i (sym e)) (eq-eqb d c (sym f)))

  pub opened_elsewhere : (v posted : ℕ) (es : List Event) → Tale es (opened i c v posted ∷ es) j d
  opened_elsewhere v posted es = untold (opened i c v posted) es j d (λ r f x z. z) (λ u z. elsewhere z.0 z.1) refl

  pub advanced_elsewhere : (q : ℕ) (f x : Option Side) (reached posted : ℕ) (es : List Event) → Tale es (advanced i c q f x reached posted ∷ es) j d
  advanced_elsewhere q f x reached posted es = untold (advanced i c q f x reached posted) es j d (λ r g y z. elsewhere z.0 z.1) (λ u z. z) (cond-false _ _ _ apart)
