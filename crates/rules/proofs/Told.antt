-- The first decision: what events tell of it, and what memory keeps by adding up events one by one.
use Rattle.std.proofs.Common.{◌≡◌, ℕ, ◌*◌, ◌/◌, ◌<◌, ◌≤◌, Bool, true, false, cond, ◌&&◌, eqb, List, [], ◌∷◌, Some, None, Option, sym, refl, ap, ◌∙◌, subst, inl, inr, ⊎_elim, arith}
use Rattle.std.proofs.lemmas.Bool.{and_parts, and_from, eqb-true, eq-eqb, cond-true}
use Rattle.protocol.specs.declared.votes.Side.{Side}
use Rattle.memory.specs.declared.records.Decision.{Decision}
use Rattle.rules.specs.Turns.{decision_after}
use Rattle.rules.specs.Runs.{Event, refused, announced, opened, forged, delivered, advanced, Told, Advancing, DecidingAny, FirstTold, Decided}

-- what an event decides for process i in case c, if no decision stands
abbrev pub deciding : ℕ → ℕ → Event → Option Decision → Option Decision
deciding i c (advanced j d r forced decides reached posted) before = cond (eqb i j && eqb c d) (decision_after before decides (r / 3)) before
deciding i c _ before = before

-- the decision of process i in case c that stands after these events
abbrev pub decision_of : List Event → ℕ → ℕ → Option Decision
decision_of [] i c = None
decision_of (e ∷ es) i c = deciding i c e (decision_of es i c)

no_decision : (d : Decision) → ◌≡◌ {A = Option Decision} None (Some d) → ⊥
no_decision d e = cc

-- process i decided v in some round of case c
abbrev pub Tells : List Event → ℕ → ℕ → Side → Type 0
Tells es i c v = (r : ℕ) × (f : Option Side) × Told (Advancing i c r f (Some v)) es

-- and the first such advance made the decision d
abbrev pub TellsOf : List Event → ℕ → ℕ → Decision → Type 0
TellsOf es i c d = (r : ℕ) × (f : Option Side) × FirstTold (Advancing i c r f (Some d.side)) (DecidingAny i c) es × (d.phase ≡ r / 3)

pub first_is_told : (P Q : Event → Type 0) (es : List Event) → FirstTold P Q es → Told P es
first_is_told P Q [] t = absurd t
first_is_told P Q (e ∷ es) t = ⊎_elim (λ z. inl z.0) (λ z. inr (first_is_told P Q es z)) t

module _ (i c : ℕ) where
  -- once an advance decides, a decision stands
  abbrev Stands : List Event → Type 0
  Stands es = (d : Decision) × (decision_of es i c ≡ Some d)

  settled_stands : (o : Option Decision) (v : Side) (k : ℕ) → (d : Decision) × (decision_after o (Some v) k ≡ Some d)
  settled_stands None v k = (_, refl)
  settled_stands (Some d) v k = (d, refl)

  still : (b : Bool) (o : Option Decision) (x : Option Side) (k : ℕ) (d : Decision) → o ≡ Some d → cond b (decision_after o x k) o ≡ Some d
  still false o x k d e = e
  still true None x k d e = absurd (no_decision d e)
  still true (Some old) x k d e = e

  pub decision_stands : (es : List Event) (r : ℕ) (f : Option Side) (v : Side) → Told (Advancing i c r f (Some v)) es → Stands es
  decision_stands [] r f v t = absurd t
  decision_stands (refused turn e ∷ es) r f v t = ⊎_elim (λ z. absurd z) (decision_stands es r f v) t
  decision_stands (announced j b l posted ∷ es) r f v t = ⊎_elim (λ z. absurd z) (decision_stands es r f v) t
  decision_stands (opened j k u posted ∷ es) r f v t = ⊎_elim (λ z. absurd z) (decision_stands es r f v) t
  decision_stands (forged m posted ∷ es) r f v t = ⊎_elim (λ z. absurd z) (decision_stands es r f v) t
  decision_stands (delivered j pick m posted accepted ∷ es) r f v t = ⊎_elim (λ z. absurd z) (decision_stands es r f v) t
  decision_stands (advanced j k q g x reached posted ∷ es) r f v t =
      ⊎_elim (λ z.
      let s = settled_stands (decision_of es i c) v (q / 3) in
      (s.0, cond-true _ _ _ (and_from _ _ (eq-eqb i j (sym z.0)) (eq-eqb c k (sym z.1))) ∙ ap (λ o. decision_after (decision_of es i c) o (q / 3)) z.4 ∙ s.1))
      (λ z. let s = decision_stands es r f v z in (s.0, still (eqb i j && eqb c k) (decision_of es i c) x (q / 3) s.0 s.1)) t

  some_side : (es : List Event) → Told (DecidingAny i c) es → (v : Side) × Tells es i c v
  some_side [] t = absurd t
  some_side (e ∷ es) t = ⊎_elim (λ z. (z.2, (z.0, z.1, inl z.3))) (λ z. let y = some_side es z in (y.0, (y.1.0, y.1.1, inr y.1.2))) t

  any_side : (r : ℕ) (f : Option Side) (v : Side) (es : List Event) → Told (Advancing i c r f (Some v)) es → Told (DecidingAny i c) es
  any_side r f v [] t = absurd t
  any_side r f v (e ∷ es) t = ⊎_elim (λ z. inl (r, f, v, z)) (λ z. inr (any_side r f v es z)) t

  -- where no decision stands no event decides, and the other way round
  none_told : (es : List Event) → decision_of es i c ≡ None → Told (DecidingAny i c) es → ⊥
  none_told es e t =
      let v = some_side es t in
      let s = decision_stands es v.1.0 v.1.1 v.0 v.1.2 in
      no_decision s.0 (sym e ∙ s.1)

  -- the decision that stands was made by the first advance that decides
  module _ (es : List Event) (d : Decision) (before : decision_of es i c ≡ Some d → TellsOf es i c d) (j k r : ℕ) (f x : Option Side) (reached posted : ℕ) where
    newest : (b : Bool) → (eqb i j && eqb c k) ≡ b → (o : Option Decision) → decision_of es i c ≡ o → (y : Option Side) → x ≡ y → cond b (decision_after o y (r / 3)) o ≡ Some d → TellsOf (advanced j k r f x reached posted ∷ es) i c d
    newest false e o p x₁ z h = let y = before (p ∙ h) in (y.0, y.1, inr y.2, y.3)
    newest true e (Some old) p x₁ z h = let y = before (p ∙ h) in (y.0, y.1, inr y.2, y.3)
    newest true e None p None z h = absurd (no_decision d h)
    newest true e None p (Some v) z h =
        let is : record { side = v; phase = r / 3 } ≡ d = cc in
        let same = and_parts _ _ e in
        (r, f, inl ((sym (eqb-true i j same.0), sym (eqb-true c k same.1), refl, refl, z ∙ ap (λ (w : Decision). Some w.side) is), none_told es p), sym (ap (λ (w : Decision). w.phase) is))

  pub decision_made : (es : List Event) (d : Decision) → decision_of es i c ≡ Some d → TellsOf es i c d
  decision_made [] d e = absurd (no_decision d e)
  decision_made (refused turn e ∷ es) d h = let y = decision_made es d h in (y.0, y.1, inr y.2, y.3)
  decision_made (announced j b l posted ∷ es) d h = let y = decision_made es d h in (y.0, y.1, inr y.2, y.3)
  decision_made (opened j k v posted ∷ es) d h = let y = decision_made es d h in (y.0, y.1, inr y.2, y.3)
  decision_made (forged m posted ∷ es) d h = let y = decision_made es d h in (y.0, y.1, inr y.2, y.3)
  decision_made (delivered j pick m posted accepted ∷ es) d h = let y = decision_made es d h in (y.0, y.1, inr y.2, y.3)
  decision_made (advanced j k r f x reached posted ∷ es) d h =
      newest es d (decision_made es d) j k r f x reached posted (eqb i j && eqb c k) refl (decision_of es i c) refl x refl h

  pub decision_told : (es : List Event) (d : Decision) → decision_of es i c ≡ Some d → Tells es i c d.side
  decision_told es d h = let y = decision_made es d h in (y.0, y.1, first_is_told _ _ es y.2)

  none_stands : (es : List Event) → (Told (DecidingAny i c) es → ⊥) → decision_of es i c ≡ None
  none_stands es none = go (decision_of es i c) refl
    where
      go : (o : Option Decision) → decision_of es i c ≡ o → decision_of es i c ≡ None
      go None e = e
      go (Some d) e = let t = decision_told es d e in absurd (none (any_side t.0 t.1 d.side es t.2))

  -- the decision that stands was made no later than any other that an advance tells
  abbrev pub FirstOf : List Event → Type 0
  FirstOf es = (d : Decision) → decision_of es i c ≡ Some d → (r : ℕ) (f : Option Side) (v : Side) → Told (Advancing i c r f (Some v)) es → d.phase ≤ r / 3

  some_decision : (d e : Decision) → Some d ≡ Some e → d ≡ e
  some_decision d e h = cc

  -- an advance from a round that is above those of all advances before
  module _ (es : List Event) (j k q : ℕ) (g x : Option Side) (reached posted : ℕ) (before : FirstOf es) (later : j ≡ i → k ≡ c → (r : ℕ) (f y : Option Side) → Told (Advancing i c r f y) es → r < q) where
    -- what the newest event decides
    now_decides : (d : Decision) → j ≡ i → k ≡ c → (v : Side) → x ≡ Some v → (o : Option Decision) → decision_of es i c ≡ o → decision_after o (Some v) (q / 3) ≡ Some d → d.phase ≤ q / 3
    now_decides d ji kc v e None p h = let is : record { side = v; phase = q / 3 } ≡ d = cc in omega (arith, ap (λ (w : Decision). w.phase) is)
    now_decides d ji kc v e (Some old) p h =
        let made = decision_made es old p in
        omega (arith, ap (λ (w : Decision). w.phase) (some_decision old d h), made.3, later ji kc made.0 made.1 (Some old.side) (first_is_told _ _ es made.2))

    pub first_after : FirstOf (advanced j k q g x reached posted ∷ es)
    first_after d h r f v (inl z) =
        let b = and_from _ _ (eq-eqb i j (sym z.0)) (eq-eqb c k (sym z.1)) in
        let made : decision_after (decision_of es i c) (Some v) (q / 3) ≡ Some d = sym (cond-true _ _ _ b ∙ ap (λ o. decision_after (decision_of es i c) o (q / 3)) z.4) ∙ h in
        omega (arith, now_decides d z.0 z.1 v z.4 (decision_of es i c) refl made, z.2)
    first_after d h r f v (inr t) =
        let s = decision_stands es r f v t in
        let same = some_decision s.0 d (sym (still (eqb i j && eqb c k) (decision_of es i c) x (q / 3) s.0 s.1) ∙ h) in
        omega (arith, before s.0 s.1 r f v t, ap (λ (w : Decision). w.phase) same)

  -- what decides is an advance from a third round
  abbrev pub Thirds : List Event → Type 0
  Thirds es = (r : ℕ) (f : Option Side) (v : Side) → Told (Advancing i c r f (Some v)) es → (k : ℕ) × (r ≡ 3 * k)

  -- The decision that stands is then the first that events tell,
  pub stands_first : (es : List Event) → Thirds es → (d : Decision) → decision_of es i c ≡ Some d → Decided es i c d.side d.phase
  stands_first es thirds d h =
      let made = decision_made es d h in
      let third = thirds made.0 made.1 d.side (first_is_told _ _ es made.2) in
      let round : made.0 ≡ 3 * d.phase = omega (arith, third.1, made.3) in
      (made.1, subst (λ (r : ℕ). FirstTold (Advancing i c r made.1 (Some d.side)) (DecidingAny i c) es) round made.2)

  -- and the first that events tell stands.
  module _ (v : Side) (k : ℕ) (f : Option Side) where
    abbrev made : Decision
    made = record { side = v; phase = k }

    first_kept : (es : List Event) → FirstTold (Advancing i c (3 * k) f (Some v)) (DecidingAny i c) es → decision_of es i c ≡ Some made
    first_kept [] t = absurd t
    first_kept (refused turn e ∷ es) t = ⊎_elim (λ z. absurd z.0) (first_kept es) t
    first_kept (announced j b l posted ∷ es) t = ⊎_elim (λ z. absurd z.0) (first_kept es) t
    first_kept (opened j d u posted ∷ es) t = ⊎_elim (λ z. absurd z.0) (first_kept es) t
    first_kept (forged m posted ∷ es) t = ⊎_elim (λ z. absurd z.0) (first_kept es) t
    first_kept (delivered j pick m posted accepted ∷ es) t = ⊎_elim (λ z. absurd z.0) (first_kept es) t
    first_kept (advanced j d r g x reached posted ∷ es) t =
        ⊎_elim (λ z.
        let phase : r / 3 ≡ k = omega (arith, z.0.2) in
        cond-true _ _ _ (and_from _ _ (eq-eqb i j (sym z.0.0)) (eq-eqb c d (sym z.0.1))) ∙ (λ m. decision_after (none_stands es z.1 m) (z.0.4 m) (phase m)))
        (λ z. still (eqb i j && eqb c d) (decision_of es i c) x (r / 3) made (first_kept es z)) t

  pub first_stands : (es : List Event) (v : Side) (k : ℕ) → Decided es i c v k → decision_of es i c ≡ Some (record { side = v; phase = k })
  first_stands es v k d = first_kept v k d.0 es d.1
