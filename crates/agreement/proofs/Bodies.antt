-- Bodies that stand once they are set.
use Rattle.std.proofs.Common.{◌≡◌, ℕ, Bool, true, false, cond, eqb, ◌⊎◌, is_some as option_is_some, Some, None, Option, sym, refl, ap, inl, inr, ⊎_elim}
use Rattle.std.proofs.lemmas.Bool.{both_ways, eqb-true, eq-eqb}
use Rattle.protocol.specs.Heard.{has}
use Rattle.agreement.specs.Records.{when, heard_after}

pub none_some : (o : Option ℕ) (b : ℕ) → o ≡ None → o ≡ Some b → ⊥
none_some o b p q = cc

pub some_once : (o : Option ℕ) (b c : ℕ) → o ≡ Some b → o ≡ Some c → b ≡ c
some_once o b c p q = cc

pub has_some : (o : Option ℕ) (b : ℕ) → has o b ≡ true → o ≡ Some b
has_some None b h = absurd (both_ways false refl h)
has_some (Some c) b h = ap Some (eqb-true c b h)

pub some_has : (o : Option ℕ) (b : ℕ) → o ≡ Some b → has o b ≡ true
some_has None b h = absurd cc
some_has (Some c) b h = eq-eqb c b (some_once (Some c) c b refl h)

pub some_of : (o : Option ℕ) → option_is_some o ≡ true → (b : ℕ) × (o ≡ Some b)
some_of None h = absurd (both_ways false refl h)
some_of (Some b) h = (b, refl)

pub is_some : (o : Option ℕ) (b : ℕ) → o ≡ Some b → option_is_some o ≡ true
is_some o b e = ap option_is_some e

-- a body that a test lets through
pub some_if : (q : Bool) (o : Option ℕ) (b : ℕ) → cond q o None ≡ Some b → (q ≡ true) × (o ≡ Some b)
some_if true o b e = (refl, e)
some_if false o b e = absurd cc

pub when_stays : (q : Bool) (o : Option ℕ) (b c : ℕ) → o ≡ Some c → when q o b ≡ Some c
when_stays false o b c e = e
when_stays true None b c e = absurd cc
when_stays true (Some d) b c e = e

pub when_keeps : (q : Bool) (o : Option ℕ) (b : ℕ) → option_is_some o ≡ true → option_is_some (when q o b) ≡ true
when_keeps q o b h = let v = some_of o h in is_some _ v.0 (when_stays q o b v.0 v.1)

pub when_some : (q : Bool) (o : Option ℕ) (b : ℕ) → q ≡ true → option_is_some (when q o b) ≡ true
when_some false o b e = absurd (both_ways false refl e)
when_some true None b e = refl
when_some true (Some c) b e = refl

pub when_set : (q : Bool) (o : Option ℕ) (b : ℕ) → q ≡ true → o ≡ None → when q o b ≡ Some b
when_set false o b e n = absurd (both_ways false refl e)
when_set true None b e n = refl
when_set true (Some c) b e n = absurd cc

pub when_from : (q : Bool) (o : Option ℕ) (b c : ℕ) → when q o b ≡ Some c → (o ≡ Some c) ⊎ ((q ≡ true) × (b ≡ c))
when_from false o b c e = inl e
when_from true None b c e = inr (refl, some_once (Some b) b c refl e)
when_from true (Some d) b c e = inl e

-- what is set behind something that was set stays behind it
pub in_turn : (p q : Bool) (later earlier : Option ℕ) (b : ℕ) → (p ≡ true → q ≡ true) → (option_is_some later ≡ true → option_is_some earlier ≡ true) → option_is_some (when p later b) ≡ true → option_is_some (when q earlier b) ≡ true
in_turn p q later earlier b test kept e =
    let v = some_of (when p later b) e in
    ⊎_elim (λ x. when_keeps q earlier b (kept (is_some later v.0 x))) (λ x. when_some q earlier b (test x.0)) (when_from p later b v.0 v.1)

module _ (f : ℕ → Option ℕ) (k b : ℕ) where
  pub hear_keeps : (j : ℕ) → option_is_some (f j) ≡ true → option_is_some (heard_after f k b j) ≡ true
  unfolding heard_after
  hear_keeps j h = when_keeps (eqb j k) (f j) b h

  pub hear_here : option_is_some (heard_after f k b k) ≡ true
  unfolding heard_after
  hear_here = when_some (eqb k k) (f k) b (eq-eqb k k refl)

  pub hear_from : (j c : ℕ) → heard_after f k b j ≡ Some c → (f j ≡ Some c) ⊎ ((k ≡ j) × (b ≡ c))
  unfolding heard_after
  hear_from j c e = ⊎_elim inl (λ h. inr (sym (eqb-true j k h.0), h.1)) (when_from (eqb j k) (f j) b c e)
