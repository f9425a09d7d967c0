-- Bodies that were heard, in their places in memory and as the machine of broadcasts has them.
use Rattle.std.proofs.Common.{◌≡◌, ℕ, ◌+◌, ◌<◌, true, false, cond, eqb, ◌≢◌, List, length, get_or, Some, None, Option, sym, refl, ap, ◌∙◌, subst, ⊎_elim, arith, length-set, get_or-set_other, get_or-set_same}
use Rattle.std.proofs.lemmas.Bool.{eqb-true, eqb-false, cases_Bool, cond-true, cond-false}
use Rattle.broadcast.specs.Hearing.{hear, hear_over}
use Rattle.agreement.specs.Records as machine
use Rattle.agreement.specs.Records.{first}

module _ (xs : List (Option ℕ)) (at b : ℕ) where
  pub heard_length : length (hear at b xs) ≡ length xs
  heard_length = go (get_or xs at None) where
    go : (o : Option ℕ) → length (hear_over o at b xs) ≡ length xs
    go None = length-set xs at (Some b)
    go (Some a) = refl

  pub heard_elsewhere : (y : ℕ) → y ≢ at → get_or (hear at b xs) y None ≡ get_or xs y None
  heard_elsewhere y apart = go (get_or xs at None) where
    go : (o : Option ℕ) → get_or (hear_over o at b xs) y None ≡ get_or xs y None
    go None = get_or-set_other xs at y (Some b) None apart
    go (Some a) = refl

  heard_here : at < length xs → get_or (hear at b xs) at None ≡ first (get_or xs at None) b
  heard_here lt = go (get_or xs at None) refl where
    go : (o : Option ℕ) → get_or xs at None ≡ o → get_or (hear_over o at b xs) at None ≡ first o b
    go None e = get_or-set_same xs at (Some b) None lt
    go (Some a) e = e

-- a row of places is what f says, and stays so when process k is heard
pub heard_row : (xs : List (Option ℕ)) (from k b : ℕ) (f : ℕ → Option ℕ) (j : ℕ) → from + k < length xs → get_or xs (from + j) None ≡ f j → get_or (hear (from + k) b xs) (from + j) None ≡ machine.heard_after f k b j
unfolding machine.heard_after
heard_row xs from k b f j lt e = ⊎_elim same other (cases_Bool (eqb j k))
  where
    same : eqb j k ≡ true → get_or (hear (from + k) b xs) (from + j) None ≡ cond (eqb j k) (first (f j) b) (f j)
    same t =
        let is = eqb-true j k t in
        subst (λ (y : ℕ). get_or (hear (from + k) b xs) (from + y) None ≡ first (get_or xs (from + y) None) b) (sym is) (heard_here xs (from + k) b lt)
        ∙ ap (λ o. first o b) e
        ∙ sym (cond-true (eqb j k) _ _ t)

    other : eqb j k ≡ false → get_or (hear (from + k) b xs) (from + j) None ≡ cond (eqb j k) (first (f j) b) (f j)
    other t =
        let apart = eqb-false j k t in
        heard_elsewhere xs (from + k) b (from + j) (λ (y : from + j ≡ from + k). apart (omega arith)) ∙ e ∙ sym (cond-false (eqb j k) _ _ t)
