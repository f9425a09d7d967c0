-- The sheet's rule at each of its rows, by tests that antt computes.
use Rattle.std.proofs.Common.{◌≡◌, ℕ, zero, suc, ◌+◌, ◌-◌, ◌*◌, ◌/◌, ◌<◌, ◌≤◌, Bool, true, ◌&&◌, eqb, ltb, leb, List, [], ◌∷◌, ◌++◌, get_or, sym, refl, subst}
use Rattle.std.proofs.lemmas.Bool.{and_parts, eqb-true, ltb-true, leb-true}
use Rattle.protocol.specs.Thresholds.{Sound}
use Rattle.plan.specs.declared.plans.Thresholds.{Thresholds}
use Rattle.plan.specs.Sheet.{rows_before, row_of, thresholds_of}
use Rattle.plan.proofs.Pairs.{pairs, pairs_at}

-- the first row of each n up to k, and the rows
abbrev pub firsts_to : ℕ → List ℕ
firsts_to zero = []
firsts_to (suc n) = firsts_to n ++ (rows_before (suc n) ∷ [])

abbrev pub rows_for : ℕ → ℕ → List (List ℕ)
rows_for n zero = []
rows_for n (suc t) = let s = thresholds_of n t in rows_for n t ++ ((s.echo ∷ s.ready ∷ s.accept ∷ []) ∷ [])

abbrev pub rows_to : ℕ → List (List ℕ)
rows_to zero = []
rows_to (suc n) = rows_to n ++ rows_for (suc n) ((n + 3) / 3)

abbrev pub firsts : List ℕ
firsts = firsts_to 16

abbrev pub sheet : List (List ℕ)
sheet = rows_to 16

placed : ℕ → ℕ → Bool
placed n t = eqb (get_or firsts (n - 1) 0 + t) (row_of n t) && ltb (row_of n t) 51

-- the numbers of a row are those of the formulas, and sound
abbrev fit : ℕ → ℕ → ℕ → ℕ → ℕ → Bool
fit n t echo ready accept = let s = thresholds_of n t in eqb echo s.echo && (eqb ready s.ready && eqb accept s.accept)

abbrev hold : ℕ → ℕ → ℕ → ℕ → ℕ → Bool
hold n t echo ready accept = ltb (n + t) (2 * echo) && (leb echo (n - t) && (ltb t ready && (leb (ready + t) accept && leb accept (n - t))))

right : ℕ → ℕ → Bool
right n t =
    let row = get_or sheet (row_of n t) [] in
    fit n t (get_or row 0 0) (get_or row 1 0) (get_or row 2 0) && hold n t (get_or row 0 0) (get_or row 1 0) (get_or row 2 0)

all_placed : pairs placed ≡ true
unfolding placed
all_placed = refl

all_right : pairs right ≡ true
unfolding right
all_right = refl

fits : (n t echo ready accept : ℕ) → fit n t echo ready accept ≡ true → ◌≡◌ {A = Thresholds} (record { echo = echo; ready = ready; accept = accept }) (thresholds_of n t)
fits n t echo ready accept h =
    let a = and_parts _ _ h in
    let b = and_parts _ _ a.1 in
    let e = eqb-true echo (thresholds_of n t).echo a.0 in
    let r = eqb-true ready (thresholds_of n t).ready b.0 in
    let c = eqb-true accept (thresholds_of n t).accept b.1 in
    λ i. record { echo = e i; ready = r i; accept = c i }

holds : (n t echo ready accept : ℕ) → hold n t echo ready accept ≡ true → Sound n t echo ready accept
holds n t echo ready accept h =
    let a = and_parts _ _ h in
    let b = and_parts _ _ a.1 in
    let c = and_parts _ _ b.1 in
    let d = and_parts _ _ c.1 in
    record {
      meet = ltb-true (n + t) (2 * echo) a.0;
      echoes = leb-true echo (n - t) b.0;
      one_correct = ltb-true t ready c.0;
      enough = leb-true (ready + t) accept d.0;
      accepts = leb-true accept (n - t) d.1;
    }

module _ (n t : ℕ) (few : n ≤ 16) (tolerated : 3 * t < n) where
  pub row_is : get_or firsts (n - 1) 0 + t ≡ row_of n t
  unfolding placed
  row_is = eqb-true _ _ (and_parts _ _ (pairs_at placed all_placed n t few tolerated)).0

  pub row_within : row_of n t < 51
  unfolding placed
  row_within = ltb-true _ _ (and_parts _ _ (pairs_at placed all_placed n t few tolerated)).1

  pub row_value : (k : ℕ) → k ≡ row_of n t → ◌≡◌ {A = Thresholds} (record { echo = get_or (get_or sheet k []) 0 0; ready = get_or (get_or sheet k []) 1 0; accept = get_or (get_or sheet k []) 2 0 }) (thresholds_of n t)
  unfolding right
  row_value k at =
      subst (λ (i : ℕ). ◌≡◌ {A = Thresholds} (record { echo = get_or (get_or sheet i []) 0 0; ready = get_or (get_or sheet i []) 1 0; accept = get_or (get_or sheet i []) 2 0 }) (thresholds_of n t)) (sym at)
      (fits n t _ _ _ (and_parts _ _ (pairs_at right all_right n t few tolerated)).0)

  pub row_sound : (k : ℕ) → k ≡ row_of n t → Sound n t (get_or (get_or sheet k []) 0 0) (get_or (get_or sheet k []) 1 0) (get_or (get_or sheet k []) 2 0)
  unfolding right
  row_sound k at =
      subst (λ (i : ℕ). Sound n t (get_or (get_or sheet i []) 0 0) (get_or (get_or sheet i []) 1 0) (get_or (get_or sheet i []) 2 0)) (sym at)
      (holds n t _ _ _ (and_parts _ _ (pairs_at right all_right n t few tolerated)).1)
