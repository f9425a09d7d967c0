-- How a text is cut into tokens.
use Rattle.std.proofs.Common.{◌≡◌, ℕ, suc, ◌+◌, ◌-◌, ◌≤◌, Bool, true, false, cond, List, [], ◌∷◌, length, get_or, take, drop, sym, refl, ap, ◌∙◌, arith}
use Rattle.std.proofs.lemmas.List.{take_rest}
use Rattle.std.proofs.lemmas.Bool.Decides.{nat_tests}
use Rattle.std.proofs.lemmas.List.Folds.{length-prefix_len}
use Rattle.std.proofs.lemmas.List.Sums.{prefix_len-le-length}
use Rattle.std.specs.List.{concat, take_while}
use Rattle.token.specs.Tokens.{joins, front, behind, lead, pieces, running, spanning}

-- a byte joins only a byte of its own kind
joins_none : (b : ℕ) → joins b 0 ≡ false
joins_none b = grind (arith, nat_tests)

joins_on : (a b c : ℕ) → joins a b ≡ true → joins b c ≡ joins a c
joins_on a b c h = grind (arith, nat_tests)

pub lead_pieces : (s : List ℕ) → lead (pieces s) ≡ get_or s 0 0
lead_pieces [] = refl
lead_pieces (b ∷ bs) =
    elim (joins b (lead (pieces bs))) as (λ t. lead (cond t ((b ∷ front (pieces bs)) ∷ behind (pieces bs)) ((b ∷ []) ∷ pieces bs)) ≡ b) [ true ↦ refl | false ↦ refl ]

-- a byte goes on the token behind it, or stands apart from it
pub pieces_on : (b c : ℕ) (cs p : List ℕ) (ps : List (List ℕ)) → joins b c ≡ true → pieces (c ∷ cs) ≡ p ∷ ps → pieces (b ∷ c ∷ cs) ≡ (b ∷ p) ∷ ps
pieces_on b c cs p ps j e =
    ap (λ t. cond t ((b ∷ front (pieces (c ∷ cs))) ∷ behind (pieces (c ∷ cs))) ((b ∷ []) ∷ pieces (c ∷ cs))) (ap (joins b) (lead_pieces (c ∷ cs)) ∙ j) ∙ ap (λ y. (b ∷ front y) ∷ behind y) e

pub pieces_apart : (b : ℕ) (s : List ℕ) → joins b (get_or s 0 0) ≡ false → pieces (b ∷ s) ≡ (b ∷ []) ∷ pieces s
pieces_apart b s j = ap (λ t. cond t ((b ∷ front (pieces s)) ∷ behind (pieces s)) ((b ∷ []) ∷ pieces s)) (ap (joins b) (lead_pieces s) ∙ j)

-- a byte in front of tokens
joined_before : (b : ℕ) (ps : List (List ℕ)) (t : Bool) → concat (cond t ((b ∷ front ps) ∷ behind ps) ((b ∷ []) ∷ ps)) ≡ b ∷ concat ps
joined_before b [] true = refl
joined_before b [] false = refl
joined_before b (p ∷ ps) true = refl
joined_before b (p ∷ ps) false = refl

pub joined_pieces : (s : List ℕ) → concat (pieces s) ≡ s
joined_pieces [] = refl
joined_pieces (b ∷ bs) = joined_before b (pieces bs) (joins b (lead (pieces bs))) ∙ ap (λ z. b ∷ z) (joined_pieces bs)

running_same : (b c : ℕ) (xs : List ℕ) → joins b c ≡ true → running c xs ≡ running b xs
running_same b c [] j = refl
running_same b c (x ∷ xs) j =
    ap (λ t. cond t (1 + running c xs) 0) (joins_on b c x j) ∙ ap (λ n. cond (joins b x) (1 + n) 0) (running_same b c xs j)

-- a text is its first token before the tokens of the rest
pub pieces_first : (b : ℕ) (bs : List ℕ) → pieces (b ∷ bs) ≡ (b ∷ take (running b bs) bs) ∷ pieces (drop (running b bs) bs)
pieces_first b [] = pieces_apart b [] (joins_none b)
pieces_first b (c ∷ cs) = go (joins b c) refl (pieces_first c cs)
  where
    cut : ℕ → List (List ℕ)
    cut n = (b ∷ take n (c ∷ cs)) ∷ pieces (drop n (c ∷ cs))

    go : (t : Bool) → joins b c ≡ t → pieces (c ∷ cs) ≡ (c ∷ take (running c cs) cs) ∷ pieces (drop (running c cs) cs) → pieces (b ∷ c ∷ cs) ≡ cut (running b (c ∷ cs))
    go true e ih =
        let more : suc (running c cs) ≡ 1 + running b cs = omega (arith, running_same b c cs e) in
        pieces_on b c cs _ _ e ih ∙ (ap cut more ∙ sym (ap (λ t. cut (cond t (1 + running b cs) 0)) e))
    go false e ih = pieces_apart b (c ∷ cs) e ∙ sym (ap (λ t. cut (cond t (1 + running b cs) 0)) e)

-- the same of a first token; what follows a first byte is given as a pattern has it
pub spanning_is : (s : List ℕ) → 1 ≤ length s → 1 + length (take_while (joins (get_or s 0 0)) (take (length s - 1) (drop 1 s))) ≡ spanning s
spanning_is [] h = absurd (omega arith)
spanning_is (b ∷ bs) h = let e = ap (λ r. length (take_while (joins b) r)) (take_rest (b ∷ bs) 1) in omega (arith, length-prefix_len (joins b) bs, e)

pub spanning_fits : (s : List ℕ) → spanning s ≤ length s
spanning_fits [] = omega arith
spanning_fits (b ∷ bs) = omega (arith, prefix_len-le-length (joins b) bs)
