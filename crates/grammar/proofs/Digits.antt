-- The tokens of a text, and the tokens that write numbers.
use Rattle.std.proofs.Common.{◌≡◌, ℕ, ◌^◌, ◌<◌, ◌≤◌, Bool, true, false, cond, List, [], ◌∷◌, ◌++◌, length, get_or, decimal, sym, refl, ap, ◌∙◌, subst, ⊎_elim, arith, rules}
use Rattle.std.proofs.lemmas.Fmt.{decimal-digits_value, digits_value-decimal, digits_decimal, first_decimal, decimal_nonempty, length-decimal-le}
use Rattle.std.proofs.lemmas.Str.Parse.{IsNumeralModel, numerals_by_fold, tells_all_ascii_digits}
use Rattle.std.proofs.lemmas.Bool.{and_parts, both_ways, cases_lt}
use Rattle.std.proofs.lemmas.Bool.Decides.{nat_tests}
use Rattle.std.specs.Char.{is_ascii_digit}
use Rattle.std.specs.List.{fold, AllByRecursion}
use Rattle.std.specs.Str.{all_ascii_digits}
use Rattle.token.proofs.Pieces.{pieces_on, pieces_apart}
use Rattle.token.specs.Tokens.{joins, front, behind, lead, pieces, with_digit, worth}
use Rattle.form.specs.Format.{Fits64}
use Rattle.grammar.proofs.Machine.{plain, good}

-- the tokens of a text are plain
plain_one : (b : ℕ) → plain (b ∷ []) ≡ true
plain_one b = grind (arith, nat_tests)

plain_more : (b : ℕ) (p : List ℕ) → joins b (get_or p 0 0) ≡ true → plain p ≡ true → plain (b ∷ p) ≡ true
plain_more b p j h = grind (arith, nat_tests)

plain_before : (b : ℕ) (ps : List (List ℕ)) (t : Bool) → joins b (lead ps) ≡ t → AllByRecursion (λ p. plain p ≡ true) ps → AllByRecursion (λ p. plain p ≡ true) (cond t ((b ∷ front ps) ∷ behind ps) ((b ∷ []) ∷ ps))
plain_before b [] true j h = (plain_one b, tt)
plain_before b [] false j h = (plain_one b, tt)
plain_before b (p ∷ ps) true j h = (plain_more b p j h.0, h.1)
plain_before b (p ∷ ps) false j h = (plain_one b, h)

pub plain_pieces : (s : List ℕ) → AllByRecursion (λ p. plain p ≡ true) (pieces s)
plain_pieces [] = tt
plain_pieces (b ∷ bs) = plain_before b (pieces bs) (joins b (lead (pieces bs))) refl (plain_pieces bs)

-- for the shelf's lemmas on decimals
own : IsNumeralModel (λ ds. all_ascii_digits ds ≡ true) worth
own = numerals_by_fold _ tells_all_ascii_digits (fold with_digit) (search rules)

some_from_digit : (p : List ℕ) → is_ascii_digit (get_or p 0 0) ≡ true → 0 < length p
some_from_digit [] d = absurd (both_ways false refl d)
some_from_digit (c ∷ cs) d = omega arith

digit_from_some : (p : List ℕ) → all_ascii_digits p ≡ true → 0 < length p → is_ascii_digit (get_or p 0 0) ≡ true
digit_from_some [] h some = absurd (omega arith)
digit_from_some (c ∷ cs) h some = (and_parts (is_ascii_digit c) (all_ascii_digits cs) h).0

-- a token that begins with a digit writes its worth
pub number_is : (p : List ℕ) → good p ≡ true → is_ascii_digit (get_or p 0 0) ≡ true → Fits64 (worth p) × (p ≡ decimal (worth p))
number_is p g d =
    let small : worth p < 2 ^ 64 = grind (arith, nat_tests) in
    let digits : all_ascii_digits p ≡ true = grind (arith, nat_tests) in
    let one : get_or p 0 0 ≡ 48 → length p ≤ 1 = λ (z : get_or p 0 0 ≡ 48). grind (arith, nat_tests) in
    (small, sym (decimal-digits_value own p digits (some_from_digit p d) (λ z. omega (arith, one z, some_from_digit p d)) small))

good_digits : (p : List ℕ) → all_ascii_digits p ≡ true → is_ascii_digit (get_or p 0 0) ≡ true → (get_or p 0 0 ≡ 48 → length p ≤ 1) → worth p < 2 ^ 64 → good p ≡ true
good_digits p h d one small = grind (arith, nat_tests)

pub digit_decimal : (n : ℕ) → Fits64 n → is_ascii_digit (get_or (decimal n) 0 0) ≡ true
digit_decimal n h = digit_from_some (decimal n) (digits_decimal own n h) (decimal_nonempty n h)

pub good_decimal : (n : ℕ) → Fits64 n → good (decimal n) ≡ true
good_decimal n h =
    good_digits (decimal n) (digits_decimal own n h) (digit_decimal n h) (λ z. ⊎_elim (λ (l : n < 1). length-decimal-le 1 n (omega arith) (omega arith) h) (λ (l : 1 ≤ n). absurd (omega (arith, first_decimal n l h))) (cases_lt n 1)) (subst Fits64 (sym (digits_value-decimal own n h)) h)

pub worth_decimal : (n : ℕ) → Fits64 n → worth (decimal n) ≡ n
worth_decimal n h = digits_value-decimal own n h

-- digits make one token, up to what is no digit
pieces_digits : (ds rest : List ℕ) → all_ascii_digits ds ≡ true → 0 < length ds → is_ascii_digit (get_or rest 0 0) ≡ false → pieces (ds ++ rest) ≡ ds ∷ pieces rest
pieces_digits [] rest h some e = absurd (omega arith)
pieces_digits (c ∷ []) rest h some e = pieces_apart c rest (let j : joins c (get_or rest 0 0) ≡ false = grind (arith, nat_tests) in j)
pieces_digits (c ∷ d ∷ ds) rest h some e =
    pieces_on c d (ds ++ rest) (d ∷ ds) (pieces rest) (let j : joins c d ≡ true = grind (arith, nat_tests) in j) (pieces_digits (d ∷ ds) rest (and_parts (is_ascii_digit c) (all_ascii_digits (d ∷ ds)) h).1 (omega arith) e)

pub pieces_decimal : (n : ℕ) (rest : List ℕ) → Fits64 n → is_ascii_digit (get_or rest 0 0) ≡ false → pieces (decimal n ++ rest) ≡ decimal n ∷ pieces rest
pieces_decimal n rest h e = pieces_digits (decimal n) rest (digits_decimal own n h) (decimal_nonempty n h) e
