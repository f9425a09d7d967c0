-- How a line of a script is cut into tokens, and which tokens are lawful.
use Rattle.std.specs.Prelude.{◌≡◌, ℕ, suc, ◌+◌, ◌-◌, ◌*◌, ◌^◌, ◌≤◌, Bool, true, false, cond, ◌&&◌, ◌||◌, List, [], ◌∷◌, length, drop, Some, None, Option, is_some, ◌==◌, nat_lt, slice_index}
use Rattle.std.specs.List.{fold, prefix_len}
use Rattle.std.specs.Char.{is_ascii_lowercase, is_ascii_digit}
use Rattle.token.specs.declared.lex.Token.{Token}
use Rattle.token.specs.declared.lex.Token.TheVariants.{Open, Close, Space, Word, Number}

-- two bytes that stand side by side belong to one token: both letters or both digits
abbrev pub joins : ℕ → ℕ → Bool
joins a b = (is_ascii_lowercase a && is_ascii_lowercase b) || (is_ascii_digit a && is_ascii_digit b)

-- the first token, and its first byte (0, which joins nothing, where there is none)
abbrev pub front : List (List ℕ) → List ℕ
front [] = []
front (p ∷ ps) = p

abbrev pub behind : List (List ℕ) → List (List ℕ)
behind [] = []
behind (p ∷ ps) = ps

abbrev pub lead : List (List ℕ) → ℕ
lead ps = slice_index (front ps) 0

-- a byte before tokens goes on the first of them or stands alone
abbrev pub before : ℕ → List (List ℕ) → List (List ℕ)
before b ps = cond (joins b (lead ps)) ((b ∷ front ps) ∷ behind ps) ((b ∷ []) ∷ ps)

-- the tokens of a text
abbrev pub pieces : List ℕ → List (List ℕ)
pieces [] = []
pieces (b ∷ bs) = before b (pieces bs)

-- how many bytes at the front go on a token that b is in
abbrev pub running : ℕ → List ℕ → ℕ
running b bs = prefix_len (joins b) bs

-- the length of a text's first token
abbrev pub spanning : List ℕ → ℕ
spanning [] = 0
spanning (b ∷ bs) = suc (running b bs)

-- the number that digits write, digit by digit
abbrev pub with_digit : ℕ → ℕ → ℕ
with_digit n d = n * 10 + (d - 48)

abbrev pub worth : List ℕ → ℕ
worth ds = fold with_digit 0 ds

abbrev pub below64 : ℕ → Option ℕ
below64 n = cond (nat_lt n (2 ^ 64)) (Some n) None

abbrev pub leading_zero : List ℕ → Bool
leading_zero ds = nat_lt 1 (length ds) && slice_index ds 0 == 48

-- the number of digits that have no leading zero, if it is below 2^64
abbrev pub number_of : List ℕ → Option ℕ
number_of ds = cond (leading_zero ds) None (below64 (worth ds))

abbrev pub numeral : List ℕ → Bool
numeral ds = is_some (number_of ds)

-- a bracket, a space, a word or a number below 2^64: by the first byte
abbrev pub lawful : List ℕ → Bool
lawful p = slice_index p 0 == 40 || (slice_index p 0 == 41 || (slice_index p 0 == 32 || (is_ascii_lowercase (slice_index p 0) || (is_ascii_digit (slice_index p 0) && numeral p))))

-- the bytes of a token
abbrev pub spelling : Token → List ℕ
spelling Open = 40 ∷ []
spelling Close = 41 ∷ []
spelling Space = 32 ∷ []
spelling (Word w) = w.now
spelling (Number d v) = d.now

-- the token's case is the one that its bytes call for
abbrev pub Suits : Token → List ℕ → Type 0
Suits Open p = slice_index p 0 ≡ 40
Suits Close p = slice_index p 0 ≡ 41
Suits Space p = slice_index p 0 ≡ 32
Suits (Word w) p = (w.now ≡ p) × (is_ascii_lowercase (slice_index p 0) ≡ true)
Suits (Number d v) p = (d.now ≡ p) × ((is_ascii_digit (slice_index p 0) ≡ true) × (v ≡ worth p))

-- what a run of bytes is read as
abbrev pub Lexed : List ℕ → Option Token → Type 0
Lexed p None = lawful p ≡ false
Lexed p (Some t) = (lawful p ≡ true) × Suits t p

-- the first token of a text: its bytes go before the rest of the text
abbrev pub First : List ℕ → Option Token → Type 0
First s None = lawful (front (pieces s)) ≡ false
First s (Some t) = (pieces s ≡ spelling t ∷ pieces (drop (length (spelling t)) s)) × ((lawful (spelling t) ≡ true) × (Suits t (spelling t) × (length (spelling t) ≤ length s)))
