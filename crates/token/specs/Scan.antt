-- What a cursor gives, token by token.
use Rattle.std.specs.Prelude.{◌≡◌, ℕ, ◌+◌, cond, List, [], ◌∷◌, ◌++◌, length, Some, None, Ok, Err, Option, Result}
use Rattle.std.specs.List.{concat}
use Rattle.token.specs.declared.cursor.Cursor.{Cursor}
use Rattle.token.specs.declared.fault.Position.{Position}
use Rattle.token.specs.declared.fault.TokenFault.{TokenFault}
use Rattle.token.specs.declared.lex.Token.{Token}
use Rattle.token.specs.Tokens.{pieces, behind, lawful, spelling, Suits}

-- A cursor is known by two things: the tokens that are left, and the place of the next one.
abbrev pub left : Cursor → List (List ℕ)
left c = pieces c.rest.now

-- the tokens that are left, put together
abbrev pub unread : Cursor → List ℕ
unread c = concat (left c)

abbrev pub here : Cursor → Position
here c = c.place

-- a place some bytes on
abbrev pub bytes_on : Position → ℕ → Position
bytes_on p n = record { line = p.line; byte = p.byte + n }

-- at a place, with these tokens left: none, the first, or a fault where it is not lawful
abbrev pub scanned : Position → List (List ℕ) → Result (Option (List ℕ)) TokenFault
scanned at [] = Ok None
scanned at (p ∷ ps) = cond (lawful p) (Ok (Some p)) (Err (record { place = at }))

-- an answer by its bytes
abbrev pub spelled : Result (Option Token) TokenFault → Result (Option (List ℕ)) TokenFault
spelled (Ok None) = Ok None
spelled (Ok (Some t)) = Ok (Some (spelling t))
spelled (Err e) = Err e

-- the token's case is the one that its bytes call for
abbrev pub Apt : Result (Option Token) TokenFault → Type 0
Apt (Ok None) = Unit {0}
Apt (Ok (Some t)) = Suits t (spelling t)
Apt (Err e) = Unit {0}

-- what an answer takes: the bytes gone by, and the tokens then left
abbrev pub taken : Result (Option Token) TokenFault → ℕ
taken (Ok None) = 0
taken (Ok (Some t)) = length (spelling t)
taken (Err e) = 0

abbrev pub remaining : Result (Option Token) TokenFault → List (List ℕ) → List (List ℕ)
remaining (Ok None) ps = ps
remaining (Ok (Some t)) ps = behind ps
remaining (Err e) ps = ps

-- A token is cut off the front of what was unread. There is none only where nothing is unread,
-- and a fault takes nothing.
abbrev pub Cuts : Result (Option Token) TokenFault → List ℕ → List ℕ → Type 0
Cuts (Ok None) old new = (old ≡ []) × (new ≡ [])
Cuts (Ok (Some t)) old new = old ≡ spelling t ++ new
Cuts (Err e) old new = old ≡ new
