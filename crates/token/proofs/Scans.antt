-- What a cursor's next token leaves.
use Rattle.std.proofs.Common.{◌≡◌, ℕ, false, cond, eqb, List, [], ◌∷◌, length, Option, Some, None, Ok, Err, sym, refl, ap, ◌∙◌, arith}
use Rattle.std.specs.Option.{ok_or}
use Rattle.token.specs.declared.fault.Position.{Position}
use Rattle.token.specs.declared.fault.TokenFault.{TokenFault}
use Rattle.token.specs.declared.lex.Token.{Token}
use Rattle.token.specs.Tokens.{pieces, front, lawful, First}
use Rattle.token.proofs.Pieces.{pieces_first}
use Rattle.token.specs.Scan.{scanned}

-- at least one token is left, and the first is not lawful
fault_at_lem : (at : Position) (ps : List (List ℕ)) → (ps ≡ [] → ⊥) → lawful (front ps) ≡ false → scanned at ps ≡ Err (record { place = at })
fault_at_lem at [] some h = absurd (some refl)
fault_at_lem at (p ∷ ps) some h = ap (λ b. cond b (Ok (Some p)) (Err (record { place = at }))) h

pieces_some : (s : List ℕ) → eqb (length s) 0 ≡ false → pieces s ≡ [] → ⊥
pieces_some [] e h = cc
pieces_some (b ∷ bs) e h = omega (arith, ap length (sym (pieces_first b bs) ∙ h))

scan_fault : (at : Position) (s : List ℕ) → eqb (length s) 0 ≡ false → First s None → scanned at (pieces s) ≡ Err (record { place = at })
scan_fault at s e h = fault_at_lem at (pieces s) (pieces_some s e) h

pub scanned_fault : (at : Position) (s : List ℕ) (o : Option Token) (f : TokenFault) → eqb (length s) 0 ≡ false → First s o → ok_or o (record { place = at }) ≡ Err f → scanned at (pieces s) ≡ Err f
scanned_fault at s None f e h is = let same : record { place = at } ≡ f = cc in scan_fault at s e h ∙ ap Err same
scanned_fault at s (Some t) f e h is = cc
