-- A whole line, from its first byte on.
use Rattle.std.proofs.Common.{◌≡◌, ℕ, List, sym, ap, ◌∙◌}
use Rattle.token.specs.declared.cursor.Cursor.{Cursor}
use Rattle.token.specs.Scan.{left, here}
use Rattle.token.specs.Tokens.{pieces}
use Rattle.grammar.specs.Grammar.{form, run, reading}
use Rattle.grammar.specs.Reads.{Sequel, sequel}

from_start : (n : ℕ) (s : List ℕ) (c : Cursor) → here c ≡ record { line = n; byte = 1 } → left c ≡ pieces s → (sequel c form).answer ≡ reading n s
unfolding sequel
from_start n s c place tokens i = run form (place i) (tokens i)

-- what a line is read as is what it comes to from its beginning on
pub whole : (n : ℕ) (s : List ℕ) (c : Cursor) → here c ≡ record { line = n; byte = 1 } → left c ≡ pieces s → (o : Sequel) → sequel c form ≡ o → o.answer ≡ reading n s
whole n s c place tokens o e = sym (ap (λ (x : Sequel). x.answer) e) ∙ from_start n s c place tokens
