-- The place of a round in its phase. Rounds count from 0 here: phase k, from 0 too, has the
-- rounds 3k, 3k + 1 and 3k + 2.
use Rattle.std.specs.Prelude.{ℕ, zero, suc}
use Rattle.protocol.specs.declared.votes.Kind.{Kind}
use Rattle.protocol.specs.declared.votes.Kind.TheVariants.{First, Second, Third}

abbrev pub kind : ℕ → Kind
kind zero = First
kind (suc zero) = Second
kind (suc (suc zero)) = Third
kind (suc (suc (suc r))) = kind r
