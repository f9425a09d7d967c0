-- The kind of a round by its remainder.
use Rattle.std.proofs.Common.{◌≡◌, ℕ, zero, suc, ◌%◌, sym, ap, arith}
use Rattle.protocol.specs.Phases.{kind}

pub kind_of_rest : (r k : ℕ) → r % 3 ≡ k → kind k ≡ kind r
kind_of_rest zero k e = ap kind (sym e)
kind_of_rest (suc zero) k e = ap kind (sym e)
kind_of_rest (suc (suc zero)) k e = ap kind (sym e)
kind_of_rest (suc (suc (suc r))) k e = kind_of_rest r k (omega arith)
