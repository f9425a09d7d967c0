use Rattle.std.proofs.Common.{◌≡◌, ℕ, ◌/◌, ◌^◌, eqb, bit_and, sym, ap, ◌∙◌, arith}
use Rattle.std.proofs.lemmas.Bool.{le-ltb}
use Rattle.std.proofs.lemmas.Nat.Bits.{shr_and_one}
use Rattle.plan.specs.Marks.{marked}
use Rattle.plan.proofs.Marked.{marked_past, marked_inside}
use Rattle.plan.proofs.drafts.Marked.is_faulty.Goals as goal

masked : (m i : ℕ) → eqb (bit_and (m / 2 ^ i) 1) 1 ≡ marked m i
unfolding marked
masked m i = ap (λ (x : ℕ). eqb x 1) (shr_and_one m i)

pub returns-then-process-lt-PROCESSES : goal.returns-then-process-lt-PROCESSES
returns-then-process-lt-PROCESSES g c =
    let self = c.args.self.now in
    let bit = masked self.marks c.args.process in
    record { value = bit; within = λ set. marked_inside _ _ _ self.inside (sym bit ∙ set) }

pub returns-else-process-lt-PROCESSES-clause-value : goal.returns-else-process-lt-PROCESSES-clause-value
returns-else-process-lt-PROCESSES-clause-value g c =
    let self = c.args.self.now in
    let past = c.if-process-lt-PROCESSES.false in
    le-ltb c.args.process 16 past ∙ sym (marked_past _ _ _ self.inside (omega (arith, self.plan.few, past)))
