use Rattle.std.proofs.Common.{◌≡◌, ℕ, ◌^◌, ◌<◌, ◌≤◌, cond, leb, is_ok, Ok, Result, sym, refl, ap, ◌∙◌, subst, arith}
use lib.Bits.{bit_or}
use lib.Count.{ones}
use Rattle.std.proofs.lemmas.Nat.{one_shl}
use Rattle.std.proofs.lemmas.Bool.{cond-false, or_from, lt-leb}
use Rattle.protocol.specs.declared.refusals.Refusal.{Refusal}
use Rattle.plan.specs.Marks.{marked, mark_answer}
use Rattle.plan.proofs.Marked.{set_inside, set_ones, set_marked}
use Rattle.plan.proofs.drafts.Marked+Drafted.mark_faulty.Goals as goal

pub invariant_of-self : goal.invariant_of-self
invariant_of-self c =
    let draft = c.args.self.now in
    let i = c.args.process in
    let e = sym (one_shl i 16 (omega (arith, draft.plan.few))) in
    let clear = sym c.is_faulty.ensures.value ∙ c.if-is_faulty.false in
    record {
      few = subst (λ (x : ℕ). ones (bit_or draft.marks x) ≤ draft.plan.t) e (omega (arith, set_ones draft.marks i clear));
      inside = subst (λ (x : ℕ). bit_or draft.marks x < 2 ^ draft.plan.n) e (set_inside _ draft.marks i draft.inside (omega arith));
    }

pub returns : goal.returns
returns c =
    let draft = c.args.self.now in
    let m = draft.marks in
    let i = c.args.process in
    let e = one_shl i 16 (omega (arith, draft.plan.few)) in
    let clear = sym c.is_faulty.ensures.value ∙ c.if-is_faulty.false in
    let answer : Ok tt ≡ mark_answer draft.plan m i =
    sym
    (cond-false (leb draft.plan.n i) _ _ (lt-leb draft.plan.n i (omega arith))
    ∙ cond-false _ _ _ (or_from (marked m i) (leb draft.plan.t (ones m)) clear (lt-leb draft.plan.t (ones m) (omega arith)))) in
    record {
      answer = answer;
      same = refl;
      after = ap (λ (x : ℕ). bit_or m x) e ∙ ap (λ (r : Result (Unit {0}) Refusal). cond (is_ok r) (bit_or m (2 ^ i)) m) answer;
      adds = λ j. ap (λ (x : ℕ). marked (bit_or m x) j) e ∙ set_marked m i j;
    }
