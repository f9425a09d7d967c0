-- What a change of a slip's state leaves, and that a slip says the truth.
use Rattle.std.proofs.Common.{◌≡◌, ℕ, Bool, true, false, not, ltb, length, set, Some, None, Ok, Option, refl, ap, ◌∙◌, arith, length-set, get_or-set_same}
use Rattle.std.proofs.lemmas.Bool.{both_ways, and_parts, and_from, cond-true, ltb-true, lt-ltb, le-leb}
use Rattle.protocol.specs.declared.refusals.Refusal.{Refusal}
use Rattle.protocol.specs.declared.refusals.Refusal.TheVariants.{MemoryTooSmall, ProcessOutOfRange, WrongRole}
use Rattle.protocol.specs.declared.votes.Side.{Side}
use Rattle.protocol.specs.declared.votes.Side.TheVariants.{Keep, Release}
use Rattle.plan.specs.Kinds.{Line}
use Rattle.memory.specs.Contents.{Held, unopened}
use Rattle.memory.specs.Places.{enough, case_place}
use Rattle.memory.proofs.Grid.{laid}
use Rattle.memory.proofs.Sizes.{sizes}
use Rattle.plan.specs.Plans.{needs_of}
use Rattle.rules.specs.Turns.{faulty, unless, correct_tests}
use Rattle.memory.specs.declared.records.CaseRecord.{CaseRecord}
use Rattle.memory.specs.declared.records.Decision.{Decision}
use Rattle.memory.specs.declared.records.Slip.TheVariants.{Out}
use Rattle.rules.specs.Promises.{Correct}
use Rattle.rules.proofs.Theorem.{kept}
use Rattle.slips.specs.Slips.{releases, decides_release, may_issue, is_out, record_at, with_slip, back_refusal, Truthful}
use Rattle.slips.specs.declared.slip.ReleaseSlip.{ReleaseSlip}

module _ (line : Line) (h : Held) (i c : ℕ) where
  -- a stored decision for release
  released : (o : Option Decision) → decides_release o ≡ true → (k : ℕ) × (o ≡ Some (record { side = Release; phase = k }))
  released None e = absurd (both_ways false refl e)
  released (Some d) e = side d.side refl e
    where
      side : (v : Side) → d.side ≡ v → releases v ≡ true → (k : ℕ) × (Some d ≡ Some (record { side = Release; phase = k }))
      side Keep x y = absurd (both_ways false refl y)
      side Release x y = (d.phase, ap (λ w. Some (record { side = w; phase = d.phase })) x)

  pub truth : (slip : ReleaseSlip) → Correct line i → ltb c line.plan.cases ≡ true → may_issue (record_at line h i c) ≡ true → Truthful line h i c (Ok slip)
  truth slip correct known issues capacity coin es ws run =
      let stored = released (record_at line h i c).decision (and_parts _ _ issues).0 in
      (stored.0, ((kept line capacity coin es h ws run).recorded.decided i c correct (ltb-true c line.plan.cases known) Release stored.0).0 stored.1)

-- a slip that was just issued can be given back
module _ (line : Line) (h : Held) (i c : ℕ) (before : (rest : Option Refusal) → correct_tests line h i rest ≡ rest) (correct : Correct line i) (known : ltb c line.plan.cases ≡ true) where
  large : enough line.plan h ≡ true
  large = go (enough line.plan h) (before None)
    where
      go : (b : Bool) → unless b MemoryTooSmall (unless (ltb i line.plan.n) ProcessOutOfRange (unless (not (faulty line i)) WrongRole None)) ≡ None → b ≡ true
      go true e = refl
      go false e = let z : ◌≡◌ {A = ℕ} 0 1 = cc in absurd (omega arith)

  pub out_now : back_refusal line (with_slip line h i c Out) i c ≡ None
  out_now =
      let size = sizes line.plan h large in
      let at = case_place line.plan i c in
      let new : CaseRecord = record { round = (record_at line h i c).round; decision = (record_at line h i c).decision; slip = Out } in
      let place = (laid line.plan).case_inside i c correct.0 (ltb-true c line.plan.cases known) in
      let here = get_or-set_same h.cases at new unopened (omega (arith, size.cases, place)) in
      let needs = needs_of line.plan in
      let still = and_from _ _ (le-leb _ _ size.broadcasts) (and_from _ _ (le-leb _ _ size.bodies) (and_from _ _ (le-leb needs.case_records (length (set h.cases at new)) (omega (arith, size.cases, length-set h.cases at new))) (le-leb _ _ size.serials))) in
      cond-true _ _ _ still ∙ cond-true _ _ _ (lt-ltb i line.plan.n correct.0) ∙ cond-true _ _ _ known ∙ cond-true _ _ _ (ap (λ (r : CaseRecord). is_out r.slip) here)
