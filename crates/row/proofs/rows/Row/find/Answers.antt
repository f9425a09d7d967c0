use Rattle.std.proofs.Common.{◌≡◌, ℕ, ◌+◌, ◌≤◌, List, length, drop, Some, sym, ap, ◌∙◌, subst, arith}
use Rattle.std.proofs.lemmas.Bool.{eq-eqb, ne_eqb}
use Rattle.protocol.specs.declared.messages.Message.{Message}
use Rattle.row.specs.Order.{listed, place, standing}
use Rattle.row.proofs.Order.{drop_here, drop_skip, drop_pass, drop_none, standing_at, standing_past}
use Rattle.row.proofs.rows.Row.find.Goals as goal
use Rattle.row.proofs.rows.Row.find.Goals.{then-addressee-process+else-before-eq0, else-addressee-process}

pub loop-at-init : goal.loop-at-init
loop-at-init c = omega arith

pub returns-then-before-eq0 : goal.returns-then-before-eq0
returns-then-before-eq0 c =
    let process = c.args.process in
    let number = c.args.number in
    let ms = c.waiting-waiting.result.now in
    let at = c.loop-at.at in
    let d = c.index-waiting-at.result in
    let read = ap (λ (m : Message). m.addressee) (sym c.index-waiting-at.is) in
    let here = drop_here process ms at d (omega arith) (eq-eqb _ process (read ∙ sym c.addressee.ensures ∙ c.if-addressee-process.true)) in
    let none = ap (λ (k : ℕ). place process k (drop at ms)) c.if-before-eq0.true in
    let stands : place process number ms ≡ at = omega (arith, here, none, c.loop-at.invariant) in
    subst (λ (xs : List Message). Some at ≡ standing process number xs) c.waiting-waiting.ensures (standing_at process number ms at stands (omega arith))

pub loop-at-preserved : goal.loop-at-preserved
loop-at-preserved c =
    let process = c.args.process in
    let ms = c.waiting-waiting.result.now in
    let at = c.loop-at.at in
    let before = c.loop-at.before in
    let d = c.index-waiting-at.result in
    let read = ap (λ (m : Message). m.addressee) (sym c.index-waiting-at.is) ∙ sym c.addressee.ensures in
    elim c.if-addressee-process.branch [
      | then-addressee-process+else-before-eq0 w ↦
          let skip = drop_skip process ms at d (omega arith) before (omega (arith, w.if-before-eq0.false)) (eq-eqb _ process (read ∙ w.if-addressee-process.true)) in
          let next = ap (λ (k : ℕ). place process k (drop (at + 1) ms)) w.before-is in
          omega (arith, skip, next, c.loop-at.invariant)
      | else-addressee-process w ↦
          let pass = drop_pass process ms at d (omega arith) before (ne_eqb _ process (λ e. w.if-addressee-process.false (sym read ∙ e))) in
          let next = ap (λ (k : ℕ). place process k (drop (at + 1) ms)) w.before-is in
          omega (arith, pass, next, c.loop-at.invariant)
    ]

pub returns : goal.returns
returns c =
    let process = c.args.process in
    let number = c.args.number in
    let ms = c.waiting-waiting.result.now in
    let past : length ms ≤ place process number ms = omega (arith, drop_none process c.loop-at.before ms c.loop-at.at (omega arith), c.loop-at.invariant) in
    standing_past process number (listed c.args.self.now) (subst (λ (xs : List Message). length xs ≤ place process number xs) c.waiting-waiting.ensures past)
