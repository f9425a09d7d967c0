-- How many messages wait for a process.
use Rattle.std.proofs.Common.{◌≡◌, ℕ, ◌+◌, ◌<◌, ◌==◌, Bool, true, List, [], ◌∷◌, length, get_or, refl, sym, ap, ◌∙◌, arith}
use Rattle.std.specs.List.{list_all, range_with_len}
use Rattle.std.proofs.lemmas.Bool.{eq-eqb, ne_eqb, cond-true}
use Rattle.std.proofs.lemmas.List.Folds.{list_all_at}
use Rattle.std.proofs.lemmas.List.FromFn.{get_or-range_with_len}
use Rattle.protocol.specs.declared.messages.Message.{Message}
use Rattle.protocol.specs.Bags.{count, addressed, waiting_for}
use Rattle.protocol.proofs.Bags.{count_cons}
use Rattle.carrier.specs.Waiting.{capped}

pub counted : (p : Message → Bool) (m : Message) (ms : List Message) → p m ≡ true → count p (m ∷ ms) ≡ 1 + count p ms
counted p m ms h = count_cons p m ms ∙ ap (λ (n : ℕ). n + count p ms) (cond-true (p m) 1 0 h)

-- every message is for a process below 16
pub none_waits : (ms : List Message) → list_all (λ k. capped (waiting_for k ms) == 0) (range_with_len 0 16) ≡ (length ms == 0)
unfolding count
none_waits [] = refl
none_waits (m ∷ ms) =
    let to = m.addressee in
    let at : get_or (range_with_len 0 16) to 0 ≡ to = get_or-range_with_len 0 16 to 0 m.addressed ∙ omega arith in
    let waits : 0 < waiting_for to (m ∷ ms) = omega (arith, counted (addressed to) m ms (eq-eqb to to refl)) in
    list_all_at (λ k. capped (waiting_for k (m ∷ ms)) == 0) (range_with_len 0 16) to 0 m.addressed
    (ap (λ k. capped (waiting_for k (m ∷ ms)) == 0) at ∙ ne_eqb _ 0 (λ e. omega arith))
    ∙ sym (ne_eqb (length (m ∷ ms)) 0 (λ e. omega arith))
