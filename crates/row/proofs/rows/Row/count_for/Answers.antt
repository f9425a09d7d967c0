use Rattle.std.proofs.Common.{◌≡◌, cond, sym, ap, ◌∙◌, arith}
use Rattle.std.specs.List.{count_by}
use Rattle.std.proofs.lemmas.List.{take_all}
use Rattle.std.proofs.lemmas.List.Recursion.{is_sum_by}
use Rattle.protocol.specs.Bags.{count, addressed}
use Rattle.protocol.proofs.Bags.{count_none, count_cons}
use Rattle.row.specs.Order.{listed}
use Rattle.row.proofs.rows.Row.count_for.Goals as goal

pub returns : goal.returns
returns c =
    let ms = listed c.args.self.now in
    let p = addressed c.args.process in
    let h : c.loop-message.count ≡ count_by p ms =
    c.loop-message.invariant.0
    ∙ ap (count_by p) (take_all c.loop-message.message-index c.waiting-waiting.result.now (omega arith) ∙ c.waiting-waiting.ensures) in
    h ∙ sym (is_sum_by (count p) (λ x. cond (p x) 1 0) (count_none p) (count_cons p) ms)
