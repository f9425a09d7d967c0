use Rattle.std.proofs.Common.{rules, ◌≡◌, ℕ, ◌+◌, cond, ◌&&◌, ltb, None, sym, ap, ◌∙◌, arith, add-one}
use Rattle.std.proofs.lemmas.List.{get_or_past}
use Rattle.std.proofs.lemmas.Grind.{common_steps}
use Rattle.protocol.specs.Counting.{below}
use Rattle.protocol.proofs.Counting.{below_none, below_suc, below_le}
use Rattle.consensus.specs.Validity.{lowest}
use Rattle.ballots.specs.Tallies.{ballot_in}
use Rattle.cases.specs.Steps.{stands}
use Rattle.ballots.proofs.Filling.{filled_none, filled_more, filled_all}
use Rattle.cases.proofs.Lowest.{chosen_at, none_chosen}
use Rattle.cases.proofs.choosing.choose_lowest.Goals as goal

pub loop-k-init : goal.loop-k-init
loop-k-init c = (sym (below_none (stands (ballot_in c.args.row.now))), filled_none _)

pub overflow_add-seen : goal.overflow_add-seen
overflow_add-seen c = let few = below_le c.loop-k.k (stands (ballot_in c.args.row.now)) in grind (arith, common_steps)

pub loop-k-preserved : goal.loop-k-preserved
unfolding lowest
loop-k-preserved c =
    let k = c.loop-k.k in
    let g = ballot_in c.args.row.now in
    let kept : c.filter.result ≡ cond (ltb c.loop-k.seen c.args.m) (g k) None = search rules in
    let more : below (k + 1) (stands g) ≡ cond (stands g k) 1 0 + below k (stands g) = ap (λ (n : ℕ). below n (stands g)) (add-one k) ∙ below_suc k (stands g) in
    let one : c.from.result ≡ cond (stands g k) 1 0 = search rules in (
      omega (arith, more, one),
      filled_more k _ c.loop-k.chosen c.filter.result (omega arith) c.loop-k.invariant.1
          (kept
          ∙ chosen_at c.loop-k.seen c.args.m (g k)
          ∙ ap (λ (s : ℕ). cond (stands g k && ltb s c.args.m) (g k) None) c.loop-k.invariant.0),
    )

pub returns : goal.returns
unfolding lowest
returns c =
    let row = c.args.row.now in
    filled_all c.loop-k.k _ c.loop-k.chosen c.loop-k.invariant.1
    (λ k l. none_chosen (lowest c.args.m (stands (ballot_in row)) k) (ballot_in row k) (get_or_past row k None (omega (arith, c.told-row))))
