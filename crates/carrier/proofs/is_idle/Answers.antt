use Rattle.std.proofs.Common.{rules, ℕ, ◌==◌, refl, ◌∙◌}
use Rattle.std.proofs.lemmas.Iterator.{YieldsList-from_range}
use Rattle.std.proofs.lemmas.Iterator.Search.{all_from_yields_List}
use Rattle.carrier.specs.Waiting.{capped}
use Rattle.protocol.specs.Bags.{waiting_for}
use Rattle.carrier.proofs.Counts.{none_waits}
use Rattle.carrier.proofs.is_idle.Goals as goal

pub returns : goal.returns
returns g c =
    let ms = g.C.Carrier.waiting c.args.carrier.now in
    let test = λ (k : ℕ). capped (waiting_for k ms) == 0 in
    all_from_yields_List test _ _ _ c.all.ensures.ran (YieldsList-from_range 0 _ _ refl refl) (λ x b q k. search rules) ∙ none_waits ms
