use Rattle.coin.proofs.strips.DealerStripCoin.toss.Goals as goal

pub returns : goal.returns
returns c = c.toss_for_all.ensures.answer 0
