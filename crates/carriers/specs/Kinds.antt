-- The type of a basket.
use Rattle.carriers.specs.declared.choices.Picked.{Picked}
use Rattle.carriers.specs.declared.ordered.Ordered.{Ordered}

abbrev pub Basket : Type 0
Basket = Ordered Picked
