use Rattle.std.proofs.Common.{Some, None, refl}
use Rattle.protocol.specs.Numbers.{vote}
use Rattle.protocol.specs.declared.votes.Side.TheVariants.{Keep, Release}
use Rattle.item.specs.Records.{recorded}
use Rattle.cases.specs.Steps.{step_by}
use Rattle.worked.specs.Rows.{RowHolds, third}
use Rattle.worked.proofs.worked_rows.Goals as goal

decide : RowHolds (third 4 1 3 0 (λ v. Some (vote v)) Some Some)
unfolding step_by
decide Keep = refl
decide Release = refl

force : RowHolds (third 4 1 2 1 (λ v. Some (vote v)) Some (λ _. None))
unfolding step_by
force Keep = refl
force Release = refl

toss : RowHolds (third 4 1 1 2 (λ _. None) (λ _. None) (λ _. None))
unfolding step_by
toss Keep = refl
toss Release = refl

pub returns : goal.returns
unfolding step_by recorded
returns c = (refl, (refl, (refl, (refl, (refl, (decide, (force, (toss, (refl, tt)))))))))
