-- The law that each cell and each wall is of one kind.
use Rattle.plan_slab.proofs.Regions.ExactlyOne.{known_slabs, one_kind, spot_inside}
use Rattle.plan_slab.proofs.laws.one_kind.Goals as goal

pub returns : goal.returns
returns c = λ sums room pieces σ h lot is. let k = known_slabs h in (spot_inside k lot is, λ p q hp hq. one_kind k lot is p q hp hq)
