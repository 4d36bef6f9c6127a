-- The law that each clear point is in exactly one region, and no other is in any.
use Rattle.plan_slab.proofs.Regions.ExactlyOne.{known_slabs}
use Rattle.plan_slab.proofs.Regions.Numbered.{exactly_one, region_clear}
use Rattle.plan_slab.proofs.laws.exactly_one.Goals as goal

pub returns : goal.returns
returns c = λ sums room pieces σ found h regions z hz. let k = known_slabs h in (λ clear. exactly_one k regions z hz clear, λ (n, is). region_clear k regions n z is.is_region hz is.holds)
