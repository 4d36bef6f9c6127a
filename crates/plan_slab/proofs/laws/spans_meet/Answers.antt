-- The law that spans meet the lines of their slab in marks, in their order.
use Rattle.plan_slab.proofs.Meets.InOrder.{meets_at, meets_in_order}
use Rattle.plan_slab.proofs.Regions.ExactlyOne.{known_slabs}
use Rattle.plan_slab.proofs.laws.spans_meet.Goals as goal

pub returns : goal.returns
returns c = λ sums room pieces σ has k h i hk b. let known = known_slabs has in (λ hi. meets_at known k hk i h hi b, λ hi. meets_in_order known k hk i h hi b)
