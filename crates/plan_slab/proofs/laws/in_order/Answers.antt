-- The law that regions are numbered in their order.
use Rattle.plan_slab.proofs.Regions.ExactlyOne.{known_slabs}
use Rattle.plan_slab.proofs.Regions.Numbered.{is_lot, in_order}
use Rattle.plan_slab.proofs.laws.in_order.Goals as goal

pub returns : goal.returns
returns c = λ sums room pieces σ found has regions m n hm hn. let known = known_slabs has in (is_lot known regions n hn, in_order known regions m n hm hn)
