-- The law that the first line and the last one have no free wall.
use Rattle.plan_slab.proofs.Regions.ExactlyOne.{known_slabs, inner_line}
use Rattle.plan_slab.proofs.laws.inner_walls.Goals as goal

pub returns : goal.returns
returns c = λ sums room pieces σ h k j is z hz holds clear. inner_line (known_slabs h) k j z hz is holds clear
