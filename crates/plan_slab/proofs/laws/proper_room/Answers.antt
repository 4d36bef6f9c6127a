-- The law that a room without width or without height has no region.
use Rattle.plan_slab.proofs.Regions.ExactlyOne.{known_slabs}
use Rattle.plan_slab.proofs.Regions.Numbered.{proper}
use Rattle.plan_slab.proofs.laws.proper_room.Goals as goal

pub returns : goal.returns
returns c = λ sums room pieces σ found h regions some. proper (known_slabs h) regions some
