-- The law that what is no region is clear nowhere.
use Rattle.plan_slab.proofs.Regions.ExactlyOne.{known_slabs}
use Rattle.plan_slab.proofs.Regions.Numbered.{other_touches}
use Rattle.plan_slab.proofs.laws.others_touch.Goals as goal

pub returns : goal.returns
returns c = λ sums room pieces σ found has regions lot is out z hz holds. other_touches (known_slabs has) regions lot z hz is holds out
