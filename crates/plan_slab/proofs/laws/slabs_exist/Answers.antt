-- The law that pieces have slabs, and slabs have regions.
use Rattle.plan_slab.proofs.Pieces.{has_pieces}
use Rattle.plan_slab.proofs.Sorted.Exist.{slabs_exist, regions_exist}
use Rattle.plan_slab.proofs.laws.slabs_exist.Goals as goal

pub returns : goal.returns
returns c = λ sums room pieces floor bound. let (σ, are) = slabs_exist (has_pieces floor bound) in let (found, regions) = regions_exist sums room σ in (σ, found, record { floor = floor; bound = bound; slabs = are }, regions)
