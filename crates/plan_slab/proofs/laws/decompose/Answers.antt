-- The law that slabs and their regions are a decomposition.
use Rattle.plan_slab.proofs.Decomposition.{decomposition}
use Rattle.plan_slab.proofs.laws.decompose.Goals as goal

pub returns : goal.returns
returns c = λ sums room pieces σ found has regions. decomposition has regions
