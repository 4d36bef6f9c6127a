-- The law that all slabs of the same pieces have one size.
use Rattle.plan_slab.proofs.Pieces.{has_pieces}
use Rattle.plan_slab.proofs.Sorted.Size.{one_size}
use Rattle.plan_slab.proofs.laws.one_size.Goals as goal

pub returns : goal.returns
returns c = λ sums room pieces σ τ h k. one_size (has_pieces h.floor h.bound) σ τ h.slabs k.slabs
