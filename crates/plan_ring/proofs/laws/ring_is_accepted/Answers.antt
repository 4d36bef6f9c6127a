-- The law that the ring of a component is accepted.
use Rattle.plan_slab.proofs.Decomposition.{decomposition}
use Rattle.plan_ring.proofs.Component.{ring_points, ring_accepted}
use Rattle.plan_ring.proofs.laws.ring_is_accepted.Goals as goal

pub returns : goal.returns
returns c = λ sums room pieces σ found has regions s g m n ns hs hg is it whole apart. let d = decomposition has regions in (ring_points d m ns is.is_region whole, ring_accepted d m ns is.is_region whole s g n hs hg it.is_region is.holds it.holds apart)
