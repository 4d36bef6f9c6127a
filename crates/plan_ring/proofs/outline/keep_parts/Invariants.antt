-- The closed parts up to the mark at hand are added.
use Rattle.plan_slab.specs.Subdivision.{slabs_of, regions_of}
use Rattle.plan_ring.proofs.Outlining.{HasParts}
use Rattle.plan_ring.proofs.outline.keep_parts.Given as goal

abbrev pub invariant-loop-at : goal.invariant-loop-at
invariant-loop-at l = HasParts (slabs_of l.slabs) (regions_of l.slabs) l.line l.from l.to l.at l.fn.segments.items l.segments.items
