-- What is kept of the regions so far.
use Rattle.std.proofs.Common.{[], take}
use Rattle.plan_spec.specs.Rings.{ring}
use Rattle.plan_ring.specs.Grown.{HasAdded}
use Rattle.plan_slab.specs.Subdivision.{slabs_of, regions_of}
use Rattle.plan_ring.proofs.outline.ring.Given as goal

abbrev pub invariant-loop-number : goal.invariant-loop-number
invariant-loop-number l = HasAdded [] l.segments.items (ring (slabs_of l.map) (regions_of l.map) (take l.number-index l.number-items))
