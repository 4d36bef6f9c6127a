-- The spots so far stand behind the points.
use Rattle.std.proofs.Common.{map, take}
use Rattle.plan_spec.specs.Regions.{region_at, spot_of}
use Rattle.plan_slab.specs.Subdivision.{slabs_of, regions_of}
use Rattle.plan_reply.specs.Path.{AreLonger}
use Rattle.plan_reply.proofs.path.push_stops.Given as goal

abbrev pub invariant-loop-number : goal.invariant-loop-number
invariant-loop-number l = AreLonger (map (λ n. spot_of (slabs_of l.map) (region_at (regions_of l.map) n)) (take l.number-index l.regions)) l.fn.points.items l.points.items
