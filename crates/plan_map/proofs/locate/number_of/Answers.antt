-- Both marks of a wall are there.
use Rattle.std.proofs.Common.{subst, arith}
use Rattle.plan_spec.specs.Regions.{wall}
use Rattle.plan_slab.specs.Seen.{lot_seen}
use Rattle.plan_slab.specs.Subdivision.{slabs_of}
use Rattle.plan_slab.proofs.Counts.{line_count, mark_count}
use Rattle.plan_map.specs.Located.{IsThere}
use Rattle.plan_map.proofs.locate.number_of.Goals as goal

pub wall-requires-clause-at : goal.wall-requires-clause-at
wall-requires-clause-at c =
    let s = c.args.slabs.now in
    let is : IsThere (slabs_of s) (wall c.in-Wall.line c.in-Wall.at) = subst (λ lot. IsThere (slabs_of s) (lot_seen lot)) c.in-Wall.is c.requires in
    omega (arith, is.1, mark_count s c.in-Wall.line (omega (arith, is.0, line_count s)))
