-- A shape in range has no other fault.
use Rattle.std.proofs.Common.{subst}
use Rattle.plan_grid.proofs.Spots.{origin}
use Rattle.plan_poly.specs.Polygon.{IsFault}
use Rattle.plan_poly.specs.declared.fault.PolyFault.TheVariants.{Range}
use Rattle.plan_scene.proofs.scene.simple.Goals as goal

pub unreachable-requires-in-Err-Range : goal.unreachable-requires-in-Err-Range
unreachable-requires-in-Err-Range c =
    let f : IsFault c.args.spots.items (Range c.in-Err-Range.field-0-0) = subst (IsFault c.args.spots.items) c.in-Err-Range.field-0-is c.in-Err-Range.ensures in
    f.1.out origin (c.requires.1 c.in-Err-Range.field-0-0 origin f.1.within)
