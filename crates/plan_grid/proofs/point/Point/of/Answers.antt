-- A spot has the weight 1, so it is in lowest terms.
use Rattle.std.proofs.Common.{rules, SFits, to_z-of_z, w32, w64}
use Rattle.plan_grid.proofs.Lowest.{spot_is_in_range}
use Rattle.plan_grid.proofs.point.Point.of.Goals as goal

pub invariant_of-result : goal.invariant_of-result
invariant_of-result c =
    let fx : SFits w32 c.args.spot.x = search rules in
    let fy : SFits w32 c.args.spot.y = search rules in
    let gx : SFits w64 c.from.result = search rules in
    let gy : SFits w64 c.from-2.result = search rules in
    let x = simp to_z-of_z at c.from.ensures in
    let y = simp to_z-of_z at c.from-2.ensures in
    rw (to_z-of_z gx, to_z-of_z gy, x, y) (spot_is_in_range c.args.spot.x c.args.spot.y c.requires.x c.requires.y)
