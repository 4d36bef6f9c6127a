-- The weights of spots are 1.
use Rattle.std.proofs.Common.{rules, SFits, to_z-of_z, sym, ap₂, int_lt}
use Rattle.std.specs.Int.{w128}
use Rattle.plan_exact.proofs.Signs.{mul_one}
use Rattle.plan_spec.specs.Vector.{turn}
use Rattle.plan_grid.specs.Spot.{spot_seen}
use Rattle.plan_tri.proofs.search.is_farther.Goals as goal

pub returns : goal.returns
returns c =
    let fits_x : SFits w128 c.side.result = search rules in
    let fits_y : SFits w128 c.side-2.result = search rules in
    let w = spot_seen c.args.w in let u = spot_seen c.args.u in
    rw (to_z-of_z fits_x, to_z-of_z fits_y, c.side.ensures, c.side-2.ensures) (sym (ap₂ int_lt (mul_one (turn w u (spot_seen c.args.x))) (mul_one (turn w u (spot_seen c.args.y)))))
