use Rattle.std.proofs.Common.{rules, SFits, w32, to_z-of_z}
use Rattle.plan_exact.proofs.Signs.{mul_one}
use Rattle.plan_poly.proofs.edge.is_within_x.Goals as goal

pub returns : goal.returns
returns c =
    let fits_a : SFits w32 c.args.s.a.x = search rules in
    let fits_b : SFits w32 c.args.s.b.x = search rules in
    let fits : SFits w32 c.args.spot.x = search rules in
    rw (mul_one c.args.s.a.x, mul_one c.args.s.b.x, mul_one c.args.spot.x) (simp to_z-of_z at c.is_between.ensures)
