-- The greatest common divisor of two, and of it and the third, is that of the three.
use Rattle.std.proofs.Common.{◌<◌, ◌^◌, unsigned_abs, w64, SFits, to_z-of_z, arith}
use Rattle.std.proofs.lemmas.Int.{ints}
use Rattle.plan_grid.proofs.Lowest.{divisor_of_gcds}
use Rattle.plan_grid.proofs.gcd.divisor.Goals as goal

pub returns : goal.returns
returns c =
    let fx : SFits w64 c.args.x = c.ranges.x in
    let fy : SFits w64 c.args.y = c.ranges.y in
    let fw : SFits w64 c.args.w = c.ranges.w in
    let x = simp to_z-of_z at c.unsigned_abs.ensures.value in
    let y = simp to_z-of_z at c.unsigned_abs-2.ensures.value in
    let w = simp to_z-of_z at c.unsigned_abs-3.ensures.value in
    let bounded : unsigned_abs c.args.w < 2 ^ 63 = omega (arith, ints, fw.sfits) in
    divisor_of_gcds c.args.x c.args.y c.args.w c.gcd.result c.gcd-2.result c.requires bounded (rw (x, y) at c.gcd.ensures) (rw w at c.gcd-2.ensures)
