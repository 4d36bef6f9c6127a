-- Division by a divisor leaves no rest.
use Rattle.std.proofs.Common.{rules, pos, ◌<ℤ◌, w64, SFits, arith}
use Rattle.std.proofs.lemmas.Int.{ints, quot_is, quot_fits}
use Rattle.plan_grid.proofs.Divisors.{quotient_is_exact}
use Rattle.plan_grid.proofs.gcd.quotient.Goals as goal

pub returns : goal.returns
returns c =
    let d_fits : SFits w64 (pos c.args.d) = search rules in
    let d_positive : pos 0 <ℤ pos c.args.d = omega (arith, ints) in
    rw (quot_is w64 c.args.a (pos c.args.d) c.ranges.a d_fits (quot_fits w64 c.args.a (pos c.args.d) c.ranges.a d_positive)) (quotient_is_exact c.args.a c.args.d c.requires.divides)
