-- The product of both, divided by the greatest common divisor, is the least common multiple.
use Rattle.std.proofs.Common.{rules, ◌<◌, ◌*◌, ◌/◌, arith}
use Rattle.std.proofs.lemmas.Nat.Gcd.{mod-eq-zero_of_dvd}
use Rattle.plan_grid.specs.Fraction.{IsLcm}
use Rattle.plan_grid.proofs.Lowest.{divisor_is_positive}
use Rattle.plan_grid.proofs.Multiples.{lcm_from_gcd, lcm_is_positive}
use Rattle.plan_grid.proofs.gcd.lcm.Goals as goal
use Rattle.plan_grid.proofs.gcd.lcm.Goals.{After-gcd}

positive : (c : After-gcd) → 0 < c.gcd.result
positive c = divisor_is_positive c.gcd.result c.args.a c.requires.a_positive c.gcd.ensures.0

is_lcm : (c : After-gcd) → IsLcm c.args.a c.args.b (c.args.a / c.gcd.result * c.args.b)
is_lcm c =
    let h = positive c in
    let e = mod-eq-zero_of_dvd c.gcd.result c.gcd.ensures.0 in
    lcm_from_gcd c.args.a c.args.b c.gcd.result (c.args.a / c.gcd.result) h (omega arith) c.gcd.ensures

pub nonzero_div-result : goal.nonzero_div-result
nonzero_div-result c = positive c

pub overflow_mul-result : goal.overflow_mul-result
overflow_mul-result c = let h = c.requires.bounded _ (is_lcm c) in search rules

pub returns-clause-least : goal.returns-clause-least
returns-clause-least c = is_lcm c

pub returns-clause-positive : goal.returns-clause-positive
returns-clause-positive c = lcm_is_positive _ _ _ c.requires.a_positive c.requires.b_positive (is_lcm c)
