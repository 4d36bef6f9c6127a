-- The sum of both numerators over the common denominator, and twice that denominator, are the middle.
use Rattle.std.proofs.Common.{rules, pos, ◌<ℤ◌, SFits, to_z-of_z, arith}
use Rattle.std.proofs.lemmas.Int.{ints}
use Rattle.std.specs.Int.{w128}
use Rattle.plan_grid.proofs.Values.{middle_value}
use Rattle.plan_grid.proofs.ratio.middle.Goals as goal

pub new-requires-clause-positive : goal.new-requires-clause-positive
new-requires-clause-positive c =
    let fits : SFits w128 c.from.result = search rules in
    rw (to_z-of_z fits, c.from.ensures) (omega (arith, ints, c.common_denominator-l.ensures.positive))

pub returns-clause-value : goal.returns-clause-value
returns-clause-value c =
    let num_fits : SFits w128 c.get.result = search rules in
    let den_fits : SFits w128 c.from.result = search rules in
    let value = rw (c.get.ensures, c.from.ensures, c.plus-sum.ensures.value) at (simp to_z-of_z at c.new.ensures.value) in
    let positive : pos 0 <ℤ pos c.common_denominator-l.result = omega (arith, ints, c.common_denominator-l.ensures.positive) in
    middle_value _ _ c.args.a.num c.args.a.den c.args.b.num c.args.b.den _ _ _ positive c.over.ensures.value c.over-2.ensures.value value
