-- Both numerators are at most 2046 times their denominators, and so is their sum.
use Rattle.std.proofs.Common.{rules, SFits, to_z-of_z, arith}
use Rattle.std.specs.Int.{w128}
use Rattle.plan_grid.proofs.Values.{sum_bounded}
use Rattle.plan_grid.proofs.ratio.mediant.Goals as goal

pub plus-num-requires : goal.plus-num-requires
plus-num-requires c =
    let a = c.whole_num.ensures in
    let b = c.whole_num-2.ensures in
    rw (a.value, b.value) (omega (arith, a.in_range.num_bounded, a.in_range.den_bounded, b.in_range.num_bounded, b.in_range.den_bounded))

pub plus-den-requires : goal.plus-den-requires
plus-den-requires c = rw (c.whole_den.ensures.value, c.whole_den-2.ensures.value) (omega (arith, c.requires.a_bounded, c.requires.b_bounded))

pub new-requires-clause-den_bounded : goal.new-requires-clause-den_bounded
new-requires-clause-den_bounded c =
    let d : SFits w128 c.get-2.result = search rules in
    let size = rw (c.whole_den.ensures.value, c.whole_den-2.ensures.value) at c.plus-den.ensures.size in
    rw (to_z-of_z d, c.get-2.ensures) (omega (arith, size, c.requires.a_bounded, c.requires.b_bounded))

pub new-requires-clause-num_bounded : goal.new-requires-clause-num_bounded
new-requires-clause-num_bounded c =
    let n : SFits w128 c.get.result = search rules in
    let d : SFits w128 c.get-2.result = search rules in
    let a = c.whole_num.ensures.in_range in
    let b = c.whole_num-2.ensures.in_range in
    rw (to_z-of_z n, to_z-of_z d, c.get.ensures, c.get-2.ensures, c.plus-num.ensures.value, c.plus-den.ensures.value, c.whole_num.ensures.value, c.whole_num-2.ensures.value, c.whole_den.ensures.value, c.whole_den-2.ensures.value)
    (sum_bounded c.args.a.num c.args.a.den c.args.b.num c.args.b.den a.positive b.positive a.num_bounded b.num_bounded)
