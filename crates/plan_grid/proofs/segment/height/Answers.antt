-- The rise from left to right is shared in the proportion of the ways before and after x.
use Rattle.std.proofs.Common.{rules, ◌≡◌, pos, ◌+ℤ◌, ◌-ℤ◌, ◌*ℤ◌, neg_ℤ, ◌≤ℤ◌, ◌<ℤ◌, ◌≤◌, ◌^◌, ◌∙◌, ap, unsigned_abs, w32, SFits, to_z-of_z, arith}
use Rattle.std.specs.Int.{w128}
use Rattle.plan_exact.proofs.Laws.{linear}
use Rattle.plan_exact.proofs.Sizes.{product_at_most}
use Rattle.plan_grid.proofs.Heights.{width_is_positive, mean_size, sum_size, value_is_height, point_is_on}
use Rattle.plan_grid.proofs.segment.height.Goals as goal
use Rattle.plan_grid.proofs.segment.height.Goals.{After-get-2, After-new}

past : (c : After-get-2) → c.way_to-past.result ≡ c.args.x.num -ℤ c.args.a.x *ℤ c.args.x.den
past c =
    let fits : SFits w32 c.args.a.x = search rules in
    simp to_z-of_z at c.way_to-past.ensures.value

left : (c : After-get-2) → c.negated-left.result ≡ neg_ℤ (c.args.x.num -ℤ c.args.b.x *ℤ c.args.x.den)
left c =
    let fits : SFits w32 c.args.b.x = search rules in
    c.negated-left.ensures.value ∙ ap neg_ℤ (simp to_z-of_z at c.way_to.ensures.value)

a_y : (c : After-get-2) → c.from.result ≡ c.args.a.y
a_y c =
    let fits : SFits w32 c.args.a.y = search rules in
    simp to_z-of_z at c.from.ensures.0

b_y : (c : After-get-2) → c.from-2.result ≡ c.args.b.y
b_y c =
    let fits : SFits w32 c.args.b.y = search rules in
    simp to_z-of_z at c.from-2.ensures.0

x_positive : (c : After-get-2) → pos 0 <ℤ c.args.x.den
x_positive c = let h = c.way_to.ensures.in_range.positive in omega (arith, linear)

pub times-requires : goal.times-requires
times-requires c =
    let left_size : unsigned_abs c.negated-left.result ≤ 2 ^ 38 = omega (arith, c.negated-left.ensures.size, c.way_to.ensures.size) in
    omega (arith, product_at_most _ _ _ _ c.from.ensures.1 left_size)

pub times-requires-2 : goal.times-requires-2
times-requires-2 c =
    let past_size : unsigned_abs c.way_to-past.result ≤ 2 ^ 38 = omega (arith, c.way_to-past.ensures.size) in
    omega (arith, product_at_most _ _ _ _ c.from-2.ensures.1 past_size)

pub plus-requires : goal.plus-requires
plus-requires c = omega (arith, c.way_to-past.ensures.size, c.negated-left.ensures.size, c.way_to.ensures.size)

pub plus-rise-requires : goal.plus-rise-requires
plus-rise-requires c =
    let left_size : unsigned_abs c.negated-left.result ≤ 2 ^ 38 = omega (arith, c.negated-left.ensures.size, c.way_to.ensures.size) in
    let past_size : unsigned_abs c.way_to-past.result ≤ 2 ^ 38 = omega arith in
    omega (arith, product_at_most _ _ _ _ c.from.ensures.1 left_size, product_at_most _ _ _ _ c.from-2.ensures.1 past_size, c.times.ensures.size, c.times-2.ensures.size)

pub new-requires-clause-positive : goal.new-requires-clause-positive
new-requires-clause-positive c =
    let fits : SFits w128 c.get-2.result = search rules in
    let width = width_is_positive c.args.a.x c.args.b.x c.args.x.num c.args.x.den c.requires.rising (x_positive c) in
    rw (to_z-of_z fits, c.get-2.ensures, c.plus.ensures.value, past c, left c) (omega (arith, linear))

pub new-requires-clause-num_bounded : goal.new-requires-clause-num_bounded
new-requires-clause-num_bounded c =
    let num_fits : SFits w128 c.get.result = search rules in
    let den_fits : SFits w128 c.get-2.result = search rules in
    let p = past c in
    let l = left c in
    let before : pos 0 ≤ℤ c.way_to-past.result = omega (arith, linear, c.requires.from) in
    let after : pos 0 ≤ℤ c.negated-left.result = omega (arith, linear, c.requires.to) in
    let ay : unsigned_abs c.from.result ≤ 2046 = rw (a_y c) c.requires.a_bounded.y in
    let by : unsigned_abs c.from-2.result ≤ 2046 = rw (b_y c) c.requires.b_bounded.y in
    rw (to_z-of_z num_fits, to_z-of_z den_fits, c.get.ensures, c.get-2.ensures, c.plus.ensures.value, sum_size c.way_to-past.result c.negated-left.result before after)
    (mean_size _ _ _ _ _ _ _ c.plus-rise.ensures.size c.times.ensures.size c.times-2.ensures.size ay by)

value : (c : After-new) → c.new.result.num *ℤ ((c.args.x.num -ℤ c.args.a.x *ℤ c.args.x.den) +ℤ neg_ℤ (c.args.x.num -ℤ c.args.b.x *ℤ c.args.x.den)) ≡ (c.args.a.y *ℤ neg_ℤ (c.args.x.num -ℤ c.args.b.x *ℤ c.args.x.den) +ℤ c.args.b.y *ℤ (c.args.x.num -ℤ c.args.a.x *ℤ c.args.x.den)) *ℤ c.new.result.den
value c =
    let d = (goal.at.returns-clause-on_segment c).After-get-2 in
    let num_fits : SFits w128 c.get.result = search rules in
    let den_fits : SFits w128 c.get-2.result = search rules in
    rw (c.get.ensures, c.get-2.ensures, c.plus.ensures.value, c.plus-rise.ensures.value, c.times.ensures.value, c.times-2.ensures.value, past d, left d, a_y d, b_y d) at (simp to_z-of_z at c.new.ensures.value)

r_positive : (c : After-new) → pos 0 <ℤ c.new.result.den
r_positive c = omega (arith, linear, c.new.ensures.in_range.positive)

pub returns-clause-on_segment : goal.returns-clause-on_segment
returns-clause-on_segment c =
    let x = x_positive (goal.at.returns-clause-on_segment c).After-get-2 in
    point_is_on c.args.a.x c.args.a.y c.args.b.x c.args.b.y c.args.x c.new.result c.requires.rising c.requires.from c.requires.to x (r_positive c) (value c)

pub returns-clause-value : goal.returns-clause-value
returns-clause-value c =
    let x = x_positive (goal.at.returns-clause-value c).After-get-2 in
    value_is_height c.args.a.x c.args.a.y c.args.b.x c.args.b.y c.args.x c.new.result c.requires.rising c.requires.from c.requires.to x (r_positive c) (value c)
