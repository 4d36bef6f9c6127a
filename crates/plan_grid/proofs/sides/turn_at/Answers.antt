-- The cross product of the two ways that were computed, the second times the weight, is the turn.
use Rattle.std.proofs.Common.{SFits, to_z-of_z, w32, w64, ◌∙◌, arith, rules}
use Rattle.plan_exact.proofs.Sizes.{product_at_most}
use Rattle.plan_grid.proofs.Turns.{turn_beside}
use Rattle.plan_grid.proofs.sides.turn_at.Goals as goal

pub weighted_step-zx-requires : goal.weighted_step-zx-requires
weighted_step-zx-requires c =
    let fits : SFits w64 c.w.result = search rules in
    let w = simp to_z-of_z at c.from-w.ensures.0 in
    rw (w, c.w.ensures.value) c.w.ensures.in_range.weight_bounded

pub weighted_step-zy-requires : goal.weighted_step-zy-requires
weighted_step-zy-requires c =
    let fits : SFits w64 c.w.result = search rules in
    let w = simp to_z-of_z at c.from-w.ensures.0 in
    rw (w, c.w.ensures.value) c.w.ensures.in_range.weight_bounded

pub crossed-requires : goal.crossed-requires
crossed-requires c =
    omega (arith, product_at_most _ _ _ _ c.step-bx.ensures.size c.weighted_step-zy.ensures.bound, product_at_most _ _ _ _ c.step-by.ensures.size c.weighted_step-zx.ensures.bound)

pub returns : goal.returns
returns c =
    let fits : SFits w64 c.w.result = search rules in
    let ax : SFits w32 c.args.a.x = search rules in
    let ay : SFits w32 c.args.a.y = search rules in
    let bx : SFits w32 c.args.b.x = search rules in
    let by : SFits w32 c.args.b.y = search rules in
    let zx : SFits w64 c.x.result = search rules in
    let zy : SFits w64 c.y.result = search rules in
    let w = simp to_z-of_z at c.from-w.ensures.0 in
    let b_x = simp to_z-of_z at c.step-bx.ensures.value in
    let b_y = simp to_z-of_z at c.step-by.ensures.value in
    let z_x = simp to_z-of_z at c.weighted_step-zx.ensures.value in
    let z_y = simp to_z-of_z at c.weighted_step-zy.ensures.value in
    c.crossed.ensures ∙ rw (b_x, b_y, z_x, z_y, w, c.w.ensures.value, c.x.ensures.value, c.y.ensures.value) (turn_beside c.args.a c.args.b c.args.z.now)
