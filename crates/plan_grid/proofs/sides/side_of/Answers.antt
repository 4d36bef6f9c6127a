-- The ways from the spot to both points, each times the weight of the point, have the turn as their cross product.
use Rattle.std.proofs.Common.{rules, SFits, to_z-of_z, w32, w64, ◌∙◌, arith}
use Rattle.plan_exact.proofs.Sizes.{product_at_most}
use Rattle.plan_grid.proofs.Sizes.{offset_size}
use Rattle.plan_grid.proofs.Turns.{turn_of_points}
use Rattle.plan_grid.proofs.sides.side_of.Goals as goal

pub crossed-requires : goal.crossed-requires
crossed-requires c =
    let cx : SFits w32 c.args.c.x = search rules in
    let cy : SFits w32 c.args.c.y = search rules in
    let fax : SFits w64 c.x.result = search rules in
    let fay : SFits w64 c.y.result = search rules in
    let faw : SFits w64 c.w.result = search rules in
    let fbx : SFits w64 c.x-2.result = search rules in
    let fby : SFits w64 c.y-2.result = search rules in
    let fbw : SFits w64 c.w-2.result = search rules in
    let aw = (simp to_z-of_z at c.from-a_weight.ensures.0) ∙ c.w.ensures.value in
    let bw = (simp to_z-of_z at c.from-b_weight.ensures.0) ∙ c.w-2.ensures.value in
    let a = c.w.ensures.in_range in
    let b = c.w-2.ensures.in_range in
    let ax = offset_size _ _ _ _ (simp (aw, c.x.ensures.value) at (simp to_z-of_z at c.weighted_step-ax.ensures.size)) a.x_bounded c.requires.x a.weight_bounded in
    let ay = offset_size _ _ _ _ (simp (aw, c.y.ensures.value) at (simp to_z-of_z at c.weighted_step-ay.ensures.size)) a.y_bounded c.requires.y a.weight_bounded in
    let bx = offset_size _ _ _ _ (simp (bw, c.x-2.ensures.value) at (simp to_z-of_z at c.weighted_step-bx.ensures.size)) b.x_bounded c.requires.x b.weight_bounded in
    let by = offset_size _ _ _ _ (simp (bw, c.y-2.ensures.value) at (simp to_z-of_z at c.weighted_step-by.ensures.size)) b.y_bounded c.requires.y b.weight_bounded in
    omega (arith, product_at_most _ _ _ _ ax by, product_at_most _ _ _ _ ay bx)

pub returns : goal.returns
returns c =
    let cx : SFits w32 c.args.c.x = search rules in
    let cy : SFits w32 c.args.c.y = search rules in
    let fax : SFits w64 c.x.result = search rules in
    let fay : SFits w64 c.y.result = search rules in
    let faw : SFits w64 c.w.result = search rules in
    let fbx : SFits w64 c.x-2.result = search rules in
    let fby : SFits w64 c.y-2.result = search rules in
    let fbw : SFits w64 c.w-2.result = search rules in
    let aw = (simp to_z-of_z at c.from-a_weight.ensures.0) ∙ c.w.ensures.value in
    let bw = (simp to_z-of_z at c.from-b_weight.ensures.0) ∙ c.w-2.ensures.value in
    let ax = simp (aw, c.x.ensures.value) at (simp to_z-of_z at c.weighted_step-ax.ensures.value) in
    let ay = simp (aw, c.y.ensures.value) at (simp to_z-of_z at c.weighted_step-ay.ensures.value) in
    let bx = simp (bw, c.x-2.ensures.value) at (simp to_z-of_z at c.weighted_step-bx.ensures.value) in
    let by = simp (bw, c.y-2.ensures.value) at (simp to_z-of_z at c.weighted_step-by.ensures.value) in
    rw (← turn_of_points c.args.a.now c.args.b.now c.args.c.x c.args.c.y, ← ax, ← ay, ← bx, ← by, ← c.crossed.ensures) c.sign.ensures
