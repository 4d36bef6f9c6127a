-- The cross product of the two ways that were computed is the turn.
use Rattle.std.proofs.Common.{SFits, to_z-of_z, w32, ◌∙◌, sym, arith, rules}
use Rattle.plan_exact.proofs.Sizes.{product_at_most}
use Rattle.plan_grid.proofs.Turns.{turn_cross}
use Rattle.plan_grid.proofs.sides.turn.Goals as goal

pub crossed-requires : goal.crossed-requires
crossed-requires c =
    omega (arith, product_at_most _ _ _ _ c.step-bx.ensures.size c.step-cy.ensures.size, product_at_most _ _ _ _ c.step-by.ensures.size c.step-cx.ensures.size)

pub returns : goal.returns
returns c =
    let ax : SFits w32 c.args.a.x = search rules in
    let ay : SFits w32 c.args.a.y = search rules in
    let bx : SFits w32 c.args.b.x = search rules in
    let by : SFits w32 c.args.b.y = search rules in
    let cx : SFits w32 c.args.c.x = search rules in
    let cy : SFits w32 c.args.c.y = search rules in
    let b_x = simp to_z-of_z at c.step-bx.ensures.value in
    let b_y = simp to_z-of_z at c.step-by.ensures.value in
    let c_x = simp to_z-of_z at c.step-cx.ensures.value in
    let c_y = simp to_z-of_z at c.step-cy.ensures.value in
    c.crossed.ensures ∙ rw (b_x, b_y, c_x, c_y) (sym (turn_cross c.args.a c.args.b c.args.c))
