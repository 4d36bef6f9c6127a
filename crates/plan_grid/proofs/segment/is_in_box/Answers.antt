-- A point is in the box where it is between the ends by x and by y.
use Rattle.std.proofs.Common.{rules, ◌∙◌, SFits, to_z-of_z, w32, w64}
use Rattle.plan_exact.proofs.Signs.{mul_one}
use Rattle.plan_grid.proofs.segment.is_in_box.Goals as goal

pub returns-then-is_between : goal.returns-then-is_between
returns-then-is_between c =
    let ax : SFits w32 c.args.a.x = search rules in
    let ay : SFits w32 c.args.a.y = search rules in
    let bx : SFits w32 c.args.b.x = search rules in
    let by : SFits w32 c.args.b.y = search rules in
    let zx : SFits w64 c.x.result = search rules in
    let zy : SFits w64 c.y.result = search rules in
    let zw : SFits w64 c.w.result = search rules in
    let w = (simp to_z-of_z at c.from-w.ensures.0) ∙ c.w.ensures.value in
    let x = simp (w, c.x.ensures.value) at (simp to_z-of_z at c.is_between.ensures) in
    let y = simp (w, c.y.ensures.value) at (simp to_z-of_z at c.is_between-then-is_between.ensures) in
    simp mul_one (λ t. (x.0 c.if-is_between.true, y.0 t), λ h. y.1 h.1)

pub returns-else-is_between : goal.returns-else-is_between
returns-else-is_between c =
    let ax : SFits w32 c.args.a.x = search rules in
    let bx : SFits w32 c.args.b.x = search rules in
    let zx : SFits w64 c.x.result = search rules in
    let zw : SFits w64 c.w.result = search rules in
    let w = (simp to_z-of_z at c.from-w.ensures.0) ∙ c.w.ensures.value in
    let x = simp (w, c.x.ensures.value) at (simp to_z-of_z at c.is_between.ensures) in
    simp mul_one (λ t. let f = c.if-is_between.false in absurd (cc), λ h. x.1 h.0)
