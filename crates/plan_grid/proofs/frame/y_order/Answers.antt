-- The cross products, where `p` has the denominator 1.
use Rattle.std.proofs.Common.{rules, w32, w64, SFits, to_z-of_z}
use Rattle.plan_grid.proofs.frame.y_order.Goals as goal

pub returns : goal.returns
returns c =
    let y : SFits w64 c.y.result = search rules in
    let w : SFits w64 c.w.result = search rules in
    let from : SFits w64 c.from.result = search rules in
    let p : SFits w32 c.args.p.y = search rules in
    rw (c.y.ensures.value, c.w.ensures.value, simp to_z-of_z at c.from.ensures) at (simp to_z-of_z at c.fraction_order.ensures)
