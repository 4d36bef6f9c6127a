-- Two points in lowest terms that are level in x and in y are equal.
use Rattle.std.proofs.Common.{rules, w64, SFits, to_z-of_z}
use Rattle.plan_grid.proofs.Unique.{equal_from_order}
use Rattle.plan_grid.proofs.point.compare.Goals as goal

pub returns-in-Equal-clause-equal : goal.returns-in-Equal-clause-equal
returns-in-Equal-clause-equal c =
    let a = c.a.inside in
    let b = c.b.inside in
    let ax : SFits w64 a.x = search rules in
    let ay : SFits w64 a.y = search rules in
    let aw : SFits w64 a.w = search rules in
    let bx : SFits w64 b.x = search rules in
    let by : SFits w64 b.y = search rules in
    let bw : SFits w64 b.w = search rules in
    rw (← c.a.view_is, ← c.b.view_is) (equal_from_order _ _ _ c.a.invariant c.b.invariant (simp to_z-of_z at c.in-Equal.ensures) (simp to_z-of_z at c.fraction_order-in-Equal.ensures))
