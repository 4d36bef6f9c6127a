-- The order of the cross products is the order by value, since the denominators are positive.
use Rattle.std.proofs.Common.{rules, w64, SFits, to_z-of_z, arith}
use Rattle.std.specs.Int.{w128}
use Rattle.std.proofs.lemmas.Int.{fits_signed_from_abs}
use Rattle.plan_grid.specs.FractionOrder.{fraction_cmp_from_order}
use Rattle.plan_grid.proofs.ratio.RatioOrd.cmp.Goals as goal

pub returns : goal.returns
returns c =
    let a = c.self.inside in
    let b = c.other.inside in
    let an : SFits w128 a.num = search rules in
    let ad : SFits w128 a.den = search rules in
    let bn : SFits w128 b.num = search rules in
    let bd : SFits w128 b.den = search rules in
    let an_narrow : SFits w64 a.num = fits_signed_from_abs w64 a.num (omega arith) in
    let ad_narrow : SFits w64 a.den = fits_signed_from_abs w64 a.den (omega arith) in
    let bn_narrow : SFits w64 b.num = fits_signed_from_abs w64 b.num (omega arith) in
    let bd_narrow : SFits w64 b.den = fits_signed_from_abs w64 b.den (omega arith) in
    rw (← c.self.view_is, ← c.other.view_is) (fraction_cmp_from_order _ _ c.self.invariant.positive c.other.invariant.positive _ (simp to_z-of_z at c.fraction_order.ensures))
