-- What is required is within the bounds of a point, and of `i64`.
use Rattle.std.proofs.Common.{◌<◌, ◌^◌, SFits, to_z-of_z, w64, IfSome, subst, unsigned_abs, arith}
use Rattle.std.specs.Int.{w128}
use Rattle.std.proofs.lemmas.Int.{fits_signed_from_abs}
use Rattle.plan_spec.specs.Vector.{Same}
use Rattle.plan_map.proofs.spot.point.Goals as goal

pub returns-clause-same : goal.returns-clause-same
returns-clause-same c =
    let h = c.requires in
    let bw : unsigned_abs c.args.w < 2 ^ 62 = omega (arith, h.weight_bounded) in
    let bx : unsigned_abs c.args.x < 2 ^ 62 = omega (arith, h.weight_bounded, h.x_bounded) in
    let by : unsigned_abs c.args.y < 2 ^ 62 = omega (arith, h.weight_bounded, h.y_bounded) in
    let xw : SFits w128 c.args.x = fits_signed_from_abs w128 c.args.x (omega (arith, bx)) in
    let yw : SFits w128 c.args.y = fits_signed_from_abs w128 c.args.y (omega (arith, by)) in
    let ww : SFits w128 c.args.w = fits_signed_from_abs w128 c.args.w (omega (arith, bw)) in
    let xn : SFits w64 c.args.x = fits_signed_from_abs w64 c.args.x (omega (arith, bx)) in
    let yn : SFits w64 c.args.y = fits_signed_from_abs w64 c.args.y (omega (arith, by)) in
    let wn : SFits w64 c.args.w = fits_signed_from_abs w64 c.args.w (omega (arith, bw)) in
    let k : IfSome c.new.result (λ p. Same p (record { x = c.args.x; y = c.args.y; w = c.args.w })) = simp to_z-of_z at (rw (c.get.ensures, c.get-2.ensures, c.get-3.ensures) at c.new.ensures.same) in
    subst (λ o. IfSome o (λ p. Same p (record { x = c.args.x; y = c.args.y; w = c.args.w }))) c.unwrap.ensures k
