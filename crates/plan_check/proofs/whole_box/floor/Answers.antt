-- The quotient of whole numbers, rounded down.
use Rattle.std.proofs.Common.{◌≡◌, ◌≤◌, SFits, to_z-of_z, w32, w64, unsigned_abs, sym, subst, arith}
use Rattle.std.specs.Int.{int_div_euclid}
use Rattle.std.proofs.lemmas.Int.{fits_signed_from_abs}
use Rattle.plan_check.proofs.Rounding.{floor_is, floor_bounded}
use Rattle.plan_check.proofs.whole_box.floor.Goals as goal
use Rattle.plan_check.proofs.whole_box.floor.Goals.{After-div_euclid}

value : (c : After-div_euclid) → c.div_euclid.result ≡ int_div_euclid c.args.n c.args.w
value c =
    let n : SFits w64 c.args.n = c.ranges.n in
    let w : SFits w64 c.args.w = c.ranges.w in
    simp to_z-of_z at c.div_euclid.ensures

size : (c : After-div_euclid) → unsigned_abs c.div_euclid.result ≤ 2046
size c = subst (λ z. unsigned_abs z ≤ 2046) (sym (value c)) (floor_bounded c.args.n c.args.w 2046 c.requires.positive c.requires.bounded)

pub returns-clause-value : goal.returns-clause-value
returns-clause-value c =
    let wide : SFits w64 c.div_euclid.result = fits_signed_from_abs w64 c.div_euclid.result (omega (arith, size c)) in
    let narrow : SFits w32 c.div_euclid.result = fits_signed_from_abs w32 c.div_euclid.result (omega (arith, size c)) in
    rw (to_z-of_z wide, to_z-of_z narrow, value c) (floor_is c.args.n c.args.w c.requires.positive)

pub returns-clause-size : goal.returns-clause-size
returns-clause-size c =
    let wide : SFits w64 c.div_euclid.result = fits_signed_from_abs w64 c.div_euclid.result (omega (arith, size c)) in
    let narrow : SFits w32 c.div_euclid.result = fits_signed_from_abs w32 c.div_euclid.result (omega (arith, size c)) in
    rw (to_z-of_z wide, to_z-of_z narrow) (size c)
