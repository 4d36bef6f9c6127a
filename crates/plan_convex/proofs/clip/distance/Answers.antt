-- The cross product of ways between spots of at most 2046 is below 2^25 in absolute value.
use Rattle.std.proofs.Common.{◌≤◌, w64, SFits, to_z-of_z, ap, ◌∙◌, arith}
use Rattle.std.specs.Int.{w128}
use Rattle.std.specs.Int.RustNames.{unsigned_abs}
use Rattle.std.proofs.lemmas.Int.{fits_signed_from_abs}
use Rattle.plan_convex.proofs.Distances.{turn_size}
use Rattle.plan_convex.proofs.clip.distance.Goals as goal
use Rattle.plan_convex.proofs.clip.distance.Goals.{After-side}

size : (c : After-side) → unsigned_abs c.side.result ≤ 33488928
size c = omega (arith, turn_size c.args.a c.args.b c.args.c c.requires.a_bounded c.requires.b_bounded c.requires.c_bounded, ap unsigned_abs c.side.ensures)

wide : (c : After-side) → SFits w128 c.side.result
wide c = fits_signed_from_abs w128 c.side.result (omega (arith, size c))

pub overflow_cast-side : goal.overflow_cast-side
overflow_cast-side c = let fits = wide c in rw (to_z-of_z fits) (fits_signed_from_abs w64 c.side.result (omega (arith, size c)))

pub returns : goal.returns
returns c =
    let fits : SFits w128 c.side.result = fits_signed_from_abs w128 c.side.result (omega (arith, turn_size c.args.a c.args.b c.args.c c.requires.a_bounded c.requires.b_bounded c.requires.c_bounded, ap unsigned_abs c.side.ensures)) in
    let narrow : SFits w64 c.side.result = fits_signed_from_abs w64 c.side.result (omega (arith, turn_size c.args.a c.args.b c.args.c c.requires.a_bounded c.requires.b_bounded c.requires.c_bounded, ap unsigned_abs c.side.ensures)) in
    (simp to_z-of_z at c.from.ensures.0) ∙ c.side.ensures
