-- What is rounded down from the other side of 0 is rounded up.
use Rattle.std.proofs.Common.{◌↔◌, ℤ, pos, ◌-ℤ◌, ◌*ℤ◌, ◌≤ℤ◌, SFits, to_z-of_z, w32, w64, arith}
use Rattle.std.proofs.lemmas.Int.{ints, fits_signed_from_abs}
use Rattle.plan_check.proofs.Rounding.{ceiling_is}
use Rattle.plan_check.proofs.whole_box.ceiling.Goals as goal

pub returns-clause-value : goal.returns-clause-value
returns-clause-value c =
    let n : SFits w64 c.args.n = c.ranges.n in
    let w : SFits w64 c.args.w = c.ranges.w in
    let minus : SFits w64 (pos 0 -ℤ c.args.n) = fits_signed_from_abs w64 (pos 0 -ℤ c.args.n) (omega (arith, ints, c.requires.least)) in
    let down : SFits w32 c.floor.result = fits_signed_from_abs w32 c.floor.result (omega (arith, c.floor.ensures.size)) in
    let up : SFits w32 (pos 0 -ℤ c.floor.result) = fits_signed_from_abs w32 (pos 0 -ℤ c.floor.result) (omega (arith, ints, c.floor.ensures.size)) in
    let value : (m : ℤ) → (m ≤ℤ c.floor.result) ↔ ((m *ℤ c.args.w) ≤ℤ (pos 0 -ℤ c.args.n)) = simp to_z-of_z at c.floor.ensures.value in
    rw (to_z-of_z down, to_z-of_z up) (ceiling_is c.args.n c.args.w c.floor.result value)
