-- By coordinates.
use Rattle.std.proofs.Common.{◌↔◌, rules, ℤ, ◌*ℤ◌, ◌≤ℤ◌, SFits, to_z-of_z, w32, w64, arith}
use Rattle.std.proofs.lemmas.Int.{fits_signed_from_abs}
use Rattle.plan_check.proofs.whole_box.rounded_down.Goals as goal

pub returns : goal.returns
returns c =
    let x : SFits w32 c.floor.result = fits_signed_from_abs w32 c.floor.result (omega (arith, c.floor.ensures.size)) in
    let y : SFits w32 c.floor-2.result = fits_signed_from_abs w32 c.floor-2.result (omega (arith, c.floor-2.ensures.size)) in
    let nx : SFits w64 c.x.result = search rules in
    let ny : SFits w64 c.y.result = search rules in
    let wx : SFits w64 c.w.result = search rules in
    let wy : SFits w64 c.w-2.result = search rules in
    let vx : (m : ℤ) → (m ≤ℤ c.floor.result) ↔ ((m *ℤ c.w.result) ≤ℤ c.x.result) = simp to_z-of_z at c.floor.ensures.value in
    let vy : (m : ℤ) → (m ≤ℤ c.floor-2.result) ↔ ((m *ℤ c.w-2.result) ≤ℤ c.y.result) = simp to_z-of_z at c.floor-2.ensures.value in
    rw (to_z-of_z x, to_z-of_z y) (record { x = rw (c.x.ensures.value, c.w.ensures.value) at vx; y = rw (c.y.ensures.value, c.w-2.ensures.value) at vy })
