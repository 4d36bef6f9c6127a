-- By coordinates.
use Rattle.std.proofs.Common.{◌↔◌, rules, ℤ, ◌*ℤ◌, ◌≤ℤ◌, SFits, to_z-of_z, w32, w64, arith}
use Rattle.std.proofs.lemmas.Int.{fits_signed_from_abs}
use Rattle.plan_check.proofs.whole_box.rounded_up.Goals as goal

pub returns : goal.returns
returns c =
    let x : SFits w32 c.ceiling.result = fits_signed_from_abs w32 c.ceiling.result (omega (arith, c.ceiling.ensures.size)) in
    let y : SFits w32 c.ceiling-2.result = fits_signed_from_abs w32 c.ceiling-2.result (omega (arith, c.ceiling-2.ensures.size)) in
    let nx : SFits w64 c.x.result = search rules in
    let ny : SFits w64 c.y.result = search rules in
    let wx : SFits w64 c.w.result = search rules in
    let wy : SFits w64 c.w-2.result = search rules in
    let vx : (m : ℤ) → (c.ceiling.result ≤ℤ m) ↔ (c.x.result ≤ℤ (m *ℤ c.w.result)) = simp to_z-of_z at c.ceiling.ensures.value in
    let vy : (m : ℤ) → (c.ceiling-2.result ≤ℤ m) ↔ (c.y.result ≤ℤ (m *ℤ c.w-2.result)) = simp to_z-of_z at c.ceiling-2.ensures.value in
    rw (to_z-of_z x, to_z-of_z y) (record { x = rw (c.x.ensures.value, c.w.ensures.value) at vx; y = rw (c.y.ensures.value, c.w-2.ensures.value) at vy })
