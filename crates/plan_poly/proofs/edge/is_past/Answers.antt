-- Both sides of the test are those of the definition.
use Rattle.std.proofs.Common.{rules, ◌*ℤ◌, ap₂, SFits, w32, w64, to_z-of_z, ◌∙◌, arith}
use Rattle.plan_exact.proofs.Signs.{mul_one}
use Rattle.plan_exact.proofs.Sizes.{product_at_most}
use Rattle.plan_poly.proofs.edge.is_past.Goals as goal

pub times-requires : goal.times-requires
times-requires c = omega (arith, product_at_most _ _ _ _ c.from-2.ensures.1 c.from-3.ensures.1)

pub returns : goal.returns
returns c =
    let fits_z : SFits w64 c.x.result = search rules in
    let fits_w : SFits w64 c.w.result = search rules in
    let fits : SFits w32 c.args.spot.x = search rules in
    let z = (simp to_z-of_z at c.from.ensures.0) ∙ c.x.ensures.value in
    let w = (simp to_z-of_z at c.from-3.ensures.0) ∙ c.w.ensures.value in
    let far = c.times.ensures.value ∙ ap₂ (λ m n. m *ℤ n) (simp to_z-of_z at c.from-2.ensures.0) w in
    rw (mul_one c.args.z.now.x) (rw (z, far) at c.is_below.ensures)
