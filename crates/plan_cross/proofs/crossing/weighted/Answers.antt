-- The product of a coordinate and a weight fits 128 bits.
use Rattle.std.proofs.Common.{rules, ◌*ℤ◌, ap₂, SFits, w32, w64, to_z-of_z, ◌∙◌, arith}
use Rattle.plan_exact.proofs.Sizes.{product_at_most}
use Rattle.plan_cross.proofs.crossing.weighted.Goals as goal

pub times-requires : goal.times-requires
times-requires c = omega (arith, product_at_most _ _ _ _ c.from.ensures.1 c.from-2.ensures.1)

pub returns : goal.returns
returns c =
    let fits_z : SFits w32 c.args.z = search rules in
    let fits_w : SFits w64 c.w.result = search rules in
    c.times.ensures.value ∙ ap₂ (λ m n. m *ℤ n) (simp to_z-of_z at c.from.ensures.0) ((simp to_z-of_z at c.from-2.ensures.0) ∙ c.w.ensures.value)
