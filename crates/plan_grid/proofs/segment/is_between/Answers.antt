-- One of the two orders of the ends is tested after the other.
use Rattle.std.proofs.Common.{rules, SFits, to_z-of_z, w32, w64, inl, inr, arith}
use Rattle.plan_exact.proofs.Sizes.{product_at_most}
use Rattle.plan_grid.proofs.segment.is_between.Goals as goal

pub times-a-requires : goal.times-a-requires
times-a-requires c = omega (arith, product_at_most _ _ _ _ c.from.ensures.1 c.requires)

pub times-b-requires : goal.times-b-requires
times-b-requires c = omega (arith, product_at_most _ _ _ _ c.from-2.ensures.1 c.requires)

pub returns-then-is_within : goal.returns-then-is_within
returns-then-is_within c =
    let fa : SFits w32 c.args.a = search rules in
    let fb : SFits w32 c.args.b = search rules in
    let fz : SFits w64 c.args.z = search rules in
    let a = simp to_z-of_z at c.from.ensures.0 in
    let b = simp to_z-of_z at c.from-2.ensures.0 in
    let z = simp to_z-of_z at c.from-z.ensures.0 in
    rw (← a, ← b, ← z, ← c.times-a.ensures.value, ← c.times-b.ensures.value) (λ t. inl (c.is_within.ensures.0 t), λ _. c.if-is_within.true)

pub returns-else-is_within : goal.returns-else-is_within
returns-else-is_within c =
    let fa : SFits w32 c.args.a = search rules in
    let fb : SFits w32 c.args.b = search rules in
    let fz : SFits w64 c.args.z = search rules in
    let a = simp to_z-of_z at c.from.ensures.0 in
    let b = simp to_z-of_z at c.from-2.ensures.0 in
    let z = simp to_z-of_z at c.from-z.ensures.0 in
    rw (← a, ← b, ← z, ← c.times-a.ensures.value, ← c.times-b.ensures.value) (λ t. inr (c.is_within-else-is_within.ensures.0 t), λ h. elim h [ inl k ↦ let t = c.is_within.ensures.1 k in cc | inr k ↦ c.is_within-else-is_within.ensures.1 k ])
