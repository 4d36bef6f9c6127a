-- The denominator in lowest terms divides the weight.
use Rattle.std.proofs.Common.{rules, SFits, to_z-of_z, w64, ◌<◌, ◌∙◌, subst, arith}
use Rattle.std.specs.Int.{w128, ◌∣◌}
use Rattle.std.specs.Int.RustNames.{unsigned_abs}
use Rattle.std.proofs.lemmas.Int.{ints}
use Rattle.std.proofs.lemmas.Nat.Gcd.{le_of_dvd}
use Rattle.plan_grid.proofs.Unique.{den_divides}
use Rattle.plan_slab.proofs.lines.x_of.Goals as goal

pub returns-clause-bounded : goal.returns-clause-bounded
returns-clause-bounded c =
    let fx : SFits w64 c.x.result = search rules in
    let fw : SFits w64 c.w.result = search rules in
    let fn : SFits w128 c.from.result = search rules in
    let fd : SFits w128 c.from-2.result = search rules in
    let w = (simp to_z-of_z at c.from-2.ensures) ∙ c.w.ensures.value in
    let d = den_divides c.new.result _ c.new.ensures.in_range (simp to_z-of_z at c.new.ensures.value) in
    let positive : 0 < unsigned_abs c.args.p.w = omega (arith, ints, c.w.ensures.in_range.weight) in
    le_of_dvd positive (subst (λ z. unsigned_abs c.new.result.den ∣ unsigned_abs z) w d)
