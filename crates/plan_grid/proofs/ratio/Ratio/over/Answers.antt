-- A multiple of the denominator is the denominator times a factor, and so is the numerator.
use Rattle.std.proofs.Common.{rules, ap, SFits, to_z-of_z, ◌≡◌, pos, ◌<◌, ◌≤◌, ◌*◌, ◌/◌, ◌∙◌, unsigned_abs, w64, arith}
use Rattle.std.proofs.lemmas.Int.{ints, to_z_pos}
use Rattle.std.proofs.lemmas.Nat.Gcd.{mod-eq-zero_of_dvd}
use Rattle.plan_exact.proofs.Sizes.{product_at_most}
use Rattle.plan_grid.specs.Fraction.{Fraction}
use Rattle.plan_grid.proofs.Values.{over_value, over_size}
use Rattle.plan_grid.proofs.ratio.Ratio.over.Goals as goal
use Rattle.plan_grid.proofs.ratio.Ratio.over.Goals.{After-times}

divisor_is : (c : After-times) → c.unsigned_abs.result ≡ unsigned_abs c.args.self.now.den
divisor_is c =
    let fits : SFits w64 c.self.inside.den = search rules in
    (simp to_z-of_z at c.unsigned_abs.ensures.value) ∙ ap (λ (f : Fraction). unsigned_abs f.den) c.self.view_is

exact : (c : After-times) → unsigned_abs c.args.self.now.den * (c.args.l / c.unsigned_abs.result) ≡ c.args.l
exact c =
    let positive : 0 < unsigned_abs c.args.self.now.den = omega (arith, ints, c.whole_num.ensures.in_range.positive) in
    rw (divisor_is c) (omega (arith, mod-eq-zero_of_dvd (unsigned_abs c.args.self.now.den) c.requires.multiple))

factor : (c : After-times) → c.from.result ≡ pos (c.args.l / c.unsigned_abs.result)
factor c =
    let positive : 1 ≤ unsigned_abs c.args.self.now.den = omega (arith, ints, c.whole_num.ensures.in_range.positive) in
    let k = c.args.l / c.unsigned_abs.result in
    c.from.ensures.0 ∙ to_z_pos w64 k (omega (arith, exact c, product_at_most 1 k (unsigned_abs c.args.self.now.den) k positive (omega arith)))

pub returns-clause-value : goal.returns-clause-value
returns-clause-value c =
    rw (c.times.ensures.value, factor c, c.whole_num.ensures.value) (over_value c.args.self.now.num c.args.self.now.den _ c.args.l c.whole_num.ensures.in_range.positive (exact c))

pub returns-clause-size : goal.returns-clause-size
returns-clause-size c =
    let s = rw (factor c, c.whole_num.ensures.value) at c.times.ensures.size in
    over_size _ _ _ _ _ s c.whole_num.ensures.in_range.num_bounded (exact c)
