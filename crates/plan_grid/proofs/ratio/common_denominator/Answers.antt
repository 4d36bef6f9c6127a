-- The denominators are positive, so they are their absolute values.
use Rattle.std.proofs.Common.{rules, ◌≡◌, ◌∙◌, ap, unsigned_abs, w64, SFits, to_z-of_z}
use Rattle.plan_grid.specs.Fraction.{Fraction}
use Rattle.plan_grid.proofs.ratio.common_denominator.Goals as goal
use Rattle.plan_grid.proofs.ratio.common_denominator.Goals.{After-unsigned_abs-2}

a_is : (c : After-unsigned_abs-2) → c.unsigned_abs.result ≡ unsigned_abs c.args.a.den
a_is c =
    let fits : SFits w64 c.a.inside.den = search rules in
    (simp to_z-of_z at c.unsigned_abs.ensures.value) ∙ ap (λ (f : Fraction). unsigned_abs f.den) c.a.view_is

b_is : (c : After-unsigned_abs-2) → c.unsigned_abs-2.result ≡ unsigned_abs c.args.b.den
b_is c =
    let fits : SFits w64 c.b.inside.den = search rules in
    (simp to_z-of_z at c.unsigned_abs-2.ensures.value) ∙ ap (λ (f : Fraction). unsigned_abs f.den) c.b.view_is

pub lcm-requires-clause-bounded : goal.lcm-requires-clause-bounded
lcm-requires-clause-bounded c = rw (a_is c, b_is c) c.requires

pub returns-clause-least : goal.returns-clause-least
returns-clause-least c =
    let d = (goal.at.returns-clause-least c).After-unsigned_abs-2 in
    rw (← a_is d, ← b_is d) c.lcm.ensures.least
