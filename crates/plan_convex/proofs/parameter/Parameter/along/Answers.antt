-- The two means, over the denominator, are the combination of the ends with the weights of the parameter.
use Rattle.std.proofs.Common.{◌≡◌, ◌≤◌, ◌*◌, ℤ, ◌-ℤ◌, ◌+ℤ◌, ◌*ℤ◌, unsigned_abs, SFits, to_z-of_z, w32, ap, subst, sym, arith}
use Rattle.std.proofs.lemmas.Int.{fits_signed_from_abs}
use Rattle.plan_grid.specs.Fraction.{Fraction}
use Rattle.plan_convex.proofs.Means.{same_weight}
use Rattle.plan_convex.proofs.parameter.Parameter.along.Goals as goal

fits : (x : ℤ) → unsigned_abs x ≤ 2046 → SFits w32 x
fits x h = fits_signed_from_abs w32 x (omega (arith, h))

pub mean-requires : goal.mean-requires
mean-requires c =
    let a = fits c.args.a.x c.requires.a_bounded.x in
    let b = fits c.args.b.x c.requires.b_bounded.x in
    rw (to_z-of_z a, to_z-of_z b) (record { a_bounded = c.requires.a_bounded.x; b_bounded = c.requires.b_bounded.x })

pub mean-requires-2 : goal.mean-requires-2
mean-requires-2 c =
    let a = fits c.args.a.y c.requires.a_bounded.y in
    let b = fits c.args.b.y c.requires.b_bounded.y in
    rw (to_z-of_z a, to_z-of_z b) (record { a_bounded = c.requires.a_bounded.y; b_bounded = c.requires.b_bounded.y })

pub point-requires : goal.point-requires
point-requires c =
    let share = c.self.invariant in
    record {
      positive = share.share.positive;
      bounded = share.bounded;
      x_bounded = subst (λ (f : Fraction). unsigned_abs c.mean.result ≤ 2046 * unsigned_abs f.den) (sym c.self.view_is) c.mean.ensures.bounded;
      y_bounded = subst (λ (f : Fraction). unsigned_abs c.mean-2.result ≤ 2046 * unsigned_abs f.den) (sym c.self.view_is) c.mean-2.ensures.bounded;
    }

pub returns-clause-same : goal.returns-clause-same
returns-clause-same c =
    let f = c.args.self in
    let a = c.args.a in
    let b = c.args.b in
    let ax = fits a.x c.requires.a_bounded.x in
    let ay = fits a.y c.requires.a_bounded.y in
    let bx = fits b.x c.requires.b_bounded.x in
    let by = fits b.y c.requires.b_bounded.y in
    let ex : c.mean.result ≡ (f.den -ℤ f.num) *ℤ a.x +ℤ f.num *ℤ b.x = simp to_z-of_z at c.mean.ensures.value in
    let ey : c.mean-2.result ≡ (f.den -ℤ f.num) *ℤ a.y +ℤ f.num *ℤ b.y = simp to_z-of_z at c.mean-2.ensures.value in
    let ed : c.self.inside.den ≡ f.den = ap (λ (g : Fraction). g.den) c.self.view_is in
    same_weight f.den f.num ((f.den -ℤ f.num) *ℤ a.x +ℤ f.num *ℤ b.x) ((f.den -ℤ f.num) *ℤ a.y +ℤ f.num *ℤ b.y) c.point.result (rw (ex, ey, ed) at c.point.ensures.same)
