-- Both weights are not negative, and their sum is the denominator.
use Rattle.std.proofs.Common.{◌≡◌, ◌≤◌, ◌*◌, pos, ◌≤ℤ◌, ◌-ℤ◌, ◌*ℤ◌, ◌+ℤ◌, unsigned_abs, SFits, to_z-of_z, w32, ap, ap₂, subst, sym, ◌∙◌, arith}
use Rattle.std.proofs.lemmas.Int.{fits_signed_from_abs}
use Rattle.plan_exact.proofs.Laws.{linear}
use Rattle.plan_grid.specs.Fraction.{Fraction}
use Rattle.plan_convex.proofs.Means.{mean_size, abs_small, two_products}
use Rattle.plan_convex.proofs.parameter.mean.Goals as goal
use Rattle.plan_convex.proofs.parameter.mean.Goals.{After-plus}

pub plus-requires : goal.plus-requires
plus-requires c =
    let i = c.p.invariant in
    let up : pos 0 ≤ℤ c.p.inside.den = omega (arith, linear, i.share.positive) in
    let all : c.p.inside.den ≤ℤ c.p.inside.den = omega (arith, linear) in
    let d = abs_small c.p.inside.den c.p.inside.den up all i.bounded in
    let n = abs_small c.p.inside.num c.p.inside.den i.share.nonneg i.share.upto i.bounded in
    two_products c.minus-rest.result c.from.result c.p.inside.num c.from-2.result c.times.result c.times-2.result (omega (arith, c.minus-rest.ensures.size, d, n)) (omega (arith, n)) c.from.ensures.1 c.from-2.ensures.1 c.times.ensures.size c.times-2.ensures.size

value : (c : After-plus) → c.plus.result ≡ (c.p.inside.den -ℤ c.p.inside.num) *ℤ c.args.a +ℤ c.p.inside.num *ℤ c.args.b
value c =
    let fa : SFits w32 c.args.a = fits_signed_from_abs w32 c.args.a (omega (arith, c.requires.a_bounded)) in
    let fb : SFits w32 c.args.b = fits_signed_from_abs w32 c.args.b (omega (arith, c.requires.b_bounded)) in
    let ea : c.from.result ≡ c.args.a = simp to_z-of_z at c.from.ensures.0 in
    let eb : c.from-2.result ≡ c.args.b = simp to_z-of_z at c.from-2.ensures.0 in
    c.plus.ensures.value ∙ ap₂ (λ m n. m +ℤ n) (c.times.ensures.value ∙ ap₂ (λ m n. m *ℤ n) c.minus-rest.ensures.value ea) (c.times-2.ensures.value ∙ ap (λ n. c.p.inside.num *ℤ n) eb)

pub returns-clause-value : goal.returns-clause-value
returns-clause-value c = subst (λ (f : Fraction). c.plus.result ≡ (f.den -ℤ f.num) *ℤ c.args.a +ℤ f.num *ℤ c.args.b) c.p.view_is (value c)

pub returns-clause-bounded : goal.returns-clause-bounded
returns-clause-bounded c =
    subst (λ (f : Fraction). unsigned_abs c.plus.result ≤ 2046 * unsigned_abs f.den) c.p.view_is
    (subst (λ n. unsigned_abs n ≤ 2046 * unsigned_abs c.p.inside.den) (sym (value c)) (mean_size c.p.inside.den c.p.inside.num c.args.a c.args.b c.p.invariant.share.nonneg c.p.invariant.share.upto c.requires.a_bounded c.requires.b_bounded))
