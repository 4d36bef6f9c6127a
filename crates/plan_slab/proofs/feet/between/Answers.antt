-- The weight of the line is taken out of the two points.
use Rattle.std.proofs.Common.{◌≡◌, ◌*◌, ◌^◌, pos, ◌+ℤ◌, ◌*ℤ◌, ap, ap₂, ◌∙◌, sym, subst, arith}
use Rattle.std.specs.Int.RustNames.{unsigned_abs}
use Rattle.plan_exact.proofs.Sizes.{product_at_most}
use Rattle.plan_spec.specs.Vector.{Same}
use Rattle.plan_spec.specs.Regions.{halfway}
use Rattle.plan_grid.specs.Bounds.{IsBounded}
use Rattle.plan_grid.specs.Fraction.{point_at}
use Rattle.plan_slab.proofs.Bounded.{on_line_by, between_same, between_bounded}
use Rattle.plan_slab.proofs.feet.between.Goals as goal
use Rattle.plan_slab.proofs.feet.between.Goals.{After-times-3}

pub times-requires : goal.times-requires
times-requires c =
    let l = c.requires.line in
    omega (arith, product_at_most (unsigned_abs c.num.result) (unsigned_abs c.middle-sum.result.1) (2046 * 2 ^ 25) (2 ^ 75) (omega (arith, ap unsigned_abs c.num.ensures.value, l.ratio.num_bounded, l.bounded)) c.middle-sum.ensures.den_bounded)

pub times-requires-2 : goal.times-requires-2
times-requires-2 c =
    let m = c.middle-sum.ensures in
    omega (arith, product_at_most (unsigned_abs c.den.result) (unsigned_abs c.middle-sum.result.0) (2 ^ 25) (2046 * 2 ^ 75) (omega (arith, ap unsigned_abs c.den.ensures.value, c.requires.line.bounded)) (omega (arith, m.num_bounded, m.den_bounded)))

pub times-requires-3 : goal.times-requires-3
times-requires-3 c = omega (arith, product_at_most (unsigned_abs c.den-2.result) (unsigned_abs c.middle-sum.result.1) (2 ^ 25) (2 ^ 75) (omega (arith, ap unsigned_abs c.den-2.ensures.value, c.requires.line.bounded)) c.middle-sum.ensures.den_bounded)

module _ (c : After-times-3) where
  computed : record { x = c.times.result; y = c.times-2.result; w = c.times-3.result } ≡ on_line_by c.args.line c.middle-sum.result.0 c.middle-sum.result.1
  computed = λ i. record {
    x = (c.times.ensures.value ∙ ap (λ n. n *ℤ c.middle-sum.result.1) c.num.ensures.value) i;
    y = (c.times-2.ensures.value ∙ ap (λ d. d *ℤ c.middle-sum.result.0) c.den.ensures.value) i;
    w = (c.times-3.ensures.value ∙ ap (λ d. d *ℤ c.middle-sum.result.1) c.den-2.ensures.value) i;
  }

pub returns-clause-same : goal.returns-clause-same
returns-clause-same c =
    let m = c.middle-sum.ensures in
    let l = c.args.line in
    let e : on_line_by l (c.args.low.num *ℤ c.args.high.den +ℤ c.args.high.num *ℤ c.args.low.den) (pos 2 *ℤ (c.args.low.den *ℤ c.args.high.den)) ≡ on_line_by l c.middle-sum.result.0 c.middle-sum.result.1 = sym (ap₂ (λ p q. on_line_by l p q) m.num m.den) in
    subst (λ z. Same z (halfway (point_at l c.args.low) (point_at l c.args.high))) (e ∙ sym (computed c)) (between_same l c.args.low c.args.high)

pub returns-clause-bounded : goal.returns-clause-bounded
returns-clause-bounded c = let m = c.middle-sum.ensures in subst (IsBounded (2 ^ 100)) (sym (computed c)) (between_bounded c.args.line c.middle-sum.result.0 c.middle-sum.result.1 c.requires.line m.positive m.den_bounded m.num_bounded)
