-- The three products are the point.
use Rattle.std.proofs.Common.{◌≡◌, ◌*◌, ◌^◌, ◌*ℤ◌, ap, ap₂, ◌∙◌, sym, subst, arith}
use Rattle.std.specs.Int.RustNames.{unsigned_abs}
use Rattle.plan_exact.proofs.Sizes.{product_at_most}
use Rattle.plan_grid.specs.Bounds.{IsBounded}
use Rattle.plan_grid.specs.Fraction.{point_at}
use Rattle.plan_slab.proofs.Bounded.{point_bounded}
use Rattle.plan_slab.proofs.ends.point_of.Goals as goal
use Rattle.plan_slab.proofs.ends.point_of.Goals.{After-times-3}

pub times-requires : goal.times-requires
times-requires c =
    let l = c.requires.line in
    omega (arith, product_at_most (unsigned_abs c.num.result) (unsigned_abs c.den.result) (2046 * 2 ^ 25) (2 ^ 37) (omega (arith, ap unsigned_abs c.num.ensures.value, l.ratio.num_bounded, l.bounded)) (omega (arith, ap unsigned_abs c.den.ensures.value, c.requires.height.bounded)))

pub times-requires-2 : goal.times-requires-2
times-requires-2 c =
    let h = c.requires.height in
    omega (arith, product_at_most (unsigned_abs c.num-2.result) (unsigned_abs c.den-2.result) (2046 * 2 ^ 37) (2 ^ 25) (omega (arith, ap unsigned_abs c.num-2.ensures.value, h.ratio.num_bounded, h.bounded)) (omega (arith, ap unsigned_abs c.den-2.ensures.value, c.requires.line.bounded)))

pub times-requires-3 : goal.times-requires-3
times-requires-3 c = omega (arith, product_at_most (unsigned_abs c.den-3.result) (unsigned_abs c.den-4.result) (2 ^ 25) (2 ^ 37) (omega (arith, ap unsigned_abs c.den-3.ensures.value, c.requires.line.bounded)) (omega (arith, ap unsigned_abs c.den-4.ensures.value, c.requires.height.bounded)))

computed : (c : After-times-3) → record { x = c.times.result; y = c.times-2.result; w = c.times-3.result } ≡ point_at c.args.line c.args.height
computed c = λ i. record {
  x = (c.times.ensures.value ∙ ap₂ (λ p q. p *ℤ q) c.num.ensures.value c.den.ensures.value) i;
  y = (c.times-2.ensures.value ∙ ap₂ (λ p q. p *ℤ q) c.num-2.ensures.value c.den-2.ensures.value) i;
  w = (c.times-3.ensures.value ∙ ap₂ (λ p q. p *ℤ q) c.den-3.ensures.value c.den-4.ensures.value) i;
}

pub returns-clause-value : goal.returns-clause-value
returns-clause-value c = computed c

pub returns-clause-bounded : goal.returns-clause-bounded
returns-clause-bounded c = subst (IsBounded (2 ^ 100)) (sym (computed c)) (point_bounded c.args.line c.args.height c.requires.line c.requires.height)
