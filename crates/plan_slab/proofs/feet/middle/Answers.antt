-- The denominators are at most 2^37, the heights at most 2046.
use Rattle.std.proofs.Common.{◌≡◌, ◌≤◌, ◌*◌, ◌^◌, ℤ, pos, ◌+ℤ◌, ◌*ℤ◌, ◌≤ℤ◌, ap, ap₂, ◌∙◌, sym, subst, arith}
use Rattle.std.specs.Int.RustNames.{unsigned_abs}
use Rattle.plan_exact.proofs.Sizes.{product_at_most}
use Rattle.plan_grid.specs.Fraction.{Fraction}
use Rattle.plan_slab.specs.Heights.{IsHeight}
use Rattle.plan_slab.proofs.Bounded.{middle_bounded}
use Rattle.plan_slab.proofs.feet.middle.Goals as goal
use Rattle.plan_slab.proofs.feet.middle.Goals.{After-times-both}

-- a numerator times a denominator, and two denominators
crossed : {f g : Fraction} {n d : ℤ} → IsHeight f → IsHeight g → n ≡ f.num → d ≡ g.den → unsigned_abs n * unsigned_abs d ≤ 2046 * 2 ^ 74
crossed {n = n} {d} hf hg e k = product_at_most (unsigned_abs n) (unsigned_abs d) (2046 * 2 ^ 37) (2 ^ 37) (omega (arith, ap unsigned_abs e, hf.ratio.num_bounded, hf.bounded)) (omega (arith, ap unsigned_abs k, hg.bounded))

of_dens : {f g : Fraction} {m d : ℤ} → IsHeight f → IsHeight g → m ≡ f.den → d ≡ g.den → unsigned_abs m * unsigned_abs d ≤ 2 ^ 74
of_dens {m = m} {d} hf hg e k = product_at_most (unsigned_abs m) (unsigned_abs d) (2 ^ 37) (2 ^ 37) (omega (arith, ap unsigned_abs e, hf.bounded)) (omega (arith, ap unsigned_abs k, hg.bounded))

pub times-requires : goal.times-requires
times-requires c = omega (arith, crossed c.requires.low c.requires.high c.num.ensures.value c.den.ensures.value)

pub times-requires-2 : goal.times-requires-2
times-requires-2 c = omega (arith, crossed c.requires.high c.requires.low c.num-2.ensures.value c.den-2.ensures.value)

pub plus-sum-requires : goal.plus-sum-requires
plus-sum-requires c =
    let a = crossed c.requires.low c.requires.high c.num.ensures.value c.den.ensures.value in
    let b = crossed c.requires.high c.requires.low c.num-2.ensures.value c.den-2.ensures.value in
    omega (arith, a, b, c.times.ensures.size, c.times-2.ensures.size)

pub times-requires-3 : goal.times-requires-3
times-requires-3 c = omega (arith, of_dens c.requires.low c.requires.high c.den-3.ensures.value c.den-4.ensures.value)

pub times-both-requires : goal.times-both-requires
times-both-requires c =
    let two : c.from.result ≡ pos 2 = c.from.ensures.0 in
    let d = of_dens c.requires.low c.requires.high c.den-3.ensures.value c.den-4.ensures.value in
    omega (arith, product_at_most (unsigned_abs c.from.result) (unsigned_abs c.times-3.result) 2 (2 ^ 74) (omega (arith, ap unsigned_abs two)) (omega (arith, d, c.times-3.ensures.size)))

module _ (c : After-times-both) where
  sum : c.plus-sum.result ≡ c.args.low.num *ℤ c.args.high.den +ℤ c.args.high.num *ℤ c.args.low.den
  sum = c.plus-sum.ensures.value ∙ ap₂ (λ p q. p +ℤ q) (c.times.ensures.value ∙ ap₂ (λ p q. p *ℤ q) c.num.ensures.value c.den.ensures.value) (c.times-2.ensures.value ∙ ap₂ (λ p q. p *ℤ q) c.num-2.ensures.value c.den-2.ensures.value)

  both : c.times-both.result ≡ pos 2 *ℤ (c.args.low.den *ℤ c.args.high.den)
  both = c.times-both.ensures.value ∙ ap₂ (λ p q. p *ℤ q) c.from.ensures.0 (c.times-3.ensures.value ∙ ap₂ (λ p q. p *ℤ q) c.den-3.ensures.value c.den-4.ensures.value)

  bounded : (pos 1 ≤ℤ (pos 2 *ℤ (c.args.low.den *ℤ c.args.high.den))) × (unsigned_abs (pos 2 *ℤ (c.args.low.den *ℤ c.args.high.den)) ≤ 2 ^ 75) × (unsigned_abs (c.args.low.num *ℤ c.args.high.den +ℤ c.args.high.num *ℤ c.args.low.den) ≤ 2046 * unsigned_abs (pos 2 *ℤ (c.args.low.den *ℤ c.args.high.den)))
  bounded = let l = c.requires.low in let h = c.requires.high in middle_bounded c.args.low.num c.args.low.den c.args.high.num c.args.high.den l.ratio.positive h.ratio.positive l.bounded h.bounded l.ratio.num_bounded h.ratio.num_bounded

pub returns-clause-num : goal.returns-clause-num
returns-clause-num c = sum c

pub returns-clause-den : goal.returns-clause-den
returns-clause-den c = both c

pub returns-clause-positive : goal.returns-clause-positive
returns-clause-positive c = subst (λ w. pos 1 ≤ℤ w) (sym (both c)) (bounded c).0

pub returns-clause-den_bounded : goal.returns-clause-den_bounded
returns-clause-den_bounded c = subst (λ w. unsigned_abs w ≤ 2 ^ 75) (sym (both c)) (bounded c).1

pub returns-clause-num_bounded : goal.returns-clause-num_bounded
returns-clause-num_bounded c = subst (λ s. unsigned_abs s ≤ 2046 * unsigned_abs c.times-both.result) (sym (sum c)) (subst (λ w. unsigned_abs (c.args.low.num *ℤ c.args.high.den +ℤ c.args.high.num *ℤ c.args.low.den) ≤ 2046 * unsigned_abs w) (sym (both c)) (bounded c).2)
