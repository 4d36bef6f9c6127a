-- The sums are the point halfway.
use Rattle.std.proofs.Common.{◌≡◌, ◌*◌, ◌≤◌, ◌^◌, pos, ◌+ℤ◌, ◌*ℤ◌, ap, ap₂, ◌∙◌, sym, subst, arith}
use Rattle.std.specs.Int.RustNames.{unsigned_abs}
use Rattle.plan_exact.specs.Vectors.{Vector}
use Rattle.plan_exact.proofs.Sizes.{product_at_most}
use Rattle.plan_spec.specs.Regions.{halfway}
use Rattle.plan_grid.specs.Bounds.{IsBounded}
use Rattle.plan_slab.proofs.Bounded.{halfway_bounded}
use Rattle.plan_slab.proofs.feet.halfway.Goals as goal
use Rattle.plan_slab.proofs.feet.halfway.Goals.{After-times-6}

-- how large the numbers of one are, times the weight of the other
record AreSmall (u v : Vector) : Type 0 where
  x : unsigned_abs u.x * unsigned_abs v.w ≤ 2046 * 2 ^ 76
  y : unsigned_abs u.y * unsigned_abs v.w ≤ 2046 * 2 ^ 76
  w : unsigned_abs u.w * unsigned_abs v.w ≤ 2 ^ 76

are_small : {u v p q : Vector} → u ≡ p → v ≡ q → IsBounded (2 ^ 38) p → IsBounded (2 ^ 38) q → AreSmall u v
are_small {u} {v} e f hp hq = record {
  x = product_at_most (unsigned_abs u.x) (unsigned_abs v.w) (2046 * 2 ^ 38) (2 ^ 38) (omega (arith, hu.x_bounded, hu.weight_bounded)) hv.weight_bounded;
  y = product_at_most (unsigned_abs u.y) (unsigned_abs v.w) (2046 * 2 ^ 38) (2 ^ 38) (omega (arith, hu.y_bounded, hu.weight_bounded)) hv.weight_bounded;
  w = product_at_most (unsigned_abs u.w) (unsigned_abs v.w) (2 ^ 38) (2 ^ 38) hu.weight_bounded hv.weight_bounded;
}
  where
    hu : IsBounded (2 ^ 38) u
    hu = subst (IsBounded (2 ^ 38)) (sym e) hp

    hv : IsBounded (2 ^ 38) v
    hv = subst (IsBounded (2 ^ 38)) (sym f) hq

pub times-requires : goal.times-requires
times-requires c = let s = are_small c.u.view_is c.v.view_is c.requires.first c.requires.second in omega (arith, s.x)

pub times-requires-2 : goal.times-requires-2
times-requires-2 c = let s = are_small c.v.view_is c.u.view_is c.requires.second c.requires.first in omega (arith, s.x)

pub plus-requires : goal.plus-requires
plus-requires c =
    let s = are_small c.u.view_is c.v.view_is c.requires.first c.requires.second in
    let t = are_small c.v.view_is c.u.view_is c.requires.second c.requires.first in
    omega (arith, s.x, t.x, c.times.ensures.size, c.times-2.ensures.size)

pub times-requires-3 : goal.times-requires-3
times-requires-3 c = let s = are_small c.u.view_is c.v.view_is c.requires.first c.requires.second in omega (arith, s.y)

pub times-requires-4 : goal.times-requires-4
times-requires-4 c = let s = are_small c.v.view_is c.u.view_is c.requires.second c.requires.first in omega (arith, s.y)

pub plus-requires-2 : goal.plus-requires-2
plus-requires-2 c =
    let s = are_small c.u.view_is c.v.view_is c.requires.first c.requires.second in
    let t = are_small c.v.view_is c.u.view_is c.requires.second c.requires.first in
    omega (arith, s.y, t.y, c.times-3.ensures.size, c.times-4.ensures.size)

pub times-requires-5 : goal.times-requires-5
times-requires-5 c = let s = are_small c.u.view_is c.v.view_is c.requires.first c.requires.second in omega (arith, s.w)

pub times-requires-6 : goal.times-requires-6
times-requires-6 c =
    let s = are_small c.u.view_is c.v.view_is c.requires.first c.requires.second in
    let two : c.from.result ≡ pos 2 = c.from.ensures.0 in
    omega (arith, product_at_most (unsigned_abs c.from.result) (unsigned_abs c.times-5.result) 2 (2 ^ 76) (omega (arith, ap unsigned_abs two)) (omega (arith, s.w, c.times-5.ensures.size)))

computed : (c : After-times-6) → record { x = c.plus.result; y = c.plus-2.result; w = c.times-6.result } ≡ halfway c.args.u c.args.v
computed c = (λ i. record { x = x i; y = y i; w = w i }) ∙ ap₂ halfway c.u.view_is c.v.view_is
  where
    x : c.plus.result ≡ c.u.inside.x *ℤ c.v.inside.w +ℤ c.v.inside.x *ℤ c.u.inside.w
    x = c.plus.ensures.value ∙ ap₂ (λ p q. p +ℤ q) c.times.ensures.value c.times-2.ensures.value

    y : c.plus-2.result ≡ c.u.inside.y *ℤ c.v.inside.w +ℤ c.v.inside.y *ℤ c.u.inside.w
    y = c.plus-2.ensures.value ∙ ap₂ (λ p q. p +ℤ q) c.times-3.ensures.value c.times-4.ensures.value

    w : c.times-6.result ≡ pos 2 *ℤ (c.u.inside.w *ℤ c.v.inside.w)
    w = c.times-6.ensures.value ∙ ap₂ (λ p q. p *ℤ q) c.from.ensures.0 c.times-5.ensures.value

pub returns-clause-value : goal.returns-clause-value
returns-clause-value c = computed c

pub returns-clause-bounded : goal.returns-clause-bounded
returns-clause-bounded c = subst (IsBounded (2 ^ 100)) (sym (computed c)) (halfway_bounded (2 ^ 38) (2 ^ 100) c.args.u c.args.v c.requires.first c.requires.second (omega arith))
