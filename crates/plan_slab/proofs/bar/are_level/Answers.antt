-- A coordinate is at most 2046 · 2^51, and a weight at most 2^51.
use Rattle.std.proofs.Common.{◌≡◌, ◌*◌, ◌≤◌, ◌^◌, ℤ, ap, arith}
use Rattle.std.specs.Int.RustNames.{unsigned_abs}
use Rattle.plan_exact.specs.Vectors.{Vector}
use Rattle.plan_exact.proofs.Sizes.{product_at_most}
use Rattle.plan_grid.specs.Bounds.{IsInRange}
use Rattle.plan_slab.proofs.bar.are_level.Goals as goal

crossed : {p q : Vector} {x w : ℤ} → x ≡ p.x → w ≡ q.w → IsInRange p → IsInRange q → unsigned_abs x * unsigned_abs w ≤ 2046 * 2 ^ 102
crossed {x = x} {w} e f hp hq = product_at_most (unsigned_abs x) (unsigned_abs w) (2046 * 2 ^ 51) (2 ^ 51) (omega (arith, ap unsigned_abs e, hp.x_bounded, hp.weight_bounded)) (omega (arith, ap unsigned_abs f, hq.weight_bounded))

pub times-requires : goal.times-requires
times-requires c = omega (arith, crossed c.point_x.ensures.value c.weight.ensures.value c.point_x.ensures.in_range c.weight.ensures.in_range)

pub times-requires-2 : goal.times-requires-2
times-requires-2 c = omega (arith, crossed c.point_x-2.ensures.value c.weight-2.ensures.value c.point_x-2.ensures.in_range c.weight-2.ensures.in_range)

pub minus-difference-requires : goal.minus-difference-requires
minus-difference-requires c =
    let a = crossed c.point_x.ensures.value c.weight.ensures.value c.point_x.ensures.in_range c.weight.ensures.in_range in
    let b = crossed c.point_x-2.ensures.value c.weight-2.ensures.value c.point_x-2.ensures.in_range c.weight-2.ensures.in_range in
    omega (arith, a, b, c.times.ensures.size, c.times-2.ensures.size)
