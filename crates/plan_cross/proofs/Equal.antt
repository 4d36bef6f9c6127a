-- Points that are equal in their order are at one position.
use Rattle.std.proofs.Common.{◌≡◌, inl, inr, false, ◌*ℤ◌, sym, ◌∙◌, ap, arith}
use Rattle.std.specs.Ordering.{is_eq}
use Rattle.std.specs.declared.cmp.Ordering.{Ordering}
use Rattle.std.specs.declared.cmp.Ordering.TheVariants.{Less, Equal, Greater}
use Rattle.std.proofs.lemmas.Bool.{false_from_ne_true}
use Rattle.plan_exact.specs.Sign.{Order, is_less, is_equal, is_greater}
use Rattle.plan_exact.proofs.Laws.{linear}
use Rattle.plan_exact.proofs.Signs.{order_of}
use Rattle.plan_spec.specs.Vector.{Vector, IsPoint, Same, same}
use Rattle.plan_plane.proofs.Segment.Same.{same_true, same_from}
use Rattle.plan_grid.specs.Order.{IsPointOrder}
use Rattle.plan_grid.specs.PointOrder.{point_eq, point_cmp_from_order}

pub equal_is_same : (p q : Vector) → IsPoint p → IsPoint q → point_eq p q ≡ same p q
equal_is_same p q hp hq = by (order_of (p.x *ℤ q.w) (q.x *ℤ p.w)) (order_of (p.y *ℤ q.w) (q.y *ℤ p.w))
  where
    told : (o : Ordering) → IsPointOrder o p q → is_eq o ≡ same p q → point_eq p q ≡ same p q
    told o h e = ap is_eq (sym (point_cmp_from_order p q (omega (arith, linear)) (omega (arith, linear)) o h)) ∙ e

    apart : ¬ (Same p q) → false ≡ same p q
    apart n = sym (false_from_ne_true (same p q) (λ t. n (same_true p q t)))

    by : Order (p.x *ℤ q.w) (q.x *ℤ p.w) → Order (p.y *ℤ q.w) (q.y *ℤ p.w) → point_eq p q ≡ same p q
    by (is_less x) y = told Less (inl x) (apart (λ s. omega (arith, linear, s.0)))
    by (is_greater x) y = told Greater (inl x) (apart (λ s. omega (arith, linear, s.0)))
    by (is_equal x) (is_less y) = told Less (inr (x, y)) (apart (λ s. omega (arith, linear, s.1)))
    by (is_equal x) (is_greater y) = told Greater (inr (sym x, y)) (apart (λ s. omega (arith, linear, s.1)))
    by (is_equal x) (is_equal y) = told Equal (x, y) (sym (same_from p q (x, y)))
