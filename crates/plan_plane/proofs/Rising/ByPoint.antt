-- The order of points by x, then by y, is an order of positions.
use Rattle.std.proofs.Common.{◌⊎◌, inl, inr, ⊎_elim, refl, sym, arith}
use Rattle.plan_exact.proofs.Laws.{linear}
use Rattle.plan_spec.specs.Vector.{Vector, IsPoint, Same, Before}
use Rattle.plan_plane.proofs.Rising.ByCoordinate.{order_x, order_y}
use Rattle.plan_plane.proofs.Rising.Lists.{IsOrder}
use Rattle.plan_plane.proofs.Segment.Same.{Same-swapped, Same-trans}

pub different : (a b : Vector) → Before a b → ¬ (Same a b)
different a b (inl h) e = omega (arith, linear, e.0)
different a b (inr h) e = omega (arith, linear, h.1, e.1)

total : (a b : Vector) → IsPoint a → IsPoint b → Before a b ⊎ (Same a b ⊎ Before b a)
total a b ha hb =
    ⊎_elim (λ h. inl (inl h)) (λ t. ⊎_elim (λ e. ⊎_elim (λ h. inl (inr (e, h))) (λ u. ⊎_elim (λ f. inr (inl (e, f))) (λ h. inr (inr (inr (sym e, h)))) u) (order_y.total a b ha hb)) (λ h. inr (inr (inl h))) t)
    (order_x.total a b ha hb)

less : (a b c : Vector) → IsPoint a → IsPoint b → IsPoint c → Before a b → Before b c → Before a c
less a b c ha hb hc (inl h) (inl k) = inl (order_x.less a b c ha hb hc h k)
less a b c ha hb hc (inl h) (inr k) = inl (order_x.less_equal a b c ha hb hc h k.0)
less a b c ha hb hc (inr h) (inl k) = inl (order_x.equal_less a b c ha hb hc h.0 k)
less a b c ha hb hc (inr h) (inr k) = inr (order_x.trans a b c ha hb hc h.0 k.0, order_y.less a b c ha hb hc h.1 k.1)

less_equal : (a b c : Vector) → IsPoint a → IsPoint b → IsPoint c → Before a b → Same b c → Before a c
less_equal a b c ha hb hc (inl h) e = inl (order_x.less_equal a b c ha hb hc h e.0)
less_equal a b c ha hb hc (inr h) e = inr (order_x.trans a b c ha hb hc h.0 e.0, order_y.less_equal a b c ha hb hc h.1 e.1)

equal_less : (a b c : Vector) → IsPoint a → IsPoint b → IsPoint c → Same a b → Before b c → Before a c
equal_less a b c ha hb hc e (inl h) = inl (order_x.equal_less a b c ha hb hc e.0 h)
equal_less a b c ha hb hc e (inr h) = inr (order_x.trans a b c ha hb hc e.0 h.0, order_y.equal_less a b c ha hb hc e.1 h.1)

pub order_before : IsOrder IsPoint Before Same
order_before = record {
  refl = λ a ha. (refl, refl);
  sym = λ a b ha hb e. Same-swapped a b e;
  trans = λ a b c ha hb hc e f. Same-trans a b c hb e f;
  less = less;
  less_equal = less_equal;
  equal_less = equal_less;
  apart = λ a b ha hb h e. different a b h e;
  total = total;
}

pub before_once : (p q : Vector) → Before p q → ¬ (Before q p)
before_once p q (inl h) (inl k) = omega (arith, linear)
before_once p q (inl h) (inr k) = omega (arith, linear, k.0)
before_once p q (inr h) (inl k) = omega (arith, linear, h.0)
before_once p q (inr h) (inr k) = omega (arith, linear, h.1, k.1)

-- neither of the two is before the other
pub same_of : (x y : Vector) → IsPoint x → IsPoint y → ¬ (Before x y) → ¬ (Before y x) → Same x y
same_of x y hx hy h k = ⊎_elim (λ l. absurd (h l)) (λ t. ⊎_elim (λ e. e) (λ l. absurd (k l)) t) (order_before.total x y hx hy)
