-- The order of points by x, then by y, is a total order, and cross products tell it.
use Rattle.std.proofs.Common.{◌≡◌, Bool, pos, ◌*ℤ◌, ◌≤ℤ◌, inl, inr, refl, sym, ap, ap₂}
use Rattle.std.specs.Cmp.{IsTotalOrder, partial_order_from_agreeing_total, IsPartialOrder, IsEquivalence}
use Rattle.std.specs.Ordering.{as_partial_cmp, ordering_then, then_cmp, on, is_eq}
use Rattle.std.specs.declared.cmp.Ordering.{Ordering}
use Rattle.std.specs.declared.cmp.Ordering.TheVariants.{Less, Equal, Greater}
use Rattle.std.proofs.lemmas.Cmp.{then_total, on_total, eq_by_cmp_equiv}
use Rattle.plan_spec.specs.Vector.{Vector}
use Rattle.plan_grid.specs.Fraction.{Fraction, fraction_cmp}
use Rattle.plan_grid.specs.FractionOrder.{fraction_cmp_total, fraction_cmp_from_order}
use Rattle.plan_grid.specs.Order.{IsOrder, IsPointOrder}

-- the two coordinates of a point
abbrev pub x_of : Vector → Fraction
x_of p = record { num = p.x; den = p.w }

abbrev pub y_of : Vector → Fraction
y_of p = record { num = p.y; den = p.w }

-- the order by x, then by y; a weight that is not positive counts as 1, since the laws of an order speak of all triples
abbrev pub point_cmp : Vector → Vector → Ordering
point_cmp = then_cmp (on x_of fraction_cmp) (on y_of fraction_cmp)

-- whether two are at one position
abbrev pub point_eq : Vector → Vector → Bool
point_eq p q = is_eq (point_cmp p q)

pub point_cmp_total : IsTotalOrder point_cmp
point_cmp_total = then_total (on_total x_of fraction_cmp_total) (on_total y_of fraction_cmp_total)

pub point_eq_equivalence : IsEquivalence point_eq
point_eq_equivalence = eq_by_cmp_equiv point_cmp_total

pub point_order : IsPartialOrder point_eq (as_partial_cmp point_cmp)
point_order = partial_order_from_agreeing_total point_cmp point_cmp_total (λ _ _. refl) (λ _ _. refl)

-- where the weights are positive, the cross products tell the order
module _ (p q : Vector) (p_positive : pos 1 ≤ℤ p.w) (q_positive : pos 1 ≤ℤ q.w) where
  by_x : (o : Ordering) → IsOrder o (p.x *ℤ q.w) (q.x *ℤ p.w) → o ≡ fraction_cmp (x_of p) (x_of q)
  by_x = fraction_cmp_from_order (x_of p) (x_of q) p_positive q_positive

  by_y : (o : Ordering) → IsOrder o (p.y *ℤ q.w) (q.y *ℤ p.w) → o ≡ fraction_cmp (y_of p) (y_of q)
  by_y = fraction_cmp_from_order (y_of p) (y_of q) p_positive q_positive

  pub point_cmp_from_order : (o : Ordering) → IsPointOrder o p q → o ≡ point_cmp p q
  point_cmp_from_order Less (inl x) = ap (λ o. ordering_then o (fraction_cmp (y_of p) (y_of q))) (by_x Less x)
  point_cmp_from_order Less (inr (x, y)) = ap₂ ordering_then (by_x Equal x) (by_y Less y)
  point_cmp_from_order Equal (x, y) = ap₂ ordering_then (by_x Equal x) (by_y Equal y)
  point_cmp_from_order Greater (inl x) = ap (λ o. ordering_then o (fraction_cmp (y_of p) (y_of q))) (by_x Greater x)
  point_cmp_from_order Greater (inr (x, y)) = ap₂ ordering_then (by_x Equal (sym x)) (by_y Greater y)
