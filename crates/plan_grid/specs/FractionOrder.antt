-- The order of fractions by value is a total order, and cross products tell it.
use Rattle.std.proofs.Common.{◌≡◌, ℤ, pos, ◌*ℤ◌, ◌≤ℤ◌, ◌<ℤ◌, refl, sym, ap, subst, arith}
use Rattle.std.specs.Cmp.{IsTotalOrder, partial_order_from_agreeing_total, IsPartialOrder, IsEquivalence}
use Rattle.std.specs.Ordering.{int_cmp, as_partial_cmp, ordering_reverse}
use Rattle.std.specs.declared.cmp.Ordering.{Ordering}
use Rattle.std.specs.declared.cmp.Ordering.TheVariants.{Less, Equal, Greater}
use Rattle.std.proofs.lemmas.Cmp.{int_ranked, int_cmp_total, eq_by_cmp_equiv}
use Rattle.std.proofs.lemmas.Int.{ints, clamps}
use Rattle.plan_exact.proofs.Laws.{linear}
use Rattle.plan_exact.proofs.Fractions.{le_trans, lt_le_trans, le_lt_trans}
use Rattle.plan_grid.specs.Fraction.{Fraction, positive_den, fraction_cmp, fraction_eq}
use Rattle.plan_grid.specs.Order.{IsOrder}

pub order_is_cmp : (o : Ordering) (a b : ℤ) → IsOrder o a b → o ≡ int_cmp a b
order_is_cmp o a b h = by o (int_cmp a b) h (int_ranked a b (int_cmp a b) refl)
  where
    by : (o r : Ordering) → IsOrder o a b → IsOrder r a b → o ≡ r
    by Less Less h k = refl
    by Less Equal h k = absurd (omega (arith, linear))
    by Less Greater h k = absurd (omega (arith, linear))
    by Equal Less h k = absurd (omega (arith, linear))
    by Equal Equal h k = refl
    by Equal Greater h k = absurd (omega (arith, linear))
    by Greater Less h k = absurd (omega (arith, linear))
    by Greater Equal h k = absurd (omega (arith, linear))
    by Greater Greater h k = refl

den_is_positive : (p : Fraction) → pos 0 <ℤ positive_den p
den_is_positive p = omega (arith, ints, clamps)

pub positive_den_is : (p : Fraction) → pos 1 ≤ℤ p.den → positive_den p ≡ p.den
positive_den_is p h = omega (arith, ints, clamps)

-- x is less than y, or at most y, by value
abbrev Lt : Fraction → Fraction → Type 0
Lt x y = (x.num *ℤ positive_den y) <ℤ (y.num *ℤ positive_den x)

abbrev Le : Fraction → Fraction → Type 0
Le x y = (x.num *ℤ positive_den y) ≤ℤ (y.num *ℤ positive_den x)

module _ (x y z : Fraction) where
  lt_le : Lt x y → Le y z → Lt x z
  lt_le =
      lt_le_trans x.num (positive_den x) y.num (positive_den y) z.num (positive_den z)
      (den_is_positive x) (den_is_positive y) (den_is_positive z)

  le_lt : Le x y → Lt y z → Lt x z
  le_lt =
      le_lt_trans x.num (positive_den x) y.num (positive_den y) z.num (positive_den z)
      (den_is_positive x) (den_is_positive y) (den_is_positive z)

  le_le : Le x y → Le y z → Le x z
  le_le =
      le_trans x.num (positive_den x) y.num (positive_den y) z.num (positive_den z)
      (den_is_positive x) (den_is_positive y) (den_is_positive z)

module _ (x y z : Fraction) where
  antisymmetric : fraction_cmp x y ≡ ordering_reverse (fraction_cmp y x)
  antisymmetric = int_cmp_total.antisymm (x.num *ℤ positive_den y) (y.num *ℤ positive_den x)

  transitive : fraction_cmp x y ≡ Less → fraction_cmp y z ≡ Less → fraction_cmp x z ≡ Less
  transitive e f =
      let h = int_ranked (x.num *ℤ positive_den y) (y.num *ℤ positive_den x) Less (sym e) in
      let k = int_ranked (y.num *ℤ positive_den z) (z.num *ℤ positive_den y) Less (sym f) in
      sym (order_is_cmp Less _ _ (lt_le x y z h (omega (arith, linear))))

  same_order : (o : Ordering) → x.num *ℤ positive_den y ≡ y.num *ℤ positive_den x
      → IsOrder o (x.num *ℤ positive_den z) (z.num *ℤ positive_den x)
      → IsOrder o (y.num *ℤ positive_den z) (z.num *ℤ positive_den y)
  same_order Less e h = le_lt y x z (omega (arith, linear)) h
  same_order Greater e h = lt_le z x y h (omega (arith, linear))
  same_order Equal e h =
      let up = le_le y x z (omega (arith, linear)) (omega (arith, linear)) in
      let down = le_le z x y (omega (arith, linear)) (omega (arith, linear)) in
      omega (arith, linear)

  congruent : fraction_cmp x y ≡ Equal → fraction_cmp x z ≡ fraction_cmp y z
  congruent e =
      let same = int_ranked (x.num *ℤ positive_den y) (y.num *ℤ positive_den x) Equal (sym e) in
      order_is_cmp (fraction_cmp x z) _ _ (same_order (fraction_cmp x z) same (int_ranked _ _ (fraction_cmp x z) refl))

pub fraction_cmp_total : IsTotalOrder fraction_cmp
fraction_cmp_total = record { antisymm = λ x y. antisymmetric x y x; trans = transitive; congr = congruent }

pub fraction_eq_equivalence : IsEquivalence fraction_eq
fraction_eq_equivalence = eq_by_cmp_equiv fraction_cmp_total

pub fraction_order : IsPartialOrder fraction_eq (as_partial_cmp fraction_cmp)
fraction_order = partial_order_from_agreeing_total fraction_cmp fraction_cmp_total (λ _ _. refl) (λ _ _. refl)

at_same : (o : Ordering) (a b c d : ℤ) → a ≡ c → b ≡ d → IsOrder o a b → IsOrder o c d
at_same o a b c d e f h = subst (λ z. IsOrder o z d) e (subst (λ z. IsOrder o a z) f h)

module _ (p q : Fraction) (p_positive : pos 1 ≤ℤ p.den) (q_positive : pos 1 ≤ℤ q.den) where
  left : p.num *ℤ positive_den q ≡ p.num *ℤ q.den
  left = ap (λ z. p.num *ℤ z) (positive_den_is q q_positive)

  right : q.num *ℤ positive_den p ≡ q.num *ℤ p.den
  right = ap (λ z. q.num *ℤ z) (positive_den_is p p_positive)

  -- where the denominators are positive, the cross products tell the order
  pub fraction_cmp_ranked : IsOrder (fraction_cmp p q) (p.num *ℤ q.den) (q.num *ℤ p.den)
  fraction_cmp_ranked = at_same (fraction_cmp p q) _ _ _ _ left right (int_ranked _ _ (fraction_cmp p q) refl)

  pub fraction_cmp_from_order : (o : Ordering) → IsOrder o (p.num *ℤ q.den) (q.num *ℤ p.den) → o ≡ fraction_cmp p q
  fraction_cmp_from_order o h = order_is_cmp o _ _ (at_same o _ _ _ _ (sym left) (sym right) h)
