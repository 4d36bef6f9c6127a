-- Cross products of directions in the plane: what the signs of some say of the others, by the relation that any four directions have.
use Rattle.std.proofs.Common.{◌≡◌, ℤ, pos, ◌+ℤ◌, ◌*ℤ◌, neg_ℤ, ◌≤ℤ◌, ◌<ℤ◌, [], ◌∷◌, arith}
use Rattle.plan_exact.specs.Expr.{◌⊕◌, ◌⊗◌, neg}
use Rattle.plan_exact.specs.Formal.{zero}
use Rattle.plan_exact.specs.Sign.{Sign, is_negative, is_zero, is_positive}
use Rattle.plan_exact.proofs.Certificates.{eq_from}
use Rattle.plan_exact.proofs.Laws.{linear}
use Rattle.plan_exact.proofs.Ring.{ring}
use Rattle.plan_exact.proofs.Signs.{zeros, sign_of, mul_pos, mul_nonneg, mul_of_zero, mul_pos_neg, mul_neg_neg, mul_nonpos_nonneg, mul_neg_pos, mul_nonneg_nonpos, neg_of_mul, pos_of_mul}
use Rattle.plan_grid.specs.declared.spot.Spot.{Spot}
use Rattle.plan_grid.specs.Spot.{plus, way, cross}
use Rattle.plan_grid.proofs.FormalSpots as S
use Rattle.plan_grid.proofs.FormalSpots.{coordinates, P}

pub cross_swapped : (d e : Spot) → cross d e ≡ neg_ℤ (cross e d)
cross_swapped d e = ring (coordinates (d ∷ e ∷ [])) (S.cross (P 0) (P 1)) (neg (S.cross (P 1) (P 0))) tt

pub cross_self : (d : Spot) → cross d d ≡ pos 0
cross_self d = ring (coordinates (d ∷ [])) (S.cross (P 0) (P 0)) zero tt

pub cross_plus : (d e h : Spot) → cross (plus d e) h ≡ cross d h +ℤ cross e h
cross_plus d e h = ring (coordinates (d ∷ e ∷ h ∷ [])) (S.cross (S.plus (P 0) (P 1)) (P 2)) (S.cross (P 0) (P 2) ⊕ S.cross (P 1) (P 2)) tt

pub cross_plus_right : (d e h : Spot) → cross h (plus d e) ≡ cross h d +ℤ cross h e
cross_plus_right d e h = ring (coordinates (d ∷ e ∷ h ∷ [])) (S.cross (P 2) (S.plus (P 0) (P 1))) (S.cross (P 2) (P 0) ⊕ S.cross (P 2) (P 1)) tt

-- back and forth, and on by way of a third spot
pub cross_way_back : (d p q : Spot) → cross d (way q p) ≡ neg_ℤ (cross d (way p q))
cross_way_back d p q = ring (coordinates (d ∷ p ∷ q ∷ [])) (S.cross (P 0) (S.way (P 2) (P 1))) (neg (S.cross (P 0) (S.way (P 1) (P 2)))) tt

pub cross_way_on : (d p q r : Spot) → cross d (way p r) ≡ cross d (way p q) +ℤ cross d (way q r)
cross_way_on d p q r = ring (coordinates (d ∷ p ∷ q ∷ r ∷ [])) (S.cross (P 0) (S.way (P 1) (P 3))) (S.cross (P 0) (S.way (P 1) (P 2)) ⊕ S.cross (P 0) (S.way (P 2) (P 3))) tt

-- the relation of four directions (Grassmann, Plücker), and the same for two of which two others are taken
pub four_crosses : (d e f h : Spot) → cross d e *ℤ cross f h +ℤ cross d h *ℤ cross e f ≡ cross d f *ℤ cross e h
four_crosses d e f h = ring (coordinates (d ∷ e ∷ f ∷ h ∷ [])) (S.cross (P 0) (P 1) ⊗ S.cross (P 2) (P 3) ⊕ S.cross (P 0) (P 3) ⊗ S.cross (P 1) (P 2)) (S.cross (P 0) (P 2) ⊗ S.cross (P 1) (P 3)) tt

pub two_crosses : (a b e f : Spot) → cross a e *ℤ cross b f ≡ cross a f *ℤ cross b e +ℤ cross a b *ℤ cross e f
two_crosses a b e f = ring (coordinates (a ∷ b ∷ e ∷ f ∷ [])) (S.cross (P 0) (P 2) ⊗ S.cross (P 1) (P 3)) (S.cross (P 0) (P 3) ⊗ S.cross (P 1) (P 2) ⊕ S.cross (P 0) (P 1) ⊗ S.cross (P 2) (P 3)) tt

-- ---- e and f are left of d
-- f is left of e, and h left of f and on or left of d: then h is left of e
pub left_of_first : (d e f h : Spot) → pos 0 <ℤ cross d e → pos 0 <ℤ cross d f → pos 0 ≤ℤ cross d h → pos 0 <ℤ cross e f → pos 0 <ℤ cross f h → pos 0 <ℤ cross e h
left_of_first d e f h de df dh ef fh = pos_of_mul df (omega (arith, linear, four_crosses d e f h, mul_pos de fh, mul_nonneg dh (weak ef)))
  where
    weak : {a : ℤ} → pos 0 <ℤ a → pos 0 ≤ℤ a
    weak k = omega (arith, linear)

-- e and f have one direction: what is left of e is left of f
pub left_of_aligned : (d e f h : Spot) → pos 0 <ℤ cross d e → pos 0 <ℤ cross d f → cross e f ≡ pos 0 → pos 0 <ℤ cross e h → pos 0 <ℤ cross f h
left_of_aligned d e f h de df ef eh =
    pos_of_mul de (omega (arith, linear, four_crosses d e f h, mul_pos df eh, mul_of_zero (cross d h) (cross e f) ef))

-- ... and what is right of e is right of f
pub right_of_aligned : (d e f h : Spot) → pos 0 <ℤ cross d e → pos 0 <ℤ cross d f → cross e f ≡ pos 0 → cross e h <ℤ pos 0 → cross f h <ℤ pos 0
right_of_aligned d e f h de df ef eh =
    neg_of_mul de (omega (arith, linear, four_crosses d e f h, mul_pos_neg df eh, mul_of_zero (cross d h) (cross e f) ef))

-- d and f are left of g, or d is on it, and e is right of it: then e is left of f, since it is less than half a turn from d
pub rise_before_fall : (g d e f : Spot) → pos 0 ≤ℤ cross g d → pos 0 <ℤ cross g f → cross g e <ℤ pos 0 → pos 0 <ℤ cross d f → pos 0 <ℤ cross d e → pos 0 <ℤ cross f e
rise_before_fall g d e f gd gf ge df de = by (sign_of (cross f e))
  where
    relation : cross g d *ℤ cross f e +ℤ cross g e *ℤ cross d f ≡ cross g f *ℤ cross d e
    relation = four_crosses g d f e

    by : Sign (cross f e) → pos 0 <ℤ cross f e
    by (is_positive p) = p
    by (is_zero z) = absurd (omega (arith, linear, relation, mul_pos gf de, mul_neg_pos ge df, mul_of_zero (cross g d) (cross f e) z))
    by (is_negative n) = absurd (omega (arith, linear, relation, mul_pos gf de, mul_neg_pos ge df, mul_nonneg_nonpos gd (weak n)))
      where
        weak : cross f e <ℤ pos 0 → cross f e ≤ℤ pos 0
        weak k = omega (arith, linear)

-- the same on the other side of g
pub fall_before_rise : (g d e f : Spot) → cross g d <ℤ pos 0 → cross g f <ℤ pos 0 → pos 0 <ℤ cross g e → pos 0 <ℤ cross d f → pos 0 <ℤ cross d e → pos 0 <ℤ cross f e
fall_before_rise g d e f gd gf ge df de = by (sign_of (cross f e))
  where
    relation : cross g d *ℤ cross f e +ℤ cross g e *ℤ cross d f ≡ cross g f *ℤ cross d e
    relation = four_crosses g d f e

    by : Sign (cross f e) → pos 0 <ℤ cross f e
    by (is_positive p) = p
    by (is_zero z) = absurd (omega (arith, linear, relation, mul_neg_pos gf de, mul_pos ge df, mul_of_zero (cross g d) (cross f e) z))
    by (is_negative n) = absurd (omega (arith, linear, relation, mul_neg_pos gf de, mul_pos ge df, mul_neg_neg gd n))

-- e is left of g and f right of it, so they do not have one direction: no d has f left of it and e on or left of it
pub no_way_back : (g d e f : Spot) → pos 0 <ℤ cross g e → cross g f <ℤ pos 0 → cross e f ≡ pos 0 → pos 0 <ℤ cross d f → pos 0 ≤ℤ cross d e → ⊥
no_way_back g d e f ge gf ef df de = omega (arith, linear, two_crosses g d e f, mul_pos ge df, mul_nonpos_nonneg (weak gf) de, mul_of_zero (cross g d) (cross e f) ef)
  where
    weak : {a : ℤ} → a <ℤ pos 0 → a ≤ℤ pos 0
    weak k = omega (arith, linear)

-- two directions that are not aligned, and t aligned with both: t is none
pub no_direction : (d e t : Spot) → pos 0 <ℤ cross d e → cross d t ≡ pos 0 → cross e t ≡ pos 0 → (t.x ≡ pos 0) × (t.y ≡ pos 0)
no_direction d e t de dt et =
    let xs = coordinates (d ∷ e ∷ t ∷ []) in (
      eq_from xs (S.cross (P 0) (P 1)) (neg (P 0).x ⊗ S.cross (P 1) (P 2) ⊕ (P 1).x ⊗ S.cross (P 0) (P 2)) (P 2).x zero tt de (search zeros),
      eq_from xs (S.cross (P 0) (P 1)) (neg (P 0).y ⊗ S.cross (P 1) (P 2) ⊕ (P 1).y ⊗ S.cross (P 0) (P 2)) (P 2).y zero tt de (search zeros),
    )
