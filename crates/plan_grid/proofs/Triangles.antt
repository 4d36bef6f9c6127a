-- Triangles of spots: the corners differ, so one of them is the least, and taken in the other direction they turn the other way.
use Rattle.std.proofs.Common.{◌≡◌, ◌⊎◌, inl, inr, pos, ◌<ℤ◌, ◌∙◌, refl, sym, subst, List, [], ◌∷◌, length, All, arith}
use Rattle.std.proofs.lemmas.List.Elements.{All-nil, All-cons}
use Rattle.plan_exact.proofs.Laws.{linear}
use Rattle.plan_exact.proofs.Vectors.{det_turned, det_swapped_right, cross_on_left}
use Rattle.plan_spec.specs.Vector.{Before, turn}
use Rattle.plan_spec.specs.Polygon.{IsFromLeast}
use Rattle.plan_grid.specs.declared.bounds.TheConstants.{MOST_CORNER}
use Rattle.plan_grid.specs.declared.spot.Spot.{Spot}
use Rattle.plan_grid.specs.Spot.{spot_seen, spots_seen, IsWithin}
use Rattle.plan_grid.specs.Triangle.{IsTriangle, IsCounterclockwise, IsRotation}
use Rattle.plan_grid.proofs.Spots.{corner, before_or_after, before_trans}

-- a triangle is its three corners, as code reads them
pub three_corners : (s : List Spot) → length s ≡ 3 → s ≡ corner s 0 ∷ corner s 1 ∷ corner s 2 ∷ []
three_corners [] e = absurd (omega arith)
three_corners (a ∷ []) e = absurd (omega arith)
three_corners (a ∷ (b ∷ [])) e = absurd (omega arith)
three_corners (a ∷ (b ∷ (c ∷ []))) e = refl
three_corners (a ∷ (b ∷ (c ∷ (d ∷ rest)))) e = absurd (omega arith)

-- the bounds of the three corners
pub corners_within : (a b c : Spot) → All (IsWithin MOST_CORNER) (a ∷ b ∷ c ∷ []) → IsWithin MOST_CORNER a × IsWithin MOST_CORNER b × IsWithin MOST_CORNER c
corners_within a b c all = (all 0 a (omega arith), all 1 a (omega arith), all 2 a (omega arith))

pub all_within : (a b c : Spot) → IsWithin MOST_CORNER a → IsWithin MOST_CORNER b → IsWithin MOST_CORNER c → All (IsWithin MOST_CORNER) (a ∷ b ∷ c ∷ [])
all_within a b c is_a is_b is_c =
    let B = IsWithin MOST_CORNER in
    All-cons B a (b ∷ c ∷ []) is_a (All-cons B b (c ∷ []) is_b (All-cons B c [] is_c (All-nil B)))

-- a counterclockwise triangle, from the way it turns and the bounds of its corners
pub counterclockwise_from : (a b c : Spot) → pos 0 <ℤ turn (spot_seen a) (spot_seen b) (spot_seen c) → All (IsWithin MOST_CORNER) (a ∷ b ∷ c ∷ []) → IsCounterclockwise (a ∷ b ∷ c ∷ [])
counterclockwise_from a b c left bounded = record {
  triangle = record { three = refl; bounded = bounded; not_flat = λ e. omega (arith, linear) };
  left = left;
}

-- ---- the direction of the corners
pub left_turned : (s : List Spot) → IsTriangle s → turn (spot_seen (corner s 0)) (spot_seen (corner s 1)) (spot_seen (corner s 2)) <ℤ pos 0 → IsCounterclockwise (corner s 0 ∷ corner s 2 ∷ corner s 1 ∷ [])
left_turned s h right =
    let t = subst IsTriangle (three_corners s h.three) h in
    let a = corner s 0 in let b = corner s 1 in let c = corner s 2 in
    let k = corners_within a b c t.bounded in
    counterclockwise_from a c b (omega (arith, linear, det_swapped_right (spot_seen a) (spot_seen b) (spot_seen c))) (all_within a c b k.0 k.2 k.1)

-- from the next corner on, the same
pub turned_on : (a b c : Spot) → IsCounterclockwise (a ∷ b ∷ c ∷ []) → IsCounterclockwise (b ∷ c ∷ a ∷ [])
turned_on a b c h =
    let k = corners_within a b c h.triangle.bounded in
    counterclockwise_from b c a (subst (λ k. pos 0 <ℤ k) (det_turned (spot_seen a) (spot_seen b) (spot_seen c)) h.left) (all_within b c a k.1 k.2 k.0)

pub rotated_left : (s t : List Spot) → IsCounterclockwise s → IsRotation s t → IsCounterclockwise t
rotated_left [] t h r = absurd r
rotated_left (a ∷ []) t h r = absurd r
rotated_left (a ∷ (b ∷ [])) t h r = absurd r
rotated_left (a ∷ (b ∷ (c ∷ []))) t h (inl e) = subst IsCounterclockwise (sym e) h
rotated_left (a ∷ (b ∷ (c ∷ []))) t h (inr (inl e)) = subst IsCounterclockwise (sym e) (turned_on a b c h)
rotated_left (a ∷ (b ∷ (c ∷ []))) t h (inr (inr e)) = subst IsCounterclockwise (sym e) (turned_on b c a (turned_on a b c h))
rotated_left (a ∷ (b ∷ (c ∷ (d ∷ rest)))) t h r = absurd r

-- ---- the least corner
-- the first corner differs from the other two, and they differ
module _ (a b c : Spot) (h : IsTriangle (a ∷ b ∷ c ∷ [])) where
  first_second : ¬ (a ≡ b)
  first_second e = h.not_flat (det_turned (spot_seen a) (spot_seen b) (spot_seen c) ∙ subst (λ (s : Spot). turn (spot_seen b) (spot_seen c) (spot_seen s) ≡ pos 0) (sym e) (cross_on_left (spot_seen b) (spot_seen c)))

  first_third : ¬ (a ≡ c)
  first_third e = h.not_flat (subst (λ (s : Spot). turn (spot_seen a) (spot_seen b) (spot_seen s) ≡ pos 0) e (cross_on_left (spot_seen a) (spot_seen b)))

  second_third : ¬ (b ≡ c)
  second_third e = h.not_flat (det_turned (spot_seen a) (spot_seen b) (spot_seen c) ∙ det_turned (spot_seen b) (spot_seen c) (spot_seen a) ∙ subst (λ (s : Spot). turn (spot_seen c) (spot_seen a) (spot_seen s) ≡ pos 0) (sym e) (cross_on_left (spot_seen c) (spot_seen a)))

from_least_of : (a b c : Spot) → Before (spot_seen a) (spot_seen b) → Before (spot_seen a) (spot_seen c) → IsFromLeast (spots_seen (a ∷ b ∷ c ∷ []))
from_least_of a b c ab ac =
    let P = Before (spot_seen a) in
    All-cons P (spot_seen b) (spot_seen c ∷ []) ab (All-cons P (spot_seen c) [] ac (All-nil P))

module _ (s : List Spot) (h : IsTriangle s) where
  triangle : IsTriangle (corner s 0 ∷ corner s 1 ∷ corner s 2 ∷ [])
  triangle = subst IsTriangle (three_corners s h.three) h

  -- where the first is not the least, the lesser of the other two is
  pub least_second : ¬ (Before (spot_seen (corner s 0)) (spot_seen (corner s 1)) × Before (spot_seen (corner s 0)) (spot_seen (corner s 2))) → Before (spot_seen (corner s 1)) (spot_seen (corner s 2)) → IsFromLeast (spots_seen (corner s 1 ∷ corner s 2 ∷ corner s 0 ∷ []))
  least_second not_first bc = from_least_of b c a bc (by (before_or_after a b (first_second a b c triangle)) (before_or_after a c (first_third a b c triangle)))
    where
      a : Spot
      a = corner s 0

      b : Spot
      b = corner s 1

      c : Spot
      c = corner s 2

      by : Before (spot_seen a) (spot_seen b) ⊎ Before (spot_seen b) (spot_seen a) → Before (spot_seen a) (spot_seen c) ⊎ Before (spot_seen c) (spot_seen a) → Before (spot_seen b) (spot_seen a)
      by (inr ba) k = ba
      by (inl ab) (inl ac) = absurd (not_first (ab, ac))
      by (inl ab) (inr ca) = before_trans b c a bc ca

  pub least_third : ¬ (Before (spot_seen (corner s 0)) (spot_seen (corner s 1)) × Before (spot_seen (corner s 0)) (spot_seen (corner s 2))) → ¬ (Before (spot_seen (corner s 1)) (spot_seen (corner s 2))) → IsFromLeast (spots_seen (corner s 2 ∷ corner s 0 ∷ corner s 1 ∷ []))
  least_third not_first not_bc = by (before_or_after a c (first_third a b c triangle)) (before_or_after b c (second_third a b c triangle))
    where
      a : Spot
      a = corner s 0

      b : Spot
      b = corner s 1

      c : Spot
      c = corner s 2

      by : Before (spot_seen a) (spot_seen c) ⊎ Before (spot_seen c) (spot_seen a) → Before (spot_seen b) (spot_seen c) ⊎ Before (spot_seen c) (spot_seen b) → IsFromLeast (spots_seen (c ∷ a ∷ b ∷ []))
      by k (inl bc) = absurd (not_bc bc)
      by (inr ca) (inr cb) = from_least_of c a b ca cb
      by (inl ac) (inr cb) = absurd (not_first (before_trans a c b ac cb, ac))
