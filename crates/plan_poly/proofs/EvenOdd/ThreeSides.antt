-- A triangle that is not flat holds the same points by its three sides and by the even-odd rule, whichever way its vertices are given.
use Rattle.std.proofs.Common.{◌≡◌, pos, ◌<ℤ◌, true, int_lt, arith, false, ◌↔◌, Bool, cond, [], ◌∷◌, refl}
use Rattle.plan_exact.proofs.Tests.{lt_from_true, le_from_false}
use Rattle.plan_exact.proofs.Signs.{pos_of_nonneg}
use Rattle.plan_exact.proofs.Laws.{linear}
use Rattle.plan_exact.proofs.Vectors.{det_swapped_right}
use Rattle.plan_spec.specs.Polygon.{Inside}
use Rattle.plan_spec.specs.SimplePolygon.{InPolygon}
use Rattle.plan_spec.specs.Vector.{Vector, IsPoint, turn}
use Rattle.plan_grid.specs.Triangle.{counterclockwise_triangle}
use Rattle.plan_poly.proofs.EvenOdd.Backwards.{in_polygon_back}
use Rattle.plan_poly.proofs.EvenOdd.Triangle.{inside_from, from_inside}

pub held_by_three : (a b c z : Vector) → IsPoint a → IsPoint b → IsPoint c → IsPoint z → ¬ (turn a b c ≡ pos 0) → InPolygon (a ∷ b ∷ c ∷ []) z ↔ Inside (counterclockwise_triangle (a ∷ b ∷ c ∷ [])) z
held_by_three a b c z ha hb hc hz apart = by (int_lt (turn a b c) (pos 0)) refl
  where
    by : (t : Bool) → int_lt (turn a b c) (pos 0) ≡ t → InPolygon (a ∷ b ∷ c ∷ []) z ↔ Inside (cond t (a ∷ c ∷ b ∷ []) (a ∷ b ∷ c ∷ [])) z
    by false e =
        let h = pos_of_nonneg (le_from_false (turn a b c) (pos 0) e) apart in
        (inside_from a b c z ha hb hc hz h, from_inside a b c z hz h)
    by true e =
        let h : pos 0 <ℤ turn a c b = omega (arith, linear, det_swapped_right a c b, lt_from_true (turn a b c) (pos 0) e) in
        (λ i. inside_from a c b z ha hc hb hz h (in_polygon_back a (c ∷ b ∷ []) z i), λ i. in_polygon_back a (b ∷ c ∷ []) z (from_inside a c b z hz h i))
