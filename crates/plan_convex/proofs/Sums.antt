-- The sum of two triangles and the lines that border it. A combination of three of its points has its two parts by the same weights; and what is left of a line of the sum is so since both parts are left of the lines through the corners there.
use Rattle.std.proofs.Common.{◌≡◌, pos, ◌+ℤ◌, ◌*ℤ◌, ◌≤ℤ◌, ◌<ℤ◌, sym, subst, List, [], ◌∷◌, ◌++◌, arith}
use Rattle.plan_exact.specs.Expr.{var, con, ◌⊕◌, ◌⊗◌}
use Rattle.plan_exact.specs.Formal as F
use Rattle.plan_exact.proofs.Certificates.{le_from}
use Rattle.plan_exact.proofs.Laws.{linear}
use Rattle.plan_exact.proofs.Ring.{ring}
use Rattle.plan_exact.proofs.RingVectors.{ring_vectors}
use Rattle.plan_exact.proofs.Signs.{signs, mul_pos}
use Rattle.plan_spec.specs.Vector.{Vector, IsPoint, turn, minus}
use Rattle.plan_spec.specs.Polygon.{Inside}
use Rattle.plan_plane.proofs.Polygon.Triangle.{LeftOfSides, sides, held}
use Rattle.plan_grid.specs.declared.spot.Spot.{Spot}
use Rattle.plan_grid.specs.Spot.{spot_seen, spots_seen, plus, way, cross}
use Rattle.plan_convex.specs.Walk.{InSum}
use Rattle.plan_convex.proofs.Corners.{Borders}
use Rattle.plan_grid.proofs.FormalSpots as S
use Rattle.plan_grid.proofs.FormalSpots.{coordinates, Pair, P, places, Z}
use Rattle.plan_convex.proofs.Fan.{HoldingTriangle}
use Rattle.plan_convex.proofs.Triangle.{beside_in_triangle}
use Rattle.plan_grid.proofs.Turns.{beside}

-- v is the sum of a spot of A and a spot of B
pub record IsSum (A B : List Spot) (v : Spot) : Type 0 where
  pub part : Spot
  pub first : Inside (spots_seen A) (spot_seen part)
  pub second : Inside (spots_seen B) (spot_seen (way part v))

pub sum_has : (A B : List Spot) (v : Spot) → IsSum A B v → InSum (spots_seen A) (spots_seen B) (spot_seen v)
sum_has A B v h =
    let e : minus (spot_seen v) (spot_seen h.part) ≡ spot_seen (way h.part v) =
    ring_vectors (coordinates (h.part ∷ v ∷ [])) (F.minus (S.seen (P 1)) (S.seen (P 0))) (S.seen (S.way (P 0) (P 1))) tt in
    (spot_seen h.part, omega (arith, linear), h.first, subst (Inside (spots_seen B)) (sym e) h.second)

-- ---- combinations
-- the three weights of p in the triangle a b c
abbrev weighted : Spot → Spot → Spot → Vector → Spot → Spot → Spot → Vector
weighted a b c p u v w =
    let j = turn (spot_seen b) (spot_seen c) p in
    let k = turn (spot_seen c) (spot_seen a) p in
    let l = turn (spot_seen a) (spot_seen b) p in
    record { x = j *ℤ u.x +ℤ k *ℤ v.x +ℤ l *ℤ w.x; y = j *ℤ u.y +ℤ k *ℤ v.y +ℤ l *ℤ w.y; w = j +ℤ k +ℤ l }

abbrev weightsE : F.Vec → F.Vec
weightsE p = record { x = F.det (S.seen (P 1)) (S.seen (P 2)) p; y = F.det (S.seen (P 2)) (S.seen (P 0)) p; w = F.det (S.seen (P 0)) (S.seen (P 1)) p }

abbrev weightedE : F.Vec → Pair → Pair → Pair → F.Vec
weightedE p u v w =
    let k = weightsE p in
    record { x = k.x ⊗ u.x ⊕ k.y ⊗ v.x ⊕ k.w ⊗ w.x; y = k.x ⊗ u.y ⊕ k.y ⊗ v.y ⊕ k.w ⊗ w.y; w = k.x ⊕ k.y ⊕ k.w }

module _ (a b c : Spot) (p : Vector) (turns : pos 0 <ℤ cross (way a b) (way a c)) (is_point : IsPoint p) (holds : LeftOfSides (spot_seen a) (spot_seen b) (spot_seen c) p) where
  -- the combination of u, v, w with the weights of p is on or left of a line that has u, v, w there
  combined_left : (s t u v w : Spot) → pos 0 ≤ℤ turn (spot_seen s) (spot_seen t) (spot_seen u) → pos 0 ≤ℤ turn (spot_seen s) (spot_seen t) (spot_seen v) → pos 0 ≤ℤ turn (spot_seen s) (spot_seen t) (spot_seen w) → pos 0 ≤ℤ turn (spot_seen s) (spot_seen t) (weighted a b c p u v w)
  combined_left s t u v w hu hv hw =
      let first = holds.first in let second = holds.second in let third = holds.third in
      let l = F.det (S.seen (P 3)) (S.seen (P 4)) in
      let k = weightsE (Z 8) in
      le_from (places (a ∷ b ∷ c ∷ s ∷ t ∷ u ∷ v ∷ w ∷ []) p) (con (pos 1))
      (k.x ⊗ l (S.seen (P 5)) ⊕ k.y ⊗ l (S.seen (P 6)) ⊕ k.w ⊗ l (S.seen (P 7)))
      F.zero (l (weightedE (Z 8) (P 5) (P 6) (P 7))) tt (search signs) (search signs)

  -- the rest of p, where that combination is taken away, is one of what is left of a, b, c
  rest_left : (s t u v w : Spot) → pos 0 ≤ℤ turn (spot_seen s) (spot_seen t) (spot_seen (way u a)) → pos 0 ≤ℤ turn (spot_seen s) (spot_seen t) (spot_seen (way v b)) → pos 0 ≤ℤ turn (spot_seen s) (spot_seen t) (spot_seen (way w c)) → pos 0 ≤ℤ turn (spot_seen s) (spot_seen t) (minus p (weighted a b c p u v w))
  rest_left s t u v w hu hv hw =
      let first = holds.first in let second = holds.second in let third = holds.third in
      let l = F.det (S.seen (P 3)) (S.seen (P 4)) in
      let k = weightsE (Z 8) in
      le_from (places (a ∷ b ∷ c ∷ s ∷ t ∷ u ∷ v ∷ w ∷ []) p) (con (pos 1))
      ((Z 8).w ⊗ (k.x ⊗ l (S.seen (S.way (P 5) (P 0))) ⊕ k.y ⊗ l (S.seen (S.way (P 6) (P 1))) ⊕ k.w ⊗ l (S.seen (S.way (P 7) (P 2)))))
      F.zero (l (F.minus (Z 8) (weightedE (Z 8) (P 5) (P 6) (P 7)))) tt (search signs) (search signs)

  combined_point : (u v w : Spot) → IsPoint (weighted a b c p u v w)
  combined_point u v w =
      let e = ring (places (a ∷ b ∷ c ∷ []) p) (S.cross (S.way (P 0) (P 1)) (S.way (P 0) (P 2)) ⊗ (Z 3).w) (weightedE (Z 3) (P 0) (P 1) (P 2)).w tt in
      omega (arith, linear, e, mul_pos turns is_point)

pub sum_holds : (a0 a1 a2 b0 b1 b2 : Spot) (p : Vector) → IsPoint p → HoldingTriangle (IsSum (a0 ∷ a1 ∷ a2 ∷ []) (b0 ∷ b1 ∷ b2 ∷ [])) p → InSum (spots_seen (a0 ∷ a1 ∷ a2 ∷ [])) (spots_seen (b0 ∷ b1 ∷ b2 ∷ [])) p
sum_holds a0 a1 a2 b0 b1 b2 p is_point h =
    let u = h.has_a.part in let v = h.has_b.part in let w = h.has_c.part in
    let in_a = λ (x : Spot) (i : Inside (spots_seen (a0 ∷ a1 ∷ a2 ∷ [])) (spot_seen x)). sides (spot_seen a0) (spot_seen a1) (spot_seen a2) (spot_seen x) i in
    let in_b = λ (x : Spot) (i : Inside (spots_seen (b0 ∷ b1 ∷ b2 ∷ [])) (spot_seen x)). sides (spot_seen b0) (spot_seen b1) (spot_seen b2) (spot_seen x) i in
    let au = in_a u h.has_a.first in let av = in_a v h.has_b.first in let aw = in_a w h.has_c.first in
    let bu = in_b (way u h.a) h.has_a.second in let bv = in_b (way v h.b) h.has_b.second in let bw = in_b (way w h.c) h.has_c.second in
    let z = weighted h.a h.b h.c p u v w in
    let holds = sides (spot_seen h.a) (spot_seen h.b) (spot_seen h.c) p h.holds in
    let left = combined_left h.a h.b h.c p h.turns is_point holds in
    let rest = rest_left h.a h.b h.c p h.turns is_point holds in (
      z,
      combined_point h.a h.b h.c p h.turns is_point holds u v w,
      held (spot_seen a0) (spot_seen a1) (spot_seen a2) z
          (left a0 a1 u v w au.first av.first aw.first) (left a1 a2 u v w au.second av.second aw.second) (left a2 a0 u v w au.third av.third aw.third),
      held (spot_seen b0) (spot_seen b1) (spot_seen b2) (minus p z)
          (rest b0 b1 u v w bu.first bv.first bw.first) (rest b1 b2 u v w bu.second bv.second bw.second) (rest b2 b0 u v w bu.third bv.third bw.third),
    )

-- ---- lines
-- x is left of a line through v + w where one part of x is left of the line through v and the other of the line through w
beside_sum : (v w d : Spot) (x z : Vector) → IsPoint x → IsPoint z → pos 0 ≤ℤ beside v d z → pos 0 ≤ℤ beside w d (minus x z) → pos 0 ≤ℤ beside (plus v w) d x
beside_sum v w d x z hx hz first second =
    let zE : F.Vec = record { x = var 9; y = var 10; w = var 11 } in
    le_from (coordinates (v ∷ w ∷ d ∷ []) ++ x.x ∷ x.y ∷ x.w ∷ z.x ∷ z.y ∷ z.w ∷ []) zE.w
    ((Z 3).w ⊗ S.beside (P 0) (P 2) zE ⊕ S.beside (P 1) (P 2) (F.minus (Z 3) zE))
    F.zero (S.beside (S.plus (P 0) (P 1)) (P 2) (Z 3)) tt hz (search signs)

-- the line in the direction d through the sum of two corners, where both triangles are on or left of it
pub borders_sum : (p q r s t u d : Spot) → pos 0 <ℤ cross (way p q) (way p r) → pos 0 <ℤ cross (way s t) (way s u) → pos 0 ≤ℤ cross d (way p q) → pos 0 ≤ℤ cross d (way p r) → pos 0 ≤ℤ cross d (way s t) → pos 0 ≤ℤ cross d (way s u) → Borders (InSum (spots_seen (p ∷ q ∷ r ∷ [])) (spots_seen (s ∷ t ∷ u ∷ []))) (plus p s) d
borders_sum p q r s t u d turns_a turns_b pq pr st su x is_point i =
    beside_sum p s d x i.0 is_point i.1 (beside_in_triangle p q r d i.0 turns_a i.2 pq pr) (beside_in_triangle s t u d (minus x i.0) turns_b i.3 st su)
