-- The sum is told from the triangles as they were given: which corner comes first does not matter, and the reflected robot holds what the robot holds on the other side.
use Rattle.std.proofs.Common.{◌≡◌, inl, inr, ℤ, pos, ◌≤ℤ◌, ◌<ℤ◌, ◌↔◌, sym, subst, List, [], ◌∷◌, ◌++◌, map, arith}
use Rattle.std.proofs.lemmas.Int.{ints}
use Rattle.plan_exact.specs.Expr.{var}
use Rattle.plan_exact.specs.Formal as F
use Rattle.plan_exact.proofs.Ring.{ring}
use Rattle.plan_spec.specs.Vector.{Vector, IsPoint, turn, minus}
use Rattle.plan_spec.specs.Polygon.{Inside}
use Rattle.plan_plane.proofs.Polygon.Triangle.{sides, held, inside_turned}
use Rattle.plan_grid.specs.declared.spot.Spot.{Spot}
use Rattle.plan_grid.specs.Spot.{spot_seen, IsWithin, spots_seen, opposite}
use Rattle.plan_convex.specs.declared.walk.Walk.{Walk}
use Rattle.plan_grid.specs.Triangle.{IsCounterclockwise, IsRotation}
use Rattle.plan_convex.specs.Walk.{InSum, corners}
use Rattle.plan_grid.proofs.FormalSpots as S
use Rattle.plan_grid.proofs.FormalSpots.{coordinates, Pair, P}
use Rattle.plan_grid.proofs.Triangles.{corners_within, all_within, counterclockwise_from}

-- ---- from another corner on
turned_holds : (xs ys : List Spot) (z : Vector) → IsCounterclockwise xs → IsRotation xs ys → Inside (spots_seen ys) z → Inside (spots_seen xs) z
turned_holds [] ys z h t i = absurd t
turned_holds (a ∷ []) ys z h t i = absurd t
turned_holds (a ∷ (b ∷ [])) ys z h t i = absurd t
turned_holds (a ∷ (b ∷ (c ∷ (d ∷ rest)))) ys z h t i = absurd t
turned_holds (a ∷ (b ∷ (c ∷ []))) ys z h (inl e) i = subst (λ l. Inside (spots_seen l) z) e i
turned_holds (a ∷ (b ∷ (c ∷ []))) ys z h (inr (inl e)) i = inside_turned (spot_seen c) (spot_seen a) (spot_seen b) z (inside_turned (spot_seen b) (spot_seen c) (spot_seen a) z (subst (λ l. Inside (spots_seen l) z) e i))
turned_holds (a ∷ (b ∷ (c ∷ []))) ys z h (inr (inr e)) i = inside_turned (spot_seen c) (spot_seen a) (spot_seen b) z (subst (λ l. Inside (spots_seen l) z) e i)

holds_turned : (xs ys : List Spot) (z : Vector) → IsCounterclockwise xs → IsRotation xs ys → Inside (spots_seen xs) z → Inside (spots_seen ys) z
holds_turned [] ys z h t i = absurd t
holds_turned (a ∷ []) ys z h t i = absurd t
holds_turned (a ∷ (b ∷ [])) ys z h t i = absurd t
holds_turned (a ∷ (b ∷ (c ∷ (d ∷ rest)))) ys z h t i = absurd t
holds_turned (a ∷ (b ∷ (c ∷ []))) ys z h (inl e) i = subst (λ l. Inside (spots_seen l) z) (sym e) i
holds_turned (a ∷ (b ∷ (c ∷ []))) ys z h (inr (inl e)) i = subst (λ l. Inside (spots_seen l) z) (sym e) (inside_turned (spot_seen a) (spot_seen b) (spot_seen c) z i)
holds_turned (a ∷ (b ∷ (c ∷ []))) ys z h (inr (inr e)) i = subst (λ l. Inside (spots_seen l) z) (sym e) (inside_turned (spot_seen b) (spot_seen c) (spot_seen a) z (inside_turned (spot_seen a) (spot_seen b) (spot_seen c) z i))

-- ---- on the other side of the origin
opposite_within : (p : Spot) → IsWithin 1023 p → IsWithin 1023 (opposite p)
opposite_within p h = record { x = omega (arith, ints); y = omega (arith, ints) }

opposite_turn : (a b c : Spot) → turn (spot_seen a) (spot_seen b) (spot_seen c) ≡ turn (spot_seen (opposite a)) (spot_seen (opposite b)) (spot_seen (opposite c))
opposite_turn a b c = ring (coordinates (a ∷ b ∷ c ∷ [])) (F.det (S.seen (P 0)) (S.seen (P 1)) (S.seen (P 2))) (F.det (S.seen (S.opposite (P 0))) (S.seen (S.opposite (P 1))) (S.seen (S.opposite (P 2)))) tt

pub opposite_triangle : (xs : List Spot) → IsCounterclockwise xs → IsCounterclockwise (map opposite xs)
opposite_triangle [] h = absurd (let e = h.triangle.three in omega arith)
opposite_triangle (a ∷ []) h = absurd (let e = h.triangle.three in omega arith)
opposite_triangle (a ∷ (b ∷ [])) h = absurd (let e = h.triangle.three in omega arith)
opposite_triangle (a ∷ (b ∷ (c ∷ []))) h =
    let k = corners_within a b c h.triangle.bounded in
    counterclockwise_from (opposite a) (opposite b) (opposite c) (subst (λ k. pos 0 <ℤ k) (opposite_turn a b c) h.left) (all_within (opposite a) (opposite b) (opposite c) (opposite_within a k.0) (opposite_within b k.1) (opposite_within c k.2))
opposite_triangle (a ∷ (b ∷ (c ∷ (d ∷ rest)))) h = absurd (let e = h.triangle.three in omega arith)

-- z less p is on the side of a b on which p less z is of the opposite one
opposite_side : (a b : Spot) (z p : Vector) → turn (spot_seen a) (spot_seen b) (minus z p) ≡ turn (spot_seen (opposite a)) (spot_seen (opposite b)) (minus p z)
opposite_side a b z p =
    let zE : F.Vec = record { x = var 4; y = var 5; w = var 6 } in
    let pE : F.Vec = record { x = var 7; y = var 8; w = var 9 } in
    ring (coordinates (a ∷ b ∷ []) ++ z.x ∷ z.y ∷ z.w ∷ p.x ∷ p.y ∷ p.w ∷ []) (F.det (S.seen (P 0)) (S.seen (P 1)) (F.minus zE pE)) (F.det (S.seen (S.opposite (P 0))) (S.seen (S.opposite (P 1))) (F.minus pE zE)) tt

opposite_holds : (xs : List Spot) (z p : Vector) → IsCounterclockwise xs → Inside (spots_seen xs) (minus z p) ↔ Inside (spots_seen (map opposite xs)) (minus p z)
opposite_holds [] z p h = absurd (let e = h.triangle.three in omega arith)
opposite_holds (a ∷ []) z p h = absurd (let e = h.triangle.three in omega arith)
opposite_holds (a ∷ (b ∷ [])) z p h = absurd (let e = h.triangle.three in omega arith)
opposite_holds (a ∷ (b ∷ (c ∷ []))) z p h =
    let move = λ (k l : ℤ) (e : k ≡ l) (i : pos 0 ≤ℤ k). subst (λ n. pos 0 ≤ℤ n) e i in
    let ab = opposite_side a b z p in let bc = opposite_side b c z p in let ca = opposite_side c a z p in (
      λ i. let t = sides (spot_seen a) (spot_seen b) (spot_seen c) (minus z p) i in
          held (spot_seen (opposite a)) (spot_seen (opposite b)) (spot_seen (opposite c)) (minus p z) (move _ _ ab t.first) (move _ _ bc t.second) (move _ _ ca t.third),
      λ i. let t = sides (spot_seen (opposite a)) (spot_seen (opposite b)) (spot_seen (opposite c)) (minus p z) i in
          held (spot_seen a) (spot_seen b) (spot_seen c) (minus z p) (move _ _ (sym ab) t.first) (move _ _ (sym bc) t.second) (move _ _ (sym ca) t.third),
    )
opposite_holds (a ∷ (b ∷ (c ∷ (d ∷ rest)))) z p h = absurd (let e = h.triangle.three in omega arith)

-- ---- both
pub sum_of_given : (obstacle robot : List Spot) (a b : Walk) (vs : List Spot) → IsCounterclockwise obstacle → IsCounterclockwise robot → IsRotation obstacle (corners a) → IsRotation (map opposite robot) (corners b)
    → ((p : Vector) → IsPoint p → Inside (spots_seen vs) p ↔ InSum (spots_seen (corners a)) (spots_seen (corners b)) p)
    → (p : Vector) → IsPoint p → Inside (spots_seen vs) p ↔ ((z : Vector) × IsPoint z × Inside (spots_seen obstacle) z × Inside (spots_seen robot) (minus z p))
sum_of_given obstacle robot a b vs ho hr ta tb merged p is_point =
    let back = opposite_triangle robot hr in (
      λ i. let s = (merged p is_point).0 i in
          (s.0, s.1, turned_holds obstacle (corners a) s.0 ho ta s.2, (opposite_holds robot s.0 p hr).1 (turned_holds (map opposite robot) (corners b) (minus p s.0) back tb s.3)),
      λ s. (merged p is_point).1 (s.0, s.1, holds_turned obstacle (corners a) s.0 ho ta s.2, holds_turned (map opposite robot) (corners b) (minus p s.0) back tb ((opposite_holds robot s.0 p hr).0 s.3)),
    )
