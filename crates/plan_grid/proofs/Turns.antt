-- On which side of a line a point lies, as the cross product of ways: the three forms that code computes.
use Rattle.std.proofs.Common.{◌≡◌, ℤ, pos, ◌-ℤ◌, ◌*ℤ◌, [], ◌∷◌, ◌∙◌, sym}
use Rattle.plan_exact.specs.Expr.{con, ◌⊖◌, ◌⊗◌}
use Rattle.plan_exact.specs.Formal as F
use Rattle.plan_exact.specs.Formal.{A, B, C}
use Rattle.plan_exact.specs.Vectors.{env}
use Rattle.plan_exact.proofs.Ring.{ring}
use Rattle.plan_spec.specs.Vector.{Vector, spot, turn}
use Rattle.plan_grid.specs.declared.spot.Spot.{Spot}
use Rattle.plan_grid.specs.Spot.{spot_seen, way, cross}
use Rattle.plan_grid.proofs.FormalSpots as S
use Rattle.plan_grid.proofs.FormalSpots.{coordinates, places, P, Z}

-- how far z is to the left of the line through v in the direction d, times its weight
abbrev pub beside : Spot → Spot → Vector → ℤ
beside v d z = d.x *ℤ (z.y -ℤ v.y *ℤ z.w) -ℤ d.y *ℤ (z.x -ℤ v.x *ℤ z.w)

pub turn_beside : (a b : Spot) (z : Vector) → beside a (way a b) z ≡ turn (spot_seen a) (spot_seen b) z
turn_beside a b z = ring (places (a ∷ b ∷ []) z) (S.beside (P 0) (S.way (P 0) (P 1)) (Z 2)) (F.det (S.seen (P 0)) (S.seen (P 1)) (Z 2)) tt

pub beside_spot : (v d s : Spot) → beside v d (spot_seen s) ≡ cross d (way v s)
beside_spot v d s = ring (coordinates (v ∷ d ∷ s ∷ [])) (S.beside (P 0) (P 1) (S.seen (P 2))) (S.cross (P 1) (S.way (P 0) (P 2))) tt

pub turn_cross : (a b c : Spot) → turn (spot_seen a) (spot_seen b) (spot_seen c) ≡ cross (way a b) (way a c)
turn_cross a b c = sym (turn_beside a b (spot_seen c)) ∙ beside_spot a (way a b) c

pub turn_of_points : (a b : Vector) (cx cy : ℤ) → (a.x -ℤ cx *ℤ a.w) *ℤ (b.y -ℤ cy *ℤ b.w) -ℤ (a.y -ℤ cy *ℤ a.w) *ℤ (b.x -ℤ cx *ℤ b.w) ≡ turn a b (spot cx cy)
turn_of_points a b cx cy =
    ring (env [] (a ∷ b ∷ record { x = cx; y = cy; w = pos 1 } ∷ []))
    ((A.x ⊖ C.x ⊗ A.w) ⊗ (B.y ⊖ C.y ⊗ B.w) ⊖ (A.y ⊖ C.y ⊗ A.w) ⊗ (B.x ⊖ C.x ⊗ B.w))
    (F.det A B (record { x = C.x; y = C.y; w = con (pos 1) }))
    tt
