-- What a triangle of spots holds: its corners, and of a line through a corner only what is on or left of it, where both other corners are.
use Rattle.std.proofs.Common.{pos, ◌≤ℤ◌, ◌<ℤ◌, [], ◌∷◌, arith}
use Rattle.plan_exact.specs.Expr.{◌⊕◌, ◌⊗◌}
use Rattle.plan_exact.specs.Formal as F
use Rattle.plan_exact.proofs.Certificates.{le_from}
use Rattle.plan_exact.proofs.Laws.{linear}
use Rattle.plan_exact.proofs.Signs.{signs}
use Rattle.plan_exact.proofs.Vectors.{cross_on_left, cross_on_right, det_turned}
use Rattle.plan_spec.specs.Vector.{Vector}
use Rattle.plan_spec.specs.Polygon.{Inside}
use Rattle.plan_plane.proofs.Polygon.Triangle.{sides, held}
use Rattle.plan_grid.specs.declared.spot.Spot.{Spot}
use Rattle.plan_grid.specs.Spot.{spot_seen, spots_seen, way, cross}
use Rattle.plan_grid.proofs.FormalSpots as S
use Rattle.plan_grid.proofs.FormalSpots.{places, P, Z}
use Rattle.plan_grid.proofs.Turns.{beside, turn_cross}

pub beside_in_triangle : (p q r d : Spot) (z : Vector) → pos 0 <ℤ cross (way p q) (way p r) → Inside (spots_seen (p ∷ q ∷ r ∷ [])) z → pos 0 ≤ℤ cross d (way p q) → pos 0 ≤ℤ cross d (way p r) → pos 0 ≤ℤ beside p d z
beside_in_triangle p q r d z turns inside next previous =
    let s = sides (spot_seen p) (spot_seen q) (spot_seen r) z inside in
    let first = s.first in let third = s.third in
    le_from (places (p ∷ q ∷ r ∷ d ∷ []) z) (S.cross (S.way (P 0) (P 1)) (S.way (P 0) (P 2)))
    (F.det (S.seen (P 2)) (S.seen (P 0)) (Z 4) ⊗ S.cross (P 3) (S.way (P 0) (P 1)) ⊕ F.det (S.seen (P 0)) (S.seen (P 1)) (Z 4) ⊗ S.cross (P 3) (S.way (P 0) (P 2)))
    F.zero (S.beside (P 0) (P 3) (Z 4)) tt turns (search signs)

pub inside_corner : (p q r : Spot) → pos 0 <ℤ cross (way p q) (way p r) → Inside (spots_seen (p ∷ q ∷ r ∷ [])) (spot_seen p)
inside_corner p q r turns =
    let a = spot_seen p in let b = spot_seen q in let c = spot_seen r in
    held a b c a (omega (arith, linear, cross_on_left a b)) (omega (arith, linear, turn_cross p q r, det_turned a b c)) (omega (arith, linear, cross_on_right c a))
