-- What a polygon holds depends on the cyclic order of its vertices alone, in either direction.
use Rattle.std.proofs.Common.{◌≡◌, ◌⊎◌, ◌↔◌, inl, inr, List, [], ◌∷◌, ◌++◌, reverse, refl, sym, ap, subst, ◌∙◌}
use Rattle.std.proofs.lemmas.Grind.{reverse_onto}
use Rattle.std.proofs.lemmas.List.{append-nil, map-append, reverse-reverse}
use Rattle.plan_spec.specs.Vector.{Vector}
use Rattle.plan_spec.specs.SimplePolygon.{InPolygon}
use Rattle.plan_grid.specs.declared.spot.Spot.{Spot}
use Rattle.plan_grid.specs.Spot.{spot_seen, spots_seen}
use Rattle.plan_plane.proofs.Backwards.{back_is}
use Rattle.plan_poly.specs.Polygon.{IsRotation}
use Rattle.plan_poly.proofs.EvenOdd.Backwards.{in_polygon_back}
use Rattle.plan_poly.proofs.EvenOdd.Turned.{in_turned}

rotated : (pre post : List Vector) (z : Vector) → InPolygon (pre ++ post) z → InPolygon (post ++ pre) z
rotated [] post z h = subst (λ vs. InPolygon vs z) (sym (append-nil post)) h
rotated (p ∷ xs) [] z h = subst (λ vs. InPolygon vs z) (append-nil (p ∷ xs)) h
rotated (p ∷ xs) (q ∷ ys) z h = in_turned z p xs q ys h

from_reversed : (vs : List Vector) (z : Vector) → InPolygon (reverse vs) z → InPolygon vs z
from_reversed [] z h = h
from_reversed (v ∷ vs) z h = in_polygon_back v vs z (subst (λ us. InPolygon (v ∷ us) z) (sym (back_is vs)) (rotated (reverse vs) (v ∷ []) z (subst (λ us. InPolygon us z) (reverse_onto vs v []) h)))

to_reversed : (vs : List Vector) (z : Vector) → InPolygon vs z → InPolygon (reverse vs) z
to_reversed vs z h = from_reversed (reverse vs) z (subst (λ us. InPolygon us z) (sym (reverse-reverse vs)) h)

-- ---- of spots
pub reverse_seen : (s : List Spot) → spots_seen (reverse s) ≡ reverse (spots_seen s)
reverse_seen [] = refl
reverse_seen (v ∷ vs) = ap spots_seen (reverse_onto vs v []) ∙ map-append spot_seen (reverse vs) (v ∷ []) ∙ ap (λ zs. zs ++ spot_seen v ∷ []) (reverse_seen vs) ∙ sym (reverse_onto (spots_seen vs) (spot_seen v) [])

by_rotation : (xs ys : List Spot) → IsRotation xs ys → (z : Vector) → InPolygon (spots_seen xs) z → InPolygon (spots_seen ys) z
by_rotation xs ys (pre, post, e, f) z h =
    let at = ap spots_seen e ∙ map-append spot_seen pre post in
    let to = ap spots_seen f ∙ map-append spot_seen post pre in
    subst (λ vs. InPolygon vs z) (sym to) (rotated (spots_seen pre) (spots_seen post) z (subst (λ vs. InPolygon vs z) at h))

rotation_back : (xs ys : List Spot) → IsRotation xs ys → IsRotation ys xs
rotation_back xs ys (pre, post, e, f) = (post, pre, f, e)

pub same_points : (given kept : List Spot) → IsRotation given kept ⊎ IsRotation (reverse given) kept → (z : Vector) → InPolygon (spots_seen given) z ↔ InPolygon (spots_seen kept) z
same_points given kept (inl r) z = (by_rotation given kept r z, by_rotation kept given (rotation_back given kept r) z)
same_points given kept (inr r) z = (
  λ h. by_rotation (reverse given) kept r z (subst (λ vs. InPolygon vs z) (sym (reverse_seen given)) (to_reversed (spots_seen given) z h)),
  λ h. from_reversed (spots_seen given) z (subst (λ vs. InPolygon vs z) (reverse_seen given) (by_rotation kept (reverse given) (rotation_back (reverse given) kept r) z h)),
)
