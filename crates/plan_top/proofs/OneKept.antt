-- A list of spots is read as one polygon: from the one least vertex on, in the one of the two orders that turns left there.
use Rattle.std.proofs.Common.{◌≡◌, ◌⊎◌, inl, inr, pos, ◌<ℤ◌, List, [], ◌∷◌, ◌++◌, reverse, map, All, append-nil, refl, sym, ap, subst, ◌∙◌, arith}
use Rattle.std.proofs.lemmas.List.{map-append}
use Rattle.plan_exact.proofs.Laws.{linear}
use Rattle.plan_exact.proofs.Vectors.{det_turned, det_swapped}
use Rattle.plan_spec.specs.Vector.{Vector, Before, turn}
use Rattle.plan_spec.specs.Polygon.{IsFromLeast}
use Rattle.plan_spec.specs.SimplePolygon.{TurnsLeft, last}
use Rattle.plan_spec.specs.Triangulation.{from_least, but_last}
use Rattle.plan_plane.proofs.Backwards.{back, back_is, all_back}
use Rattle.plan_plane.proofs.Lists.{all_left, all_right}
use Rattle.plan_plane.proofs.Polygon.Corner.{polygon}
use Rattle.plan_grid.specs.declared.spot.Spot.{Spot}
use Rattle.plan_grid.specs.Spot.{spot_seen, spots_seen}
use Rattle.plan_poly.specs.Polygon.{IsRead, IsRotation}
use Rattle.plan_poly.proofs.EvenOdd.Orders.{reverse_seen}
use Rattle.plan_poly.proofs.FromLeast.Arranged.{flip, rotation_flipped}
use Rattle.plan_poly.proofs.FromLeast.ByPlace.{from_least_is}
use Rattle.plan_poly.proofs.FromLeast.Ready.{last_split}
use Rattle.plan_poly.proofs.Loop.Backwards.{reversed_is}
use Rattle.plan_poly.proofs.Spots.{points_seen}
use Rattle.plan_tri.proofs.Region.Region.{turns_left}

-- ---- spots and their vectors
abbrev pub unseen : List Vector → List Spot
unseen vs = map (λ v. record { x = v.x; y = v.y }) vs

pub unseen_is : (s : List Spot) → unseen (spots_seen s) ≡ s
unseen_is [] = refl
unseen_is (p ∷ s) = ap (λ zs. p ∷ zs) (unseen_is s)

pub seen_once : (s t : List Spot) → spots_seen s ≡ spots_seen t → s ≡ t
seen_once s t e = sym (unseen_is s) ∙ ap unseen e ∙ unseen_is t

-- ---- a list in cyclic order, from its least vertex on
by_parts : (pre : List Spot) (v : Spot) (post : List Spot) → All (Before (spot_seen v)) (spots_seen (post ++ pre)) → spots_seen (v ∷ (post ++ pre)) ≡ from_least (spots_seen (pre ++ v ∷ post))
by_parts pre v post h =
    let k = subst (All (Before (spot_seen v))) (map-append spot_seen post pre) h in
    ap (λ zs. spot_seen v ∷ zs) (map-append spot_seen post pre)
    ∙ sym (from_least_is (spots_seen pre) (spot_seen v) (spots_seen post) (points_seen post) (all_right (Before (spot_seen v)) (spots_seen post) (spots_seen pre) k) (all_left (Before (spot_seen v)) (spots_seen post) (spots_seen pre) k))
    ∙ ap from_least (sym (map-append spot_seen pre (v ∷ post)))

from_least_kept : (pre post : List Spot) → IsFromLeast (spots_seen (post ++ pre)) → spots_seen (post ++ pre) ≡ from_least (spots_seen (pre ++ post))
from_least_kept pre (v ∷ post) h = by_parts pre v post h
from_least_kept [] [] h = refl
from_least_kept (v ∷ pre) [] h =
    let e = append-nil pre in
    ap (λ zs. spots_seen (v ∷ zs)) (sym e) ∙ by_parts [] v pre (subst (λ zs. All (Before (spot_seen v)) (spots_seen zs)) (sym e) h) ∙ ap (λ zs. from_least (spots_seen (v ∷ zs))) (sym e)

rotation_is : (xs ys : List Spot) → IsRotation xs ys → IsFromLeast (spots_seen ys) → spots_seen ys ≡ from_least (spots_seen xs)
rotation_is xs ys (pre, post, e, f) h =
    ap spots_seen f ∙ from_least_kept pre post (subst (λ zs. IsFromLeast (spots_seen zs)) f h) ∙ ap (λ zs. from_least (spots_seen zs)) (sym e)

-- ---- in one of the two orders alone does it turn left
not_both_ways : (v : Vector) (ws : List Vector) → TurnsLeft (v ∷ ws) → ¬ (TurnsLeft (v ∷ reverse ws))
not_both_ways v [] h k = h
not_both_ways v (w ∷ []) h k = h
not_both_ways v (w ∷ (x ∷ xs)) h k =
    let list : w ∷ (x ∷ xs) ≡ w ∷ (but_last x xs ++ last x xs ∷ []) = ap (λ zs. w ∷ zs) (last_split x xs) in
    let other : v ∷ reverse (w ∷ (x ∷ xs)) ≡ polygon v (last x xs) (back (but_last x xs)) w = ap (λ zs. v ∷ zs) (sym (back_is (w ∷ (x ∷ xs)))) ∙ ap (λ zs. v ∷ back zs) list ∙ reversed_is v w (but_last x xs) (last x xs) in
    let back_turn : pos 0 <ℤ turn w v (last x xs) = turns_left v (last x xs) (back (but_last x xs)) w (subst TurnsLeft other k) in
    omega (arith, linear, h, back_turn, det_turned (last x xs) v w, det_swapped v w (last x xs))

flipped_from_least : (s : List Spot) → IsFromLeast (spots_seen s) → IsFromLeast (spots_seen (flip s))
flipped_from_least [] h = h
flipped_from_least (v ∷ vs) h = subst (All (Before (spot_seen v))) (back_is (spots_seen vs) ∙ sym (reverse_seen vs)) (all_back (Before (spot_seen v)) (spots_seen vs) h)

flipped_turns : (s : List Spot) → TurnsLeft (spots_seen s) → ¬ (TurnsLeft (spots_seen (flip s)))
flipped_turns [] h k = h
flipped_turns (v ∷ vs) h k = not_both_ways (spot_seen v) (spots_seen vs) h (subst (λ zs. TurnsLeft (spot_seen v ∷ zs)) (reverse_seen vs) k)

-- ---- read
other_order : (given k l : List Spot) → IsRead given k → IsRead given l → IsRotation given k → ¬ (IsRotation (reverse given) l)
other_order given k l a b h i =
    let turned = rotation_is (reverse given) (flip k) (rotation_flipped given k h) (flipped_from_least k a.polygon.least) in
    flipped_turns k a.polygon.left (subst TurnsLeft (rotation_is (reverse given) l i b.polygon.least ∙ sym turned) b.polygon.left)

pub one_kept : (given k l : List Spot) → IsRead given k → IsRead given l → k ≡ l
one_kept given k l a b = by a.order b.order
  where
    by : IsRotation given k ⊎ IsRotation (reverse given) k → IsRotation given l ⊎ IsRotation (reverse given) l → k ≡ l
    by (inl h) (inl i) = seen_once k l (rotation_is given k h a.polygon.least ∙ sym (rotation_is given l i b.polygon.least))
    by (inr h) (inr i) = seen_once k l (rotation_is (reverse given) k h a.polygon.least ∙ sym (rotation_is (reverse given) l i b.polygon.least))
    by (inl h) (inr i) = absurd (other_order given k l a b h i)
    by (inr h) (inl i) = absurd (other_order given l k b a i h)
