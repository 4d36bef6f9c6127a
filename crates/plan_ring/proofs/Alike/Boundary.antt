-- Alike sums have alike edges, and what is held, uncovered or clear is the same.
use Rattle.std.proofs.Common.{◌↔◌, pos, ◌≤ℤ◌, ◌<ℤ◌, List, [], ◌∷◌, All, refl, arith}
use Rattle.std.specs.List.{AllZip, flat_map}
use Rattle.plan_exact.specs.Vectors.{cross}
use Rattle.plan_exact.proofs.Laws.{linear}
use Rattle.plan_exact.proofs.Vectors.{det_turned}
use Rattle.plan_spec.specs.Vector.{Vector, IsPoint, Same, turn}
use Rattle.plan_spec.specs.Segment.{Segment, HasPoints}
use Rattle.plan_spec.specs.Polygon.{OnOrLeft, Inside, edges, edges_to}
use Rattle.plan_spec.specs.Frame.{Frame}
use Rattle.plan_spec.specs.Boundary.{IsLeft, StrictlyInside, IsUncovered, IsClearOf, sides, boundary}
use Rattle.plan_plane.proofs.Boundary.Sum.{IsSum}
use Rattle.plan_plane.proofs.Polygon.Edges.{ends_of_edges}
use Rattle.plan_plane.proofs.Segment.Same.{Same-swapped}
use Rattle.plan_plane.proofs.Segment.SameSign.{nonneg_same, pos_same}
use Rattle.plan_ring.specs.Alike.{AlikePoints, AlikeSums, AlikeSegment}
use Rattle.plan_ring.proofs.Alike.SlabsLists.{zip_append, zip_swapped}
use Rattle.plan_ring.proofs.Alike.Zipped.{zip_same, zip_all}

-- ---- swapped
pub segment_swapped : (s t : Segment) → AlikeSegment s t → AlikeSegment t s
segment_swapped s t h = (Same-swapped s.a t.a h.0, Same-swapped s.b t.b h.1)

pub points_swapped : (vs ws : List Vector) → AlikePoints vs ws → AlikePoints ws vs
points_swapped vs ws h = zip_swapped Same (λ v w. Same-swapped v w) vs ws h

pub sums_swapped : (sums others : List (List Vector)) → AlikeSums sums others → AlikeSums others sums
sums_swapped sums others h = zip_swapped AlikePoints points_swapped sums others h

-- ---- edges
edges_to_alike : (f g : Vector) → Same f g → (vs ws : List Vector) → AlikePoints vs ws → AllZip AlikeSegment (edges_to f vs) (edges_to g ws)
edges_to_alike f g e [] [] h = tt
edges_to_alike f g e [] (w ∷ ws) h = absurd h
edges_to_alike f g e (v ∷ vs) [] h = absurd h
edges_to_alike f g e (v ∷ []) (w ∷ []) h = ((h.0, e), tt)
edges_to_alike f g e (v ∷ []) (w ∷ (y ∷ ws)) h = absurd h.1
edges_to_alike f g e (v ∷ (x ∷ vs)) (w ∷ []) h = absurd h.1
edges_to_alike f g e (v ∷ (x ∷ vs)) (w ∷ (y ∷ ws)) h = ((h.0, h.1.0), edges_to_alike f g e (x ∷ vs) (y ∷ ws) h.1)

pub edges_alike : (vs ws : List Vector) → AlikePoints vs ws → AllZip AlikeSegment (edges vs) (edges ws)
edges_alike [] [] h = tt
edges_alike [] (w ∷ ws) h = absurd h
edges_alike (v ∷ vs) [] h = absurd h
edges_alike (v ∷ vs) (w ∷ ws) h = edges_to_alike v w h.0 (v ∷ vs) (w ∷ ws) h

all_edges_alike : (sums others : List (List Vector)) → AlikeSums sums others → AllZip AlikeSegment (flat_map edges sums) (flat_map edges others)
all_edges_alike [] [] h = tt
all_edges_alike [] (ws ∷ others) h = absurd h
all_edges_alike (vs ∷ sums) [] h = absurd h
all_edges_alike (vs ∷ sums) (ws ∷ others) h = zip_append AlikeSegment (edges vs) (edges ws) (flat_map edges sums) (flat_map edges others) (edges_alike vs ws h.0) (all_edges_alike sums others h.1)

pub boundary_alike : (sums others : List (List Vector)) (room : Frame) → AlikeSums sums others → AllZip AlikeSegment (boundary sums room) (boundary others room)
boundary_alike sums others room h =
    zip_append AlikeSegment (flat_map edges sums) (flat_map edges others) (sides room) (sides room) (all_edges_alike sums others h) (zip_same AlikeSegment (λ s. ((refl, refl), (refl, refl))) (sides room))

-- ---- what one sum holds
-- the side of a line on which a point lies, by positions of the line's ends
on_or_left_alike : (z : Vector) (s t : Segment) → AlikeSegment s t → HasPoints s → HasPoints t → OnOrLeft z s → OnOrLeft z t
on_or_left_alike z s t e hs ht h =
    let one : pos 0 ≤ℤ turn s.b z t.a = nonneg_same (cross s.b z) s.a t.a hs.0 ht.0 e.0 (omega (arith, linear, det_turned s.a s.b z)) in
    let two : pos 0 ≤ℤ turn z t.a t.b = nonneg_same (cross z t.a) s.b t.b hs.1 ht.1 e.1 (omega (arith, linear, det_turned s.b z t.a)) in
    omega (arith, linear, det_turned z t.a t.b)

is_left_alike : (z : Vector) (s t : Segment) → AlikeSegment s t → HasPoints s → HasPoints t → IsLeft z s → IsLeft z t
is_left_alike z s t e hs ht h =
    let one : pos 0 <ℤ turn s.b z t.a = pos_same (cross s.b z) s.a t.a hs.0 ht.0 e.0 (omega (arith, linear, det_turned s.a s.b z)) in
    let two : pos 0 <ℤ turn z t.a t.b = pos_same (cross z t.a) s.b t.b hs.1 ht.1 e.1 (omega (arith, linear, det_turned s.b z t.a)) in
    omega (arith, linear, det_turned z t.a t.b)

pub inside_alike : (z : Vector) (vs ws : List Vector) → AlikePoints vs ws → All IsPoint vs → All IsPoint ws → Inside vs z → Inside ws z
inside_alike z vs ws h hv hw inside = zip_all AlikeSegment HasPoints HasPoints (OnOrLeft z) (OnOrLeft z) (on_or_left_alike z) (edges vs) (edges ws) (edges_alike vs ws h) (ends_of_edges IsPoint vs hv) (ends_of_edges IsPoint ws hw) inside

pub strictly_alike : (z : Vector) (vs ws : List Vector) → AlikePoints vs ws → All IsPoint vs → All IsPoint ws → StrictlyInside vs z → StrictlyInside ws z
strictly_alike z vs ws h hv hw inside = zip_all AlikeSegment HasPoints HasPoints (IsLeft z) (IsLeft z) (is_left_alike z) (edges vs) (edges ws) (edges_alike vs ws h) (ends_of_edges IsPoint vs hv) (ends_of_edges IsPoint ws hw) inside

-- ---- what no sum holds
pub record AreAlike (sums others : List (List Vector)) : Type 0 where
  pub one : All IsSum sums
  pub other : All IsSum others
  pub alike : AlikeSums sums others

pub alike_swapped : {sums others : List (List Vector)} → AreAlike sums others → AreAlike others sums
alike_swapped {sums} {others} h = record { one = h.other; other = h.one; alike = sums_swapped sums others h.alike }

none_inside : (z : Vector) (sums others : List (List Vector)) → AreAlike sums others → All (λ vs. ¬ (Inside vs z)) sums → All (λ vs. ¬ (Inside vs z)) others
none_inside z sums others h none =
    zip_all AlikePoints IsSum IsSum (λ vs. ¬ (Inside vs z)) (λ vs. ¬ (Inside vs z)) (λ vs ws e v w off inside. off (inside_alike z ws vs (points_swapped vs ws e) w.points v.points inside)) sums others h.alike h.one h.other none

none_strictly : (z : Vector) (sums others : List (List Vector)) → AreAlike sums others → All (λ vs. ¬ (StrictlyInside vs z)) sums → All (λ vs. ¬ (StrictlyInside vs z)) others
none_strictly z sums others h none =
    zip_all AlikePoints IsSum IsSum (λ vs. ¬ (StrictlyInside vs z)) (λ vs. ¬ (StrictlyInside vs z)) (λ vs ws e v w off inside. off (strictly_alike z ws vs (points_swapped vs ws e) w.points v.points inside)) sums others h.alike h.one h.other none

module _ {sums others : List (List Vector)} (h : AreAlike sums others) (room : Frame) (z : Vector) where
  pub uncovered_alike : IsUncovered sums room z ↔ IsUncovered others room z
  uncovered_alike = (
    λ u. record { in_room = u.in_room; in_none = none_strictly z sums others h u.in_none },
    λ u. record { in_room = u.in_room; in_none = none_strictly z others sums (alike_swapped h) u.in_none },
  )

  pub clear_alike : IsClearOf sums room z ↔ IsClearOf others room z
  clear_alike = (
    λ u. record { in_room = u.in_room; in_none = none_inside z sums others h u.in_none },
    λ u. record { in_room = u.in_room; in_none = none_inside z others sums (alike_swapped h) u.in_none },
  )
