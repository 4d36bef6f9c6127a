-- The tests that decide whether a segment meets a polygon, over the spots of the polygon in place of its vectors.
use Rattle.std.proofs.Common.{◌≡◌, ◌≤◌, ◌<ℤ◌, pos, List, length, All, Any, Bool, true, false, not, Decides, subst, arith}
use Rattle.std.proofs.lemmas.Int.{ints}
use Rattle.std.proofs.lemmas.List.{length-map, get_or-map}
use Rattle.std.proofs.lemmas.List.Elements.{All-map}
use Rattle.plan_exact.proofs.Laws.{linear}
use Rattle.plan_spec.specs.Vector.{Vector, IsPoint, turn}
use Rattle.plan_spec.specs.Polygon.{AreRight, IsConvex, edges}
use Rattle.plan_plane.proofs.Polygon.Meeting.{MeetsSegment, no_meeting_right_of_edge, no_meeting_left_of_line, meets_segment_decides}
use Rattle.plan_grid.specs.declared.spot.Spot.{Spot}
use Rattle.plan_grid.specs.Bounds.{IsInRange}
use Rattle.plan_grid.specs.Spot.{spot_seen, spots_seen}

-- strictly left of the line from p to q, or strictly right
abbrev pub IsLeft : Vector → Vector → Spot → Type 0
IsLeft p q v = pos 0 <ℤ turn p q (spot_seen v)

abbrev pub IsRight : Vector → Vector → Spot → Type 0
IsRight p q v = turn p q (spot_seen v) <ℤ pos 0

pub is_point : (p : Vector) → IsInRange p → IsPoint p
is_point p h = let w = h.weight in omega (arith, linear)

each : (P : Vector → Type 0) (spots : List Spot) → All P (spots_seen spots) → All (λ v. P (spot_seen v)) spots
each P spots h k d within = subst P (get_or-map spot_seen spots k d (spot_seen d) within) (h k (spot_seen d) (omega (arith, length-map spots spot_seen)))

pub right_of_edge : (spots : List Spot) (p q : Vector) → IsPoint p → IsPoint q → Any (AreRight p q) (edges (spots_seen spots)) → ¬ (MeetsSegment (spots_seen spots) p q)
right_of_edge spots p q hp hq h = no_meeting_right_of_edge (spots_seen spots) p q h hp hq

module _ (spots : List Spot) (p q : Vector) (convex : IsConvex (spots_seen spots)) (long : 3 ≤ length spots) where
  enough : 3 ≤ length (spots_seen spots)
  enough = omega (arith, length-map spots spot_seen)

  pub left_of_line : All (IsLeft p q) spots → ¬ (MeetsSegment (spots_seen spots) p q)
  left_of_line h = no_meeting_left_of_line (spots_seen spots) p q convex enough (All-map (λ v. pos 0 <ℤ turn p q v) spot_seen spots h)

  pub last_test : IsPoint p → IsPoint q → (beyond left right : Bool) → beyond ≡ false → left ≡ false → Decides beyond (Any (AreRight p q) (edges (spots_seen spots))) → Decides left (All (IsLeft p q) spots) → Decides right (All (IsRight p q) spots)
      → Decides (not right) (MeetsSegment (spots_seen spots) p q)
  last_test hp hq false false right b l beyond_decides left_decides right_decides =
      meets_segment_decides (spots_seen spots) p q convex enough (All-map IsPoint spot_seen spots (λ k d within. omega (arith, ints))) hp hq false false right beyond_decides
      (λ e. absurd cc, λ h. left_decides.1 (each (λ v. pos 0 <ℤ turn p q v) spots h))
      (λ e. All-map (λ v. turn p q v <ℤ pos 0) spot_seen spots (right_decides.0 e), λ h. right_decides.1 (each (λ v. turn p q v <ℤ pos 0) spots h))
  last_test hp hq true left right b l beyond_decides left_decides right_decides = absurd cc
  last_test hp hq false true right b l beyond_decides left_decides right_decides = absurd cc
