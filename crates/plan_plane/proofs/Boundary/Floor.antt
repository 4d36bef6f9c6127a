-- Sums in a room whose corners are spots: each edge of the boundary is an edge of a sum or a side of the room, its ends are points, and none of its points is clear.
use Rattle.std.proofs.Common.{◌≡◌, ◌⊎◌, inl, inr, List, All, Any, Contains, zero, suc, refl, subst, arith}
use Rattle.std.specs.List.{flat_map}
use Rattle.std.proofs.lemmas.List.Elements.{All-contains}
use Rattle.plan_exact.proofs.Laws.{linear}
use Rattle.plan_spec.specs.Vector.{Vector, IsPoint}
use Rattle.plan_spec.specs.Segment.{Segment, HasPoints, On}
use Rattle.plan_spec.specs.Polygon.{edges}
use Rattle.plan_spec.specs.Frame.{Frame}
use Rattle.plan_spec.specs.Boundary.{IsClearOf, sides, boundary}
use Rattle.plan_plane.proofs.Boundary.Between.{touches}
use Rattle.plan_plane.proofs.Boundary.Blocks.{HasSpots}
use Rattle.plan_plane.proofs.Boundary.Sum.{IsSum, EdgeOf, edge_of}
use Rattle.plan_plane.proofs.Lists.{any_joined, any_unflat}

pub record IsFloor (sums : List (List Vector)) (room : Frame) : Type 0 where
  pub are_sums : All IsSum sums
  pub spots : HasSpots room

-- where an edge comes from
pub data Origin (sums : List (List Vector)) (room : Frame) (e : Segment) : Type 0 where
  of_sum : (vs : List Vector) → Contains sums vs → EdgeOf vs e → Origin sums room e
  of_side : Contains (sides room) e → Origin sums room e

pub origin : {sums : List (List Vector)} {room : Frame} → IsFloor sums room → (e : Segment) → Contains (boundary sums room) e → Origin sums room e
origin {sums} {room} floor e (k, within, is) = by (any_joined (λ s. s ≡ e) (flat_map edges sums) (sides room) (k, e, within, is, refl))
  where
    by : Any (λ s. s ≡ e) (flat_map edges sums) ⊎ Any (λ s. s ≡ e) (sides room) → Origin sums room e
    by (inr (j, s, below, at, same)) = of_side (subst (Contains (sides room)) same (j, below, at))
    by (inl h) =
        let (i, vs, below, at, (j, s, under, there, same)) = any_unflat (λ s. s ≡ e) edges sums h in
        of_sum vs (i, below, at) (edge_of vs e (All-contains IsSum sums vs floor.are_sums (i, below, at)) (subst (Contains (edges vs)) same (j, under, there)))

side_points : (room : Frame) → All HasPoints (sides room)
side_points room zero d within = (omega (arith, linear), omega (arith, linear))
side_points room (suc zero) d within = (omega (arith, linear), omega (arith, linear))
side_points room (suc (suc zero)) d within = (omega (arith, linear), omega (arith, linear))
side_points room (suc (suc (suc zero))) d within = (omega (arith, linear), omega (arith, linear))
side_points room (suc (suc (suc (suc k)))) d within = absurd (omega arith)

pub edge_points : {sums : List (List Vector)} {room : Frame} → IsFloor sums room → (e : Segment) → Contains (boundary sums room) e → HasPoints e
edge_points {sums} {room} floor e is = by (origin floor e is)
  where
    by : Origin sums room e → HasPoints e
    by (of_sum vs among edge) = (edge.a_point, edge.b_point)
    by (of_side among) = All-contains HasPoints (sides room) e (side_points room) among

pub not_clear : {sums : List (List Vector)} {room : Frame} → IsFloor sums room → (e : Segment) → Contains (boundary sums room) e → (z : Vector) → IsPoint z → On e z → ¬ (IsClearOf sums room z)
not_clear {sums} {room} floor e (k, within, is) z hz on = touches sums room z floor.are_sums floor.spots hz (k, e, within, is, on)
