-- A loop from its least vertex v on, which turns left there: its points, and how the two edges at v meet the others.
use Rattle.std.proofs.Common.{pos, ◌<ℤ◌, List, [], ◌∷◌, ◌++◌, All, inl, inr, arith, subst, get_or}
use Rattle.std.proofs.lemmas.List.Elements.{All-head, All-tail, All-cons, All-weaker}
use Rattle.plan_exact.proofs.Laws.{linear}
use Rattle.plan_spec.specs.Segment.{segment}
use Rattle.plan_spec.specs.Vector.{Vector, Before, turn, IsPoint, LeX}
use Rattle.plan_plane.proofs.Lists.{all_left, all_right}
use Rattle.plan_plane.proofs.Pairs.{Pairs, pairs_across}
use Rattle.plan_plane.proofs.Polygon.Corner.{polygon, edges_corner}
use Rattle.plan_plane.proofs.Polygon.Cut.{chain}
use Rattle.plan_poly.proofs.Loop.Loop.{Loop, MeetRight, meet_swapped}

pub record AtCorner (v w : Vector) (mid : List Vector) (u : Vector) : Type 0 where
  pub loop : Loop (polygon v w mid u)
  pub least : All (Before v) (w ∷ (mid ++ u ∷ []))
  pub turns_left : pos 0 <ℤ turn u v w

-- ---- points and their order
pub record Points (v w : Vector) (mid : List Vector) (u : Vector) : Type 0 where
  pub v_point : IsPoint v
  pub w_point : IsPoint w
  pub mid_points : All IsPoint mid
  pub u_point : IsPoint u

pub points_of : {v w : Vector} {mid : List Vector} {u : Vector} → AtCorner v w mid u → Points v w mid u
points_of {v} {w} {mid} {u} k =
    let t = All-tail IsPoint v (w ∷ (mid ++ u ∷ [])) k.loop.points in
    let m = All-tail IsPoint w (mid ++ u ∷ []) t in
    record {
      v_point = All-head IsPoint v (w ∷ (mid ++ u ∷ [])) k.loop.points;
      w_point = All-head IsPoint w (mid ++ u ∷ []) t;
      mid_points = all_left IsPoint mid (u ∷ []) m;
      u_point = All-head IsPoint u [] (all_right IsPoint mid (u ∷ []) m);
    }

before_le : (v e : Vector) → Before v e → LeX v e
before_le v e (inl h) = omega (arith, linear)
before_le v e (inr h) = let s = h.0 in omega (arith, linear)

pub right_of_v : {v w : Vector} {mid : List Vector} {u : Vector} → AtCorner v w mid u → All (LeX v) (polygon v w mid u)
right_of_v {v} {w} {mid} {u} k = All-cons (LeX v) v (w ∷ (mid ++ u ∷ [])) (omega (arith, linear)) (All-weaker (Before v) (LeX v) (before_le v) (w ∷ (mid ++ u ∷ [])) k.least)

-- ---- how the edges at v meet the others
pub first_meets : {v w : Vector} {mid : List Vector} {u : Vector} → AtCorner v w mid u → All (MeetRight (segment v w)) (chain w mid u)
first_meets {v} {w} {mid} {u} k = all_left (MeetRight (segment v w)) (chain w mid u) (segment u v ∷ []) (subst (Pairs MeetRight) (edges_corner v w mid u) k.loop.apart).0

pub last_meets : {v w : Vector} {mid : List Vector} {u : Vector} → AtCorner v w mid u → All (MeetRight (segment u v)) (chain w mid u)
last_meets {v} {w} {mid} {u} k i d within =
    let m = pairs_across MeetRight (chain w mid u) (segment u v ∷ []) (subst (Pairs MeetRight) (edges_corner v w mid u) k.loop.apart).1 in
    let s = get_or (chain w mid u) i d in
    meet_swapped s (segment u v) (All-head (MeetRight s) (segment u v) [] (m i d within))
