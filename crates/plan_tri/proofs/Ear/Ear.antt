-- An ear: no vertex but v, w and u is in their triangle, so the path from w to u is out of its corner.
use Rattle.std.proofs.Common.{ℤ, pos, ◌≤ℤ◌, ◌≡◌, arith, List, All, ◌<ℤ◌}
use Rattle.plan_exact.specs.Vectors.{cross}
use Rattle.plan_exact.proofs.Laws.{linear}
use Rattle.plan_exact.proofs.Signs.{le_of_lt}
use Rattle.plan_exact.proofs.Vectors.{det_turned, cross_on_left, cross_on_right}
use Rattle.plan_spec.specs.Vector.{Vector, turn}
use Rattle.plan_plane.proofs.Polygon.Cut.{chain}
use Rattle.plan_poly.proofs.Loop.Corner.{AtCorner, points_of, first_meets, last_meets}
use Rattle.plan_tri.proofs.Corner.Clean.{Shape, clean}
use Rattle.plan_tri.proofs.Corner.Corner.{Corner, Clean}

-- on or left of the three sides
pub record InTriangle (v w u z : Vector) : Type 0 where
  pub after : pos 0 ≤ℤ turn v w z
  pub ahead : pos 0 ≤ℤ turn w u z
  pub before : pos 0 ≤ℤ turn u v z

pub nonpos : {n : ℤ} → n ≡ pos 0 → n ≤ℤ pos 0
nonpos x = omega (arith, linear)

pub record AtEar (v w : Vector) (mid : List Vector) (u : Vector) : Type 0 where
  pub at : AtCorner v w mid u
  pub none : All (λ m. ¬ (InTriangle v w u m)) mid

pub ahead_v : {v w : Vector} {mid : List Vector} {u : Vector} → AtEar v w mid u → pos 0 <ℤ turn w u v
ahead_v {v} {w} {mid} {u} k = omega (arith, linear, k.at.turns_left, det_turned u v w, det_turned v w u)

pub ear_corner : {v w : Vector} {mid : List Vector} {u : Vector} → AtEar v w mid u → Corner v w u (cross w u)
ear_corner k = let p = points_of k.at in record { point_v = p.v_point; point_w = p.w_point; point_u = p.u_point; turns_left = k.at.turns_left; at_v = ahead_v k }

ear_shape : {v w : Vector} {mid : List Vector} {u : Vector} → AtEar v w mid u → Shape v w u (cross w u) mid
ear_shape {v} {w} {mid} {u} k = record {
  corner = ear_corner k;
  at_w = nonpos (cross_on_left w u);
  at_u = nonpos (cross_on_right w u);
  ahead = λ z hz h. h;
  points = (points_of k.at).mid_points;
  none = λ i d within inside. k.none i d within (record { after = inside.after; ahead = le_of_lt inside.within; before = inside.before });
  first_meets = first_meets k.at;
  last_meets = last_meets k.at;
}

pub ear_clean : {v w : Vector} {mid : List Vector} {u : Vector} → AtEar v w mid u → All (Clean v w u (cross w u)) (chain w mid u)
ear_clean k = clean (ear_shape k)
