-- Whether a point is held, uncovered or clear depends on its position alone, since the sign of each covector does.
-- Nothing cites `clear_same` yet: it is stock for routes.
use Rattle.std.proofs.Common.{◌≡◌, inl, inr, pos, List, get_or, arith}
use Rattle.plan_exact.specs.Vectors.{cross}
use Rattle.plan_exact.proofs.Laws.{linear}
use Rattle.plan_spec.specs.Vector.{Vector, IsPoint, Same, SameX, LeX}
use Rattle.plan_spec.specs.Polygon.{Inside, edges}
use Rattle.plan_spec.specs.Frame.{Frame, OnOrBeyond}
use Rattle.plan_plane.proofs.Segment.Between.{flip}
use Rattle.plan_plane.proofs.Segment.ByX.{leX_trans}
use Rattle.plan_plane.proofs.Segment.Same.{Same-swapped}
use Rattle.plan_spec.specs.Boundary.{StrictlyInside, InRoom, IsUncovered, IsClearOf}
use Rattle.plan_plane.proofs.Boundary.Blocks.{HasSpots}
use Rattle.plan_plane.proofs.Segment.SameSign.{nonneg_same, pos_same}

pub inside_same : (vs : List Vector) (z u : Vector) → IsPoint z → IsPoint u → Same z u → Inside vs z → Inside vs u
inside_same vs z u hz hu h inside k d within = let s = get_or (edges vs) k d in nonneg_same (cross s.a s.b) z u hz hu h (inside k d within)

pub strictly_same : (vs : List Vector) (z u : Vector) → IsPoint z → IsPoint u → Same z u → StrictlyInside vs z → StrictlyInside vs u
strictly_same vs z u hz hu h inside k d within = let s = get_or (edges vs) k d in pos_same (cross s.a s.b) z u hz hu h (inside k d within)

after_same : (a z u : Vector) → IsPoint a → IsPoint z → IsPoint u → SameX z u → LeX a z → LeX a u
after_same a z u ha hz hu e h = let f : LeX z u = omega (arith, linear) in leX_trans a z u ha hz hu h f

before_same : (a z u : Vector) → IsPoint a → IsPoint z → IsPoint u → SameX z u → LeX z a → LeX u a
before_same a z u ha hz hu e h = let f : LeX u z = omega (arith, linear) in leX_trans u z a hu hz ha f h

spot_point : (p : Vector) → p.w ≡ pos 1 → IsPoint p
spot_point p e = omega (arith, linear)

pub beyond_same : (room : Frame) (z u : Vector) → HasSpots room → IsPoint z → IsPoint u → Same z u → OnOrBeyond room z → OnOrBeyond room u
beyond_same room z u spots hz hu h (inl k) = inl (before_same room.low z u (spot_point room.low spots.low) hz hu h.0 k)
beyond_same room z u spots hz hu h (inr (inl k)) = inr (inl (after_same room.high z u (spot_point room.high spots.high) hz hu h.0 k))
beyond_same room z u spots hz hu h (inr (inr (inl k))) = inr (inr (inl (before_same (flip room.low) (flip z) (flip u) (spot_point room.low spots.low) hz hu h.1 k)))
beyond_same room z u spots hz hu h (inr (inr (inr k))) = inr (inr (inr (after_same (flip room.high) (flip z) (flip u) (spot_point room.high spots.high) hz hu h.1 k)))

pub in_room_same : (room : Frame) (z u : Vector) → HasSpots room → IsPoint z → IsPoint u → Same z u → InRoom room z → InRoom room u
in_room_same room z u spots hz hu h k = record {
  wide = k.wide;
  tall = k.tall;
  left = after_same room.low z u (spot_point room.low spots.low) hz hu h.0 k.left;
  right = before_same room.high z u (spot_point room.high spots.high) hz hu h.0 k.right;
  below = after_same (flip room.low) (flip z) (flip u) (spot_point room.low spots.low) hz hu h.1 k.below;
  above = before_same (flip room.high) (flip z) (flip u) (spot_point room.high spots.high) hz hu h.1 k.above;
}

pub clear_same : (sums : List (List Vector)) (room : Frame) (z u : Vector) → HasSpots room → IsPoint z → IsPoint u → Same z u → IsClearOf sums room z → IsClearOf sums room u
clear_same sums room z u spots hz hu h k = record {
  in_room = λ b. k.in_room (beyond_same room u z spots hu hz (Same-swapped z u h) b);
  in_none = λ i d within b. k.in_none i d within (inside_same (get_or sums i d) u z hu hz (Same-swapped z u h) b);
}

pub uncovered_same : (sums : List (List Vector)) (room : Frame) (z u : Vector) → HasSpots room → IsPoint z → IsPoint u → Same z u → IsUncovered sums room z → IsUncovered sums room u
uncovered_same sums room z u spots hz hu h k = record {
  in_room = in_room_same room z u spots hz hu h k.in_room;
  in_none = λ i d within b. k.in_none i d within (strictly_same (get_or sums i d) u z hu hz (Same-swapped z u h) b);
}
