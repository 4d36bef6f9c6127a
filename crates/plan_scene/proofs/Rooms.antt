-- The room is the frame moved by the robot's box; its corners are no farther than 2046.
use Rattle.std.proofs.Common.{◌≡◌, ℕ, ℤ, pos, ◌-ℤ◌, ◌≤◌, ◌≤ℤ◌, unsigned_abs, List, All, Any, refl, ap, subst, arith}
use Rattle.std.proofs.lemmas.Int.{ints}
use Rattle.std.proofs.lemmas.List.Elements.{All-map}
use Rattle.plan_spec.specs.Room as R
use Rattle.plan_spec.specs.Room.{IsRoom}
use Rattle.plan_plane.proofs.Lists.{any_to_map, any_map}
use Rattle.plan_grid.specs.declared.bounds.TheConstants.{MOST_CORNER, MOST_COORDINATE}
use Rattle.plan_grid.specs.declared.frame.Frame.{Frame}
use Rattle.plan_grid.specs.declared.spot.Spot.{Spot}
use Rattle.plan_grid.specs.Frame.{frame_seen}
use Rattle.plan_grid.specs.Spot.{spot_seen, spots_seen, way, IsWithin}
use Rattle.plan_convex.specs.Boxes.{IsBox}
use Rattle.plan_scene.specs.Built.{IsKept}
use Rattle.plan_scene.specs.Scene.{Scene}
use Rattle.plan_scene.specs.declared.sums.Sums.{Sums}

-- the box as the definitions see it
box_seen : (spots : List Spot) (box : Frame) → IsBox spots box → R.IsBox (spots_seen spots) (frame_seen box)
box_seen spots box b = record {
  spots = All-map (λ v. v.w ≡ pos 1) spot_seen spots (λ k d within. refl);
  left = All-map (λ v. box.low.x ≤ℤ v.x) spot_seen spots (λ k d within. (b.encloses k d within).left);
  right = All-map (λ v. v.x ≤ℤ box.high.x) spot_seen spots (λ k d within. (b.encloses k d within).right);
  below = All-map (λ v. box.low.y ≤ℤ v.y) spot_seen spots (λ k d within. (b.encloses k d within).below);
  above = All-map (λ v. v.y ≤ℤ box.high.y) spot_seen spots (λ k d within. (b.encloses k d within).above);
  leftmost = any_to_map (λ v. v.x ≡ box.low.x) spot_seen spots b.leftmost;
  rightmost = any_to_map (λ v. v.x ≡ box.high.x) spot_seen spots b.rightmost;
  lowest = any_to_map (λ v. v.y ≡ box.low.y) spot_seen spots b.lowest;
  highest = any_to_map (λ v. v.y ≡ box.high.y) spot_seen spots b.highest;
}

pub room_is : (robot : List Spot) (frame box : Frame) (m n : Spot) → IsBox robot box → m ≡ way box.low frame.low → n ≡ way box.high frame.high
    → IsRoom (spots_seen robot) (frame_seen frame) (frame_seen (record { low = m; high = n }))
room_is robot frame box m n b em en = record {
  low = refl;
  high = refl;
  box = frame_seen box;
  is_box = box_seen robot box b;
  is_room = λ i. record { low = spot_seen (em i); high = spot_seen (en i) };
}

-- ---- the corners of the room
-- some spot of the list has m as its coordinate, and all are within k
at : (k : ℕ) (f : Spot → ℤ) (m : ℤ) (spots : List Spot) → All (λ s. unsigned_abs (f s) ≤ k) spots → Any (λ s. f s ≡ m) spots → unsigned_abs m ≤ k
at k f m spots all (i, s, within, here, e) = subst (λ z. unsigned_abs z ≤ k) e (subst (λ r. unsigned_abs (f r) ≤ k) here (all i s within))

apart : (r a m : ℤ) → r ≡ a -ℤ m → unsigned_abs a ≤ 1023 → unsigned_abs m ≤ 1023 → unsigned_abs r ≤ 2046
apart r a m e h k = omega (arith, ints)

module _ {s : Scene} (room : Frame) {sums : Sums} (k : IsKept s room sums) where
  bounded : All (IsWithin MOST_CORNER) s.robot
  bounded = k.is_scene.robot.simple_list.bounded

  pub low_within : IsWithin MOST_COORDINATE room.low
  low_within = let r = k.is_room in let f = k.is_scene.frame.low in record {
    x = apart room.low.x s.frame.low.x r.box.low.x (ap (λ f. f.low.x) r.is_room) f.x (at MOST_CORNER (λ v. v.x) r.box.low.x s.robot (λ i d within. (bounded i d within).x) (any_map (λ v. v.x ≡ r.box.low.x) spot_seen s.robot r.is_box.leftmost));
    y = apart room.low.y s.frame.low.y r.box.low.y (ap (λ f. f.low.y) r.is_room) f.y (at MOST_CORNER (λ v. v.y) r.box.low.y s.robot (λ i d within. (bounded i d within).y) (any_map (λ v. v.y ≡ r.box.low.y) spot_seen s.robot r.is_box.lowest));
  }

  pub high_within : IsWithin MOST_COORDINATE room.high
  high_within = let r = k.is_room in let f = k.is_scene.frame.high in record {
    x = apart room.high.x s.frame.high.x r.box.high.x (ap (λ f. f.high.x) r.is_room) f.x (at MOST_CORNER (λ v. v.x) r.box.high.x s.robot (λ i d within. (bounded i d within).x) (any_map (λ v. v.x ≡ r.box.high.x) spot_seen s.robot r.is_box.rightmost));
    y = apart room.high.y s.frame.high.y r.box.high.y (ap (λ f. f.high.y) r.is_room) f.y (at MOST_CORNER (λ v. v.y) r.box.high.y s.robot (λ i d within. (bounded i d within).y) (any_map (λ v. v.y ≡ r.box.high.y) spot_seen s.robot r.is_box.highest));
  }
