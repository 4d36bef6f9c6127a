-- The room of a robot in a frame: the frame, moved by the robot's box.
use Rattle.std.specs.Prelude.{◌≡◌, pos, ◌-ℤ◌, ◌≤ℤ◌, List, All, Any}
use Rattle.plan_spec.specs.Vector.{Vector, spot}
use Rattle.plan_spec.specs.Frame.{Frame}

-- a point with whole-number coordinates
abbrev pub IsSpot : Vector → Type 0
IsSpot p = p.w ≡ pos 1

-- the box of a list of spots: its corners have the least and the greatest coordinates, and some spot has each
pub record IsBox (vs : List Vector) (box : Frame) : Type 0 where
  pub spots : All IsSpot vs
  pub left : All (λ v. box.low.x ≤ℤ v.x) vs
  pub right : All (λ v. v.x ≤ℤ box.high.x) vs
  pub below : All (λ v. box.low.y ≤ℤ v.y) vs
  pub above : All (λ v. v.y ≤ℤ box.high.y) vs
  pub leftmost : Any (λ v. v.x ≡ box.low.x) vs
  pub rightmost : Any (λ v. v.x ≡ box.high.x) vs
  pub lowest : Any (λ v. v.y ≡ box.low.y) vs
  pub highest : Any (λ v. v.y ≡ box.high.y) vs

-- the frame, moved by the box: low corner less low corner, high less high
abbrev pub room : Frame → Frame → Frame
room box frame = record { low = spot (frame.low.x -ℤ box.low.x) (frame.low.y -ℤ box.low.y); high = spot (frame.high.x -ℤ box.high.x) (frame.high.y -ℤ box.high.y) }

-- a frame whose corners are spots, moved by the robot's box
pub record IsRoom (robot : List Vector) (frame moved : Frame) : Type 0 where
  pub low : IsSpot frame.low
  pub high : IsSpot frame.high
  pub box : Frame
  pub is_box : IsBox robot box
  pub is_room : moved ≡ room box frame
