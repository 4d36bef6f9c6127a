-- Boxes of spots, and boxes that are apart.
use Rattle.std.specs.Prelude.{◌≡◌, ◌<ℤ◌, ◌≤ℤ◌, ◌⊎◌, List, All, Any}
use Rattle.plan_grid.specs.declared.frame.Frame.{Frame}
use Rattle.plan_grid.specs.declared.spot.Spot.{Spot}

-- the spot is in the box, or on a side of it
pub record Encloses (box : Frame) (s : Spot) : Type 0 where
  pub left : box.low.x ≤ℤ s.x
  pub right : s.x ≤ℤ box.high.x
  pub below : box.low.y ≤ℤ s.y
  pub above : s.y ≤ℤ box.high.y

-- the least box that encloses all the spots: some spot is on each side
pub record IsBox (spots : List Spot) (box : Frame) : Type 0 where
  pub encloses : All (Encloses box) spots
  pub leftmost : Any (λ s. s.x ≡ box.low.x) spots
  pub rightmost : Any (λ s. s.x ≡ box.high.x) spots
  pub lowest : Any (λ s. s.y ≡ box.low.y) spots
  pub highest : Any (λ s. s.y ≡ box.high.y) spots

-- p is strictly left of q, or strictly below it
abbrev pub IsLeftOrBelow : Spot → Spot → Type 0
IsLeftOrBelow p q = (p.x <ℤ q.x) ⊎ (p.y <ℤ q.y)

-- one of the boxes is strictly beyond a side of the other
abbrev pub AreApart : Frame → Frame → Type 0
AreApart f g = IsLeftOrBelow f.high g.low ⊎ IsLeftOrBelow g.high f.low
