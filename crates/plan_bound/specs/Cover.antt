-- Boxes of sums, and the open part of an edge that one sum covers.
use Rattle.std.specs.Prelude.{◌≡◌, ◌↔◌, ℕ, ◌<◌, List, length, All, slice_index_or}
use Rattle.plan_spec.specs.Vector.{Vector}
use Rattle.plan_spec.specs.Boundary.{StrictlyInside}
use Rattle.plan_spec.specs.Weights.{Weights, IsInner, weighted}
use Rattle.plan_grid.specs.declared.frame.Frame.{Frame}
use Rattle.plan_grid.specs.declared.spot.Spot.{Spot}
use Rattle.plan_convex.specs.declared.part.Part.{Part}
use Rattle.plan_convex.specs.Boxes.{Encloses}
use Rattle.plan_convex.specs.Parameter.{IsShare, fraction_at}
use Rattle.plan_convex.specs.Part.{InOpen}
use Rattle.plan_bound.specs.Gaps.{IsOpenPart}

-- one for each sum, which encloses its vertices
pub record AreBoxes (sums : List (List Spot)) (boxes : List Frame) : Type 0 where
  pub same_length : length boxes ≡ length sums
  pub enclose : (k : ℕ) (v : List Spot) (f : Frame) → k < length sums → All (Encloses (slice_index_or boxes k f)) (slice_index_or sums k v)

-- the part of the edge from a to b that the sum covers, the edge's own ends left out
pub record IsCoverOf (a b : Vector) (vs : List Vector) (p : Part) : Type 0 where
  pub from : IsShare p.from
  pub to : IsShare p.to
  pub proper : IsOpenPart p
  pub exact : (z : Weights) → IsInner z → StrictlyInside vs (weighted a b z) ↔ InOpen p (fraction_at z)
