-- The pieces of an edge, from the part of it in the closed room, the open parts that sums cover, and whether its ends are covered.
use Rattle.std.specs.Prelude.{◌↔◌, Bool, Decides, ◌&&◌, not, List, map, All, Any}
use Rattle.std.specs.List.{filter}
use Rattle.plan_spec.specs.Vector.{Vector}
use Rattle.plan_spec.specs.Segment.{Segment, segment}
use Rattle.plan_spec.specs.Frame.{Frame}
use Rattle.plan_spec.specs.Boundary.{StrictlyInside, InRoom}
use Rattle.plan_spec.specs.Weights.{Weights, IsWeights, IsInner, weighted}
use Rattle.plan_convex.specs.declared.part.Part.{Part}
use Rattle.plan_convex.specs.Parameter.{IsShare, at_most, fraction_at, zero, one, along}
use Rattle.plan_convex.specs.Part.{InOpen, InClosed}
use Rattle.plan_bound.specs.Gaps.{IsOpenPart, ByStart, gaps}

-- in the open interior of a sum
abbrev pub Covered : List (List Vector) → Vector → Type 0
Covered sums z = Any (λ vs. StrictlyInside vs z) sums

-- the part of the edge from a to b in the closed room
pub record IsInRoom (room : Frame) (a b : Vector) (within : Part) : Type 0 where
  pub from : IsShare within.from
  pub to : IsShare within.to
  pub exact : (z : Weights) → IsWeights z → InRoom room (weighted a b z) ↔ InClosed within (fraction_at z)

-- the open parts of the edge that sums cover; they say nothing of its two ends
pub record AreCovered (sums : List (List Vector)) (a b : Vector) (parts : List Part) : Type 0 where
  pub shares : All (λ p. IsShare p.from × IsShare p.to) parts
  pub proper : All IsOpenPart parts
  pub exact : (z : Weights) → IsInner z → Covered sums (weighted a b z) ↔ Any (λ p. InOpen p (fraction_at z)) parts

-- what is known of the edge from a to b
pub record Spans (sums : List (List Vector)) (room : Frame) (a b : Vector)
    (within : Part) (parts : List Part) (first last : Bool) : Type 0 where
  pub in_room : IsInRoom room a b within
  pub covered : AreCovered sums a b parts
  pub sorted : ByStart parts
  pub first_covered : Decides first (Covered sums a)
  pub last_covered : Decides last (Covered sums b)

-- a gap that is one covered end of the edge goes
abbrev pub stays : Bool → Bool → Part → Bool
stays first last g = not (first && at_most g.to zero) && not (last && at_most one g.from)

abbrev pub piece_of : Vector → Vector → Part → Segment
piece_of a b g = segment (along a b g.from) (along a b g.to)

abbrev pub pieces_on : Vector → Vector → Part → List Part → Bool → Bool → List Segment
pieces_on a b within parts first last = map (piece_of a b) (filter (stays first last) (gaps within.from within.to parts))
