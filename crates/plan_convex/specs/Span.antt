-- The open part of an edge that the open interior of a polygon covers.
use Rattle.std.specs.Prelude.{◌≡◌, ℕ, pos, ◌*◌, ◌<◌, ◌≤◌, ◌^◌, ◌↔◌, List, Option, Some, None}
use Rattle.std.specs.Int.{◌∣◌}
use Rattle.plan_spec.specs.Vector.{Vector, IsPoint}
use Rattle.plan_spec.specs.Segment.{On, segment}
use Rattle.plan_spec.specs.Boundary.{StrictlyInside}
use Rattle.plan_spec.specs.Weights.{Weights, IsInner, weighted}
use Rattle.plan_grid.specs.Fraction.{Fraction}
use Rattle.plan_convex.specs.declared.clip.Span.{Span}
use Rattle.plan_convex.specs.declared.part.Part.{Part}
use Rattle.plan_convex.specs.Parameter.{Less, fraction_at}
use Rattle.plan_convex.specs.Part.{InOpen}

-- where the span begins, and where it ends
abbrev pub start : Span → Fraction
start c = record { num = pos c.n0; den = pos c.d0 }

abbrev pub finish : Span → Fraction
finish c = record { num = pos c.n1; den = pos c.d1 }

-- of the points of the edge from a to b other than its two ends, the span has exactly those that are strictly inside the polygon
abbrev pub IsSpanOf : Vector → Vector → List Vector → Span → Type 0
IsSpanOf a b vs c =
    (z : Weights) → IsInner z → StrictlyInside vs (weighted a b z) ↔ (Less (start c) (fraction_at z) × Less (fraction_at z) (finish c))

-- no point of the edge is strictly inside the polygon
abbrev pub IsOutside : Vector → Vector → List Vector → Type 0
IsOutside a b vs = (z : Vector) → IsPoint z → On (segment a b) z → ¬ (StrictlyInside vs z)

-- no number above 1 divides both
abbrev pub AreLowest : ℕ → ℕ → Type 0
AreLowest n d = (k : ℕ) → k ∣ n → k ∣ d → k ≡ 1

-- two fractions in lowest terms between 0 and 1, the first less than the second, with denominators below 2 ^ 25
pub record IsProper (c : Span) : Type 0 where
  pub start_lowest : AreLowest c.n0 c.d0
  pub start_positive : 0 < c.d0
  pub start_bounded : c.d0 < 2 ^ 25
  pub end_lowest : AreLowest c.n1 c.d1
  pub end_positive : 0 < c.d1
  pub end_bounded : c.d1 < 2 ^ 25
  pub end_upto : c.n1 ≤ c.d1
  pub less : c.n0 * c.d1 < c.n1 * c.d0

-- what is found of the part of the edge that the polygon covers, its ends left out
abbrev pub IsCovered : Vector → Vector → List Vector → Option Part → Type 0
IsCovered a b vs None = (z : Weights) → IsInner z → ¬ (StrictlyInside vs (weighted a b z))
IsCovered a b vs (Some p) = (z : Weights) → IsInner z → StrictlyInside vs (weighted a b z) ↔ InOpen p (fraction_at z)
