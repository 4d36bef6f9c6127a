-- Points of a segment by weights at its two ends, whatever the segment.
use Rattle.std.specs.Prelude.{ℤ, pos, ◌+ℤ◌, ◌<ℤ◌, ◌≤ℤ◌}
use Rattle.plan_exact.specs.Vectors.{sum, scaled}
use Rattle.plan_spec.specs.Vector.{Vector}

-- how much of the first end, and how much of the second
pub record Weights : Type 0 where
  pub s : ℤ
  pub t : ℤ

-- neither is negative, and one is positive: each point of the segment has such weights
pub record IsWeights (z : Weights) : Type 0 where
  pub first : pos 0 ≤ℤ z.s
  pub second : pos 0 ≤ℤ z.t
  pub some : pos 0 <ℤ (z.s +ℤ z.t)

-- both are positive: the weights of the points other than the two ends
abbrev pub IsInner : Weights → Type 0
IsInner z = (pos 0 <ℤ z.s) × (pos 0 <ℤ z.t)

-- the point that has these weights at a and at b
abbrev pub weighted : Vector → Vector → Weights → Vector
weighted a b z = sum (scaled z.s a) (scaled z.t b)
