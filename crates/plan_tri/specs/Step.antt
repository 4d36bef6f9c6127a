-- What is left of a polygon after its first cut.
use Rattle.std.specs.Prelude.{ℕ, ◌<◌, List, ◌∷◌, ◌++◌, length}
use Rattle.plan_spec.specs.Vector.{Vector}
use Rattle.plan_spec.specs.Triangulation as spec
use Rattle.plan_grid.specs.Spot.{spots_seen}
use Rattle.plan_tri.specs.declared.step.Step.{Step}
use Rattle.plan_tri.specs.declared.step.Step.TheVariants.{Ear, Parts}
use Rattle.plan_tri.specs.Triangle.{triangle_seen}

-- its triangles, where `rest` gives those of what is left
abbrev pub after : (List Vector → List spec.Triangle) → Step → List spec.Triangle
after rest (Ear t more) = triangle_seen t ∷ rest (spots_seen more.items)
after rest (Parts first second) = rest (spots_seen first.items) ++ rest (spots_seen second.items)

-- fewer than n vertices each
abbrev pub IsSmaller : ℕ → Step → Type 0
IsSmaller n (Ear t more) = length more.items < n
IsSmaller n (Parts first second) = (length first.items < n) × (length second.items < n)
