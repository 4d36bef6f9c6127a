-- Where spans meet the lines of their slab: by the numbers of marks.
use Rattle.std.specs.Prelude.{◌≡◌, ◌<◌, pos, List, length, get_or}
use Rattle.plan_spec.specs.Vector.{Vector, SameX, turn}
use Rattle.plan_spec.specs.Segment.{Segment}
use Rattle.plan_spec.specs.Slabs.{nowhere}
use Rattle.plan_spec.specs.Neighbours.{meets}

-- the mark of that number is there, and on the span's line
pub record MeetsMark (s : Segment) (ms : List Vector) : Type 0 where
  pub within : meets s ms < length ms
  pub on : turn s.a s.b (get_or ms (meets s ms) nowhere) ≡ pos 0

-- the edge is not upright
abbrev pub IsSloped : Segment → Type 0
IsSloped e = ¬ (SameX e.a e.b)
