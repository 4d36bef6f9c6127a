-- Definitions of this crate, tried on small cases: each line is computed, or is a comparison of numbers.
use Rattle.std.proofs.Common.{◌≡◌, inl, inr, pos, List, [], ◌∷◌, refl, arith}
use Rattle.std.proofs.lemmas.Int.{ints}
use Rattle.plan_spec.specs.Vector.{Vector, spot}
use Rattle.plan_spec.specs.Segment.{Segment, segment}
use Rattle.plan_spec.specs.Regions.{cell, wall}
use Rattle.plan_grid.specs.declared.frame.Frame.{Frame}
use Rattle.plan_slab.specs.LotOrder.{Earlier}
use Rattle.plan_spec.specs.Neighbours.{meets}
use Rattle.plan_slab.specs.Meets.{MeetsMark, IsSloped}
use Rattle.plan_slab.specs.Near.{HasX, IsWithinRoom}

-- ---- a rising span and three marks of the line x = 2
abbrev rising : Segment
rising = segment (spot (pos 0) (pos 0)) (spot (pos 4) (pos 4))

abbrev marks : List Vector
marks = spot (pos 2) (pos 0) ∷ spot (pos 2) (pos 2) ∷ spot (pos 2) (pos 5) ∷ []

-- one is below it, so it meets the second
second : meets rising marks ≡ 1
second = refl

it_does : MeetsMark rising marks
it_does = record { within = omega arith; on = refl }

-- where all are below it, there is none to meet
beyond_all : meets (segment (spot (pos 0) (pos 9)) (spot (pos 4) (pos 9))) marks ≡ 3
beyond_all = refl

sloped : IsSloped rising
sloped e = omega (arith, ints, e)

-- ---- numbers: the cells of slab 0, the walls of line 1, the cells of slab 1; each from below
cell_first : Earlier (cell 0 5) (wall 1 0)
cell_first = record { earlier = inl (omega arith) }

from_below : Earlier (wall 1 0) (wall 1 1)
from_below = record { earlier = inr (refl, omega arith) }

then_the_next : Earlier (wall 1 9) (cell 1 0)
then_the_next = record { earlier = inl (omega arith) }

-- ---- a box has the x of its right side, and the room's side is not within the room
abbrev square : Frame
square = record { low = record { x = pos 0; y = pos 0 }; high = record { x = pos 4; y = pos 4 } }

at_side : HasX square (spot (pos 4) (pos 1))
at_side = (omega (arith, ints), omega (arith, ints))

not_within : ¬ (IsWithinRoom square (spot (pos 4) (pos 1)))
not_within w = omega (arith, ints, w.right)

-- a point between spots
half : IsWithinRoom square (record { x = pos 7; y = pos 1; w = pos 2 })
half = record { left = omega (arith, ints); right = omega (arith, ints); below = omega (arith, ints); above = omega (arith, ints) }
