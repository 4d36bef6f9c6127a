-- Lines, marks, spans and lots as the definitions see them.
use Rattle.std.specs.Prelude.{pos, List, map}
use Rattle.plan_spec.specs.Vector.{Vector}
use Rattle.plan_spec.specs.Segment.{Segment}
use Rattle.plan_spec.specs.Regions as spec
use Rattle.plan_grid.specs.Fraction.{Fraction, point_at}
use Rattle.plan_grid.specs.Spot.{edge_seen}
use Rattle.plan_slab.specs.declared.lot.Lot.{Lot}
use Rattle.plan_slab.specs.declared.lot.Lot.TheVariants.{Cell, Wall}
use Rattle.plan_slab.specs.declared.strand.Strand.{Strand}

-- a line, by its point on the x-axis
abbrev pub line_seen : Fraction → Vector
line_seen l = record { x = l.num; y = pos 0; w = l.den }

-- the point of the line l at the height of a mark
abbrev pub marks_seen : Fraction → List Fraction → List Vector
marks_seen l ms = map (point_at l) ms

abbrev pub strand_seen : Strand → Segment
strand_seen s = edge_seen s.a s.b

abbrev pub lot_seen : Lot → spec.Lot
lot_seen (Cell slab at) = spec.cell slab at
lot_seen (Wall line at) = spec.wall line at
