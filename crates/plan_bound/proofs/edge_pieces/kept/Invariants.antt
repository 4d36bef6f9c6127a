-- A piece for each gap so far that stays.
use Rattle.std.proofs.Common.{take}
use Rattle.std.specs.List.{filter, AllZip}
use Rattle.plan_grid.specs.Spot.{spot_seen}
use Rattle.plan_bound.specs.Edge.{stays}
use Rattle.plan_bound.specs.Pieces.{IsPieceOf}
use Rattle.plan_bound.proofs.edge_pieces.kept.Given as goal

abbrev pub invariant-loop-gap : goal.invariant-loop-gap
invariant-loop-gap l = AllZip (IsPieceOf l.edge (spot_seen l.a) (spot_seen l.b)) (filter (stays l.first l.last) (take l.gap-index l.gaps)) l.found.items
