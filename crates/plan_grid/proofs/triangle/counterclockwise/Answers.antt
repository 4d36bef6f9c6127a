-- The turn of the three corners tells which direction is counterclockwise.
use Rattle.std.proofs.Common.{sym}
use Rattle.plan_grid.proofs.Signs.{less_is_negative}
use Rattle.plan_grid.proofs.Triangles.{left_turned}
use Rattle.plan_grid.proofs.triangle.counterclockwise.Goals as goal

pub returns-then-is_lt-clause-counterclockwise : goal.returns-then-is_lt-clause-counterclockwise
returns-then-is_lt-clause-counterclockwise c =
    left_turned c.args.corners c.requires ((less_is_negative _ _ c.orientation.ensures).0 (sym c.if-is_lt.ensures))
