use Rattle.std.proofs.Common.{ap, ◌∙◌}
use Rattle.plan_grid.specs.Spot.{spots_seen}
use Rattle.plan_poly.proofs.FromLeast.LeastSpot.{turned}
use Rattle.plan_poly.proofs.least.turn_to_least.Goals as goal

pub returns-clause-least : goal.returns-clause-least
returns-clause-least c = ap spots_seen c.rotate_left.ensures.after ∙ turned c.args.spots.now c.least-least.result c.least-least.ensures.within c.least-least.ensures.best
