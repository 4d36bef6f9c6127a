-- The obstacles that are there, and those that are left, are all of them.
use Rattle.std.proofs.Common.{◌≡◌, ◌+◌, ◌-◌, ◌++◌, length, map, All}
use Rattle.plan_wire.specs.Bounds.{ShapeFits}
use Rattle.plan_wire.specs.Seen.{shape_seen}
use Rattle.plan_demo.specs.Demo.{obstacles, after_obstacles}
use Rattle.plan_demo.proofs.draws.Draws.obstacles.Given as goal

abbrev pub invariant-loop-at : goal.invariant-loop-at
invariant-loop-at l = record {
  long : length l.shapes.items ≡ l.at;
  fit : All ShapeFits l.shapes.items;
  left : map shape_seen l.shapes.items ++ obstacles (l.count - l.at) (l.at + 1) l.self ≡ obstacles l.count 1 l.fn.self;
  state : after_obstacles (l.count - l.at) l.self ≡ after_obstacles l.count l.fn.self;
}
