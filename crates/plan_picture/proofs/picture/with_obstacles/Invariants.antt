-- The box so far, with the obstacles that are left, is the whole box.
use Rattle.std.proofs.Common.{◌≡◌, drop, map}
use Rattle.plan_svg.specs.Page.{IsPageBox}
use Rattle.plan_top.specs.First.{obstacle_of}
use Rattle.plan_picture.specs.Picture.{with_obstacles}
use Rattle.plan_picture.proofs.picture.with_obstacles.Given as goal

abbrev pub invariant-loop-obstacle : goal.invariant-loop-obstacle
invariant-loop-obstacle l =
    (with_obstacles l.frame (map obstacle_of (drop l.obstacle-index l.obstacles)) ≡ with_obstacles l.initial.frame (map obstacle_of l.obstacles)) × (IsPageBox l.initial.frame → IsPageBox l.frame)
