-- The places so far are those of the obstacles so far.
use Rattle.std.proofs.Common.{map, take}
use Rattle.std.specs.List.{AllZip}
use Rattle.plan_top.specs.First.{obstacle_of}
use Rattle.plan_picture.specs.Floor.{IsNamePlace}
use Rattle.plan_picture.proofs.names.name_places.Given as goal

abbrev pub invariant-loop-obstacle : goal.invariant-loop-obstacle
invariant-loop-obstacle l = AllZip IsNamePlace (map obstacle_of (take l.obstacle-index l.obstacles)) l.places.items
