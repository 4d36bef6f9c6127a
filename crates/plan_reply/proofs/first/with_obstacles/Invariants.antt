-- The obstacles so far were put in.
use Rattle.std.proofs.Common.{take, map}
use Rattle.plan_reply.specs.First.{IsAddedAll, obstacle_of}
use Rattle.plan_reply.proofs.first.with_obstacles.Given as goal

abbrev pub invariant-loop-at : goal.invariant-loop-at
invariant-loop-at l = IsAddedAll (take l.at (map obstacle_of l.adds)) l.fn.alone l.scene
