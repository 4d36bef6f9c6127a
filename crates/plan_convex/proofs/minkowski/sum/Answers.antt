-- The merge of the obstacle and the reflected robot is what is told of the two as they were given.
use Rattle.std.proofs.Common.{sym, subst}
use Rattle.plan_grid.specs.Triangle.{IsCounterclockwise, IsRotation}
use Rattle.plan_convex.specs.Walk.{corners}
use Rattle.plan_convex.proofs.Reflection.{opposite_triangle, sum_of_given}
use Rattle.plan_convex.proofs.minkowski.sum.Goals as goal

pub from_least-requires-2 : goal.from_least-requires-2
from_least-requires-2 c = subst IsCounterclockwise (sym c.reflected.ensures) (opposite_triangle c.args.robot c.requires.robot)

pub returns : goal.returns
returns c =
    let b = c.from_least-2.result in
    let turned = subst (λ l. IsRotation l (corners b)) c.reflected.ensures c.from_least-2.ensures.rotation in
    record { meaning = sum_of_given c.args.obstacle c.args.robot c.from_least.result b c.merged.result c.requires.obstacle c.requires.robot c.from_least.ensures.rotation turned c.merged.ensures }
