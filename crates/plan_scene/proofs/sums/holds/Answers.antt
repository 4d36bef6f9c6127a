-- A point that is past the box is not in the polygon.
use Rattle.std.proofs.Common.{refl}
use Rattle.plan_scene.proofs.Past.{untrue, past}
use Rattle.plan_scene.proofs.sums.holds.Goals as goal

pub returns-else-not-is_past : goal.returns-else-not-is_past
returns-else-not-is_past c = (
  λ t. absurd (untrue (rw c.if-not-is_past.false at t)),
  λ inside. absurd (past c.args.sum.now c.args.bounds c.args.z.now c.spots.ensures.convex c.spots.ensures.at_least_three c.requires.encloses (c.if-not-is_past.ensures.0 refl) inside),
)
