-- Where the first corner is not the least, the lesser of the other two is.
use Rattle.std.proofs.Common.{refl}
use Rattle.plan_grid.proofs.Triangles.{least_second, least_third}
use Rattle.plan_grid.proofs.triangle.from_least.Goals as goal

pub returns-then-is_before-clause-least : goal.returns-then-is_before-clause-least
returns-then-is_before-clause-least c =
    least_second c.args.corners c.requires (λ h. let e = c.if-is_first.ensures.1 h in cc) (c.if-is_before.ensures.0 refl)

pub returns-else-is_before-clause-least : goal.returns-else-is_before-clause-least
returns-else-is_before-clause-least c =
    least_third c.args.corners c.requires (λ h. let e = c.if-is_first.ensures.1 h in cc) (λ h. let e = c.if-is_before.ensures.1 h in cc)
