-- An orientation says Greater exactly where the cross product is positive.
use Rattle.std.proofs.Common.{◌↔◌, ℤ, pos, ◌<ℤ◌, refl, IsTrue, arith}
use Rattle.std.specs.Ordering.{is_gt}
use Rattle.std.specs.declared.cmp.Ordering.{Ordering}
use Rattle.std.specs.declared.cmp.Ordering.TheVariants.{Less, Equal, Greater}
use Rattle.plan_exact.proofs.Laws.{linear}
use Rattle.plan_grid.specs.Order.{IsSign}
use Rattle.plan_poly.proofs.edge.is_left.Goals as goal

greater_is_positive : (o : Ordering) (a : ℤ) → IsSign o a → IsTrue (is_gt o) ↔ (pos 0 <ℤ a)
greater_is_positive Less a h = (λ e. absurd (cc), λ k. absurd (omega (arith, linear)))
greater_is_positive Equal a h = (λ e. absurd (cc), λ k. absurd (omega (arith, linear)))
greater_is_positive Greater a h = (λ e. h, λ k. refl)

pub returns : goal.returns
returns c = rw c.is_gt.ensures (greater_is_positive _ _ c.orientation.ensures)
