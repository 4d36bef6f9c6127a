-- An orientation is not Less exactly where the cross product is not negative.
use Rattle.std.proofs.Common.{◌≡◌, ℤ, pos, int_le, sym, ◌∙◌}
use Rattle.std.specs.Ordering.{is_ge}
use Rattle.std.specs.declared.cmp.Ordering.{Ordering}
use Rattle.std.specs.declared.cmp.Ordering.TheVariants.{Less, Equal, Greater}
use Rattle.plan_exact.proofs.Signs.{le_of_eq, le_of_lt}
use Rattle.plan_exact.proofs.Tests.{le_true, le_false}
use Rattle.plan_grid.specs.Order.{IsSign}
use Rattle.plan_tri.proofs.search.is_on_or_left.Goals as goal

not_negative : (o : Ordering) (a : ℤ) → IsSign o a → is_ge o ≡ int_le (pos 0) a
not_negative Less a h = sym (le_false h)
not_negative Equal a h = sym (le_true (le_of_eq (sym h)))
not_negative Greater a h = sym (le_true (le_of_lt h))

pub returns : goal.returns
returns c = c.is_ge.ensures ∙ not_negative _ _ c.orientation.ensures
