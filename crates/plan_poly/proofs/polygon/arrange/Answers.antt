-- The sign of the turn at the least spot decides which of the two ways is kept.
use Rattle.std.proofs.Common.{◌≡◌, ℤ, pos, ◌<ℤ◌, false, ap, sym, subst, ◌∙◌, length, drop, take, ◌-◌, ◌++◌, arith}
use Rattle.std.specs.Ordering.{is_lt}
use Rattle.std.specs.declared.cmp.Ordering.{Ordering}
use Rattle.plan_exact.proofs.Laws.{linear}
use Rattle.plan_grid.specs.Order.{IsSign}
use Rattle.plan_grid.proofs.Signs.{less_is_negative, not_less}
use Rattle.plan_poly.specs.Polygon.{IsRead}
use Rattle.plan_poly.proofs.FromLeast.Arranged.{flipped, read_as_is, read_other_way, turn_at_first}
use Rattle.plan_poly.proofs.polygon.arrange.Goals as goal

not_negative : (o : Ordering) (a : ℤ) → IsSign o a → is_lt o ≡ false → ¬ (a <ℤ pos 0)
not_negative o a h e less = let most = not_less o a (pos 0) h e in omega (arith, linear)

pub returns-then-is_lt : goal.returns-then-is_lt
returns-then-is_lt c =
    let s = c.turn_to_least.new.spots in
    let right : turn_at_first s = (less_is_negative _ _ c.orientation.ensures).0 (sym (c.if-is_lt.ensures)) in
    subst (IsRead c.args.spots.now) (sym (c.rotate_right.ensures.after ∙ ap (λ r. drop (length r - 1) r ++ take (length r - 1) r) c.reverse.ensures.after ∙ flipped s)) (read_other_way c.args.spots.now s c.requires c.turn_to_least.ensures.least c.turn_to_least.ensures.order right)

pub returns-else-is_lt : goal.returns-else-is_lt
returns-else-is_lt c =
    let s = c.turn_to_least.new.spots in
    read_as_is c.args.spots.now s c.requires c.turn_to_least.ensures.least c.turn_to_least.ensures.order (not_negative _ _ c.orientation.ensures (sym c.if-is_lt.ensures))
