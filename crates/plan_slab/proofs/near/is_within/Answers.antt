-- By x and by y.
use Rattle.plan_slab.proofs.near.is_within.Goals as goal

pub returns-then-is_within_width : goal.returns-then-is_within_width
returns-then-is_within_width c =
    let x = c.is_within_width.ensures.0 c.if-is_within_width.true in
    let y = c.is_within_height.ensures in
    (λ yes. let h = y.0 yes in record { left = x.0; right = x.1; below = h.0; above = h.1 }, λ w. y.1 (w.below, w.above))

pub returns-else-is_within_width : goal.returns-else-is_within_width
returns-else-is_within_width c = (λ yes. cc, λ w. c.is_within_width.ensures.1 (w.left, w.right))
