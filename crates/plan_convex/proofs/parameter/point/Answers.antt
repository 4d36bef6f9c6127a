-- What is required is within the bounds of a point, and of `i64`.
use Rattle.std.proofs.Common.{IfSome, subst, arith}
use Rattle.plan_spec.specs.Vector.{Same}
use Rattle.plan_grid.specs.Bounds.{IsInRange}
use Rattle.plan_convex.proofs.Means.{fits_narrow, made, weight_bounded}
use Rattle.plan_convex.proofs.parameter.point.Goals as goal
use Rattle.plan_convex.proofs.parameter.point.Goals.{After-unwrap}

pub overflow_cast-get : goal.overflow_cast-get
overflow_cast-get c = fits_narrow _ _ _ c.get.ensures c.requires.positive c.requires.bounded c.requires.x_bounded

pub overflow_cast-get-2 : goal.overflow_cast-get-2
overflow_cast-get-2 c = fits_narrow _ _ _ c.get-2.ensures c.requires.positive c.requires.bounded c.requires.y_bounded

pub overflow_cast-get-3 : goal.overflow_cast-get-3
overflow_cast-get-3 c = fits_narrow _ _ _ c.get-3.ensures c.requires.positive c.requires.bounded (omega arith)

pub unwrap-requires : goal.unwrap-requires
unwrap-requires c = (made c.new.result _ _ _ _ _ _ c.get.ensures c.get-2.ensures c.get-3.ensures c.requires.positive c.requires.bounded c.requires.x_bounded c.requires.y_bounded c.new.ensures.none c.new.ensures.same).0

in_range : (c : After-unwrap) → IsInRange c.unwrap.result
in_range c = subst (λ o. IfSome o IsInRange) c.unwrap.ensures c.new.ensures.in_range

same : (c : After-unwrap) → Same c.unwrap.result (record { x = c.args.x; y = c.args.y; w = c.args.w })
same c =
    let asked = made c.new.result _ _ _ _ _ _ c.get.ensures c.get-2.ensures c.get-3.ensures c.requires.positive c.requires.bounded c.requires.x_bounded c.requires.y_bounded c.new.ensures.none c.new.ensures.same in
    subst (λ o. IfSome o (λ p. Same p (record { x = c.args.x; y = c.args.y; w = c.args.w }))) c.unwrap.ensures asked.1

pub returns-clause-same : goal.returns-clause-same
returns-clause-same c = same c

pub returns-clause-in_range : goal.returns-clause-in_range
returns-clause-in_range c = in_range c

pub returns-clause-bounded : goal.returns-clause-bounded
returns-clause-bounded c = weight_bounded c.unwrap.result (record { x = c.args.x; y = c.args.y; w = c.args.w }) (in_range c) (same c) c.requires.positive c.requires.bounded
