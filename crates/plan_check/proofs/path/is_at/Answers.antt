-- Points that are equal are at one position.
use Rattle.std.proofs.Common.{◌∙◌, sym, ap, arith}
use Rattle.plan_exact.proofs.Laws.{linear}
use Rattle.plan_grid.specs.PointOrder.{point_eq}
use Rattle.plan_grid.specs.Spot.{spot_seen}
use Rattle.plan_plane.proofs.Segment.Same.{same_true, same_from}
use Rattle.plan_cross.proofs.Equal.{equal_is_same}
use Rattle.plan_check.proofs.path.is_at.Goals as goal

pub returns : goal.returns
returns c =
    let range = c.w.ensures.in_range in
    let equal = c.eq.ensures ∙ ap (point_eq c.args.p.now) c.of.ensures ∙ equal_is_same c.args.p.now (spot_seen c.args.s) (omega (arith, linear, range.weight)) (omega (arith, linear)) in
    (λ e. same_true c.args.p.now (spot_seen c.args.s) (sym equal ∙ e), λ h. equal ∙ same_from c.args.p.now (spot_seen c.args.s) h)
