-- The part is empty, and then the whole edge is outside, or it has a point; in lowest terms it is the same part.
use Rattle.std.proofs.Common.{refl, sym, arith}
use Rattle.plan_exact.proofs.Laws.{linear}
use Rattle.plan_grid.specs.Spot.{spot_seen}
use Rattle.plan_grid.specs.Spot.{spots_seen}
use Rattle.plan_convex.proofs.Fractions.{at_most_true, at_most_false}
use Rattle.plan_convex.proofs.Spans.{outside, outside_empty, not_outside, span_of, positive_number}
use Rattle.plan_convex.proofs.convex.Convex.clip.Goals as goal

pub returns-in_err-part-clause-none : goal.returns-in_err-part-clause-none
returns-in_err-part-clause-none c = (λ e. outside (spot_seen c.args.a) (spot_seen c.args.b) (spots_seen c.args.self.now) (omega (arith, linear)) (omega (arith, linear)) c.in_err-part.ensures, λ h. rw c.from_residual.ensures refl)

pub returns-then-is_at_most-clause-none : goal.returns-then-is_at_most-clause-none
returns-then-is_at_most-clause-none c =
    let t = c.if-is_at_most.ensures in
    let p = c.in_ok-part.part in
    (λ e. outside_empty (spot_seen c.args.a) (spot_seen c.args.b) (spots_seen c.args.self.now) p (omega (arith, linear)) (omega (arith, linear)) t.other_in_range.share t.in_range.share (at_most_true p.to p.from (sym t.value)) c.in_ok-part.ensures, λ h. refl)

pub returns-clause-covered : goal.returns-clause-covered
returns-clause-covered c =
    let p = c.in_ok-part.part in
    span_of (spot_seen c.args.a) (spot_seen c.args.b) (spots_seen c.args.self.now) p c.of.result c.of.ensures.from_in_range.share.positive c.of.ensures.to_in_range.share.positive (positive_number c.of.result.d0 c.of.ensures.proper.start_positive) (positive_number c.of.result.d1 c.of.ensures.proper.end_positive) c.of.ensures.start c.of.ensures.finish c.in_ok-part.ensures

pub returns-clause-none : goal.returns-clause-none
returns-clause-none c =
    let t = c.if-is_at_most.ensures in
    let p = c.in_ok-part.part in
    (λ e. absurd (cc), λ h. absurd (not_outside (spot_seen c.args.a) (spot_seen c.args.b) (spots_seen c.args.self.now) p (omega (arith, linear)) (omega (arith, linear)) t.other_in_range.share t.in_range.share (at_most_false p.to p.from (sym t.value)) c.in_ok-part.ensures h))
