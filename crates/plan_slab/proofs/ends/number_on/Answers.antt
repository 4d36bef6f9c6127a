-- One mark more that is below the span, or the first that is not.
use Rattle.std.proofs.Common.{refl}
use Rattle.plan_slab.specs.Seen.{strand_seen}
use Rattle.plan_slab.proofs.MarkNumbers.{one_below, not_below, all_below}
use Rattle.plan_slab.proofs.ends.number_on.Goals as goal

pub loop-at-preserved : goal.loop-at-preserved
loop-at-preserved c = one_below (strand_seen c.args.span) c.args.line c.args.marks.now c.loop-at.at c.loop-at.invariant c.index-marks-at.result c.loop-at-test.true c.index-marks-at.is (c.if-not-is_below.ensures.0 refl)

pub returns-then-not-is_below-clause-number : goal.returns-then-not-is_below-clause-number
returns-then-not-is_below-clause-number c = not_below (strand_seen c.args.span) c.args.line c.args.marks.now c.loop-at.at c.loop-at.invariant c.index-marks-at.result c.loop-at-test.true c.index-marks-at.is (λ low. let e = c.if-not-is_below.ensures.1 low in cc)

pub returns-clause-number : goal.returns-clause-number
returns-clause-number c = all_below (strand_seen c.args.span) c.args.line c.args.marks.now c.loop-at.at c.loop-at.invariant c.loop-at-test.false
