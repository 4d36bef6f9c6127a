-- Where the sum's box has not all of the segment's, the sum has not both ends.
use Rattle.std.proofs.Common.{refl}
use Rattle.plan_check.proofs.Each.{untrue}
use Rattle.plan_check.proofs.InBoxes.{IsBoxed, holds_whole_box}
use Rattle.plan_check.proofs.sums.holds_both.Goals as goal

pub returns-then-not-has_box : goal.returns-then-not-has_box
returns-then-not-has_box c =
    let boxed : IsBoxed c.args.sum.now c.args.bounds = record { convex = c.spots.ensures.convex; three = c.spots.ensures.at_least_three; enclosed = c.requires.bounds } in (
      λ e. absurd (untrue e),
      λ both. absurd (untrue (c.if-not-has_box.ensures.1 (holds_whole_box c.args.sum.now c.args.bounds c.args.reach c.args.p.now c.args.q.now boxed c.requires.reach both))),
    )

pub returns-then-not-holds : goal.returns-then-not-holds
returns-then-not-holds c = (λ e. absurd (untrue e), λ both. absurd (untrue (c.if-not-holds.ensures.1 both.0)))

pub returns : goal.returns
returns c = (λ e. (c.if-not-holds.ensures.0 refl, c.holds-2.ensures.0 e), λ both. c.holds-2.ensures.1 both.1)
