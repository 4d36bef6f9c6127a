-- Where the boxes are apart, the sum has no point of the segment.
use Rattle.std.proofs.Common.{refl, arith}
use Rattle.plan_exact.proofs.Laws.{linear}
use Rattle.plan_check.proofs.Each.{untrue}
use Rattle.plan_check.proofs.InBoxes.{IsBoxed, apart}
use Rattle.plan_check.proofs.sums.meets.Goals as goal

pub returns-then-are_apart : goal.returns-then-are_apart
returns-then-are_apart c =
    let boxed : IsBoxed c.args.sum.now c.args.bounds = record { convex = c.spots.ensures.convex; three = c.spots.ensures.at_least_three; enclosed = c.requires.bounds } in
    let p = c.w.ensures.in_range in
    let q = c.w-2.ensures.in_range in (
      λ e. absurd (untrue e),
      λ some. absurd (apart c.args.sum.now c.args.bounds c.args.reach c.args.p.now c.args.q.now boxed c.requires.reach (omega (arith, linear, p.weight)) (omega (arith, linear, q.weight)) (c.if-are_apart.ensures.0 refl) some),
    )
