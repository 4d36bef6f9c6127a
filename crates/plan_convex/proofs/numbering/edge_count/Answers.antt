-- Each sum adds its edges, as many as it has vertices, to what was counted, and takes them from what is left.
use Rattle.std.proofs.Common.{◌≡◌, ◌∙◌, sym, ap, length, get_or, arith}
use Rattle.plan_convex.proofs.EdgeNumbers.{length_more}
use Rattle.plan_convex.proofs.numbering.edge_count.Goals as goal

pub loop-sum-preserved : goal.loop-sum-preserved
loop-sum-preserved c =
    let sums = c.args.sums.now in
    let v = c.sum-item.result in
    let long : length (get_or sums c.loop-sum.sum-index v) ≡ length c.spots.result.now = ap length (sym c.sum-item.is ∙ sym c.spots.ensures.value) in
    let few = ap length c.spots.ensures.value in (
      λ room. omega (arith, length_more sums c.loop-sum.sum-index room v c.loop-sum-test.true, long, c.loop-sum.invariant.0 room),
      omega (arith, few, c.spots.ensures.at_most_six, c.loop-sum.invariant.1),
    )
