-- The edge is one of the next sum, or its number falls by the edges of that sum.
use Rattle.std.proofs.Common.{◌≡◌, ◌+◌, ◌-◌, ◌<◌, ◌∙◌, sym, ap, subst, length, get_or, arith}
use Rattle.plan_grid.specs.Frame.{frame_seen}
use Rattle.plan_grid.proofs.Edges.{edge_at}
use Rattle.plan_convex.proofs.EdgeNumbers.{left_from, length_more, edge_here, edge_beyond, ends_differ}
use Rattle.plan_convex.proofs.numbering.edge_of.Goals as goal

pub returns-then-left-spots-clause-edge : goal.returns-then-left-spots-clause-edge
returns-then-left-spots-clause-edge c =
    let sums = c.args.sums.now in
    let i = c.loop-sum.sum-index in
    let v = c.sum-item.result in
    let spots = c.spots-spots.result.now in
    let k = c.loop-sum.left in
    let same : get_or sums i v ≡ spots = sym c.sum-item.is ∙ sym c.spots-spots.ensures.value in
    let fits : k < length (get_or sums i v) = subst (λ l. k < length l) (sym same) c.if-left-spots.true in
    sym (c.loop-sum.invariant.1 (edge_at spots k)) ∙ edge_here sums i k (frame_seen c.args.room) v (edge_at spots k) c.loop-sum-test.true fits ∙ ap (λ l. edge_at l k) same

pub loop-sum-preserved : goal.loop-sum-preserved
loop-sum-preserved c =
    let sums = c.args.sums.now in
    let i = c.loop-sum.sum-index in
    let v = c.sum-item.result in
    let spots = c.spots-spots.result.now in
    let k = c.loop-sum.left in
    let same : get_or sums i v ≡ spots = sym c.sum-item.is ∙ sym c.spots-spots.ensures.value in
    let long : length (get_or sums i v) ≡ length spots = ap length same in
    let m = length_more sums i (frame_seen c.args.room) v c.loop-sum-test.true in (
      omega (arith, m, long, c.loop-sum.invariant.0, c.if-left-spots.false),
      λ e. ap (λ n. get_or (left_from sums (i + 1) (frame_seen c.args.room)) (k - n) e) (sym long) ∙ sym (edge_beyond sums i k (frame_seen c.args.room) v e c.loop-sum-test.true (omega (arith, long, c.if-left-spots.false))) ∙ c.loop-sum.invariant.1 e,
    )

pub returns-then-left-spots-clause-distinct : goal.returns-then-left-spots-clause-distinct
returns-then-left-spots-clause-distinct c wide tall =
    let e = c.spots-spots.ensures in
    ends_differ c.spots-spots.result.now c.loop-sum.left (rw e.value e.convex) (rw e.value e.at_least_three) c.if-left-spots.true
