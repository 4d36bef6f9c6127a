-- One bar more for each piece; a sort changes none.
use Rattle.std.proofs.Common.{rules, ◌≡◌, get_or, subst, sym, arith}
use Rattle.std.proofs.lemmas.List.Sorted.{answers_always}
use Rattle.plan_grid.specs.Frame.{frame_seen}
use Rattle.plan_convex.specs.Piece.{sums_seen}
use Rattle.plan_slab.specs.Bars.{IsOnEdge}
use Rattle.plan_slab.proofs.BarLists.{one_bar_more, sorted_bars, begins}
use Rattle.plan_slab.proofs.bar.bars_of.Goals as goal

pub loop-i-preserved : goal.loop-i-preserved
loop-i-preserved c =
    let sums = sums_seen c.args.sums.now in
    let room = frame_seen c.args.room in
    let pieces = c.args.pieces.now in
    let b = c.bar_of.result in
    let e = c.bar_of.ensures in
    let p = c.index-pieces-i.result in
    let at = subst (λ q. q ≡ get_or pieces c.loop-i.i q) (sym e.piece) c.index-pieces-i.is in
    let on = subst (λ q. IsOnEdge sums room q b.strand) (sym e.piece) e.edge in
    rw c.in_ok-push.ensures.items (one_bar_more sums room pieces c.loop-i.i c.loop-i.bars.items b c.loop-i.invariant c.loop-i-test.true e.number at on)

pub returns : goal.returns
returns c = sorted_bars (sums_seen c.args.sums.now) (frame_seen c.args.room) c.args.pieces.now c.loop-i.i c.loop-i.bars.items _ (omega arith) c.requires.points c.loop-i.invariant c.sort_unstable_by_key.ensures.permutation (c.sort_unstable_by_key.ensures.sorted begins (answers_always _ _ _ (λ f a r g called. search rules)))
