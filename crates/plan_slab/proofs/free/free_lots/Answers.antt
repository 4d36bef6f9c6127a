-- Each number of the range is that of a slab, and the lists are in the order of the range.
use Rattle.std.proofs.Common.{◌≡◌, ◌<◌, ◌-◌, ◌∙◌, length, map, ap, subst, arith}
use Rattle.std.specs.List.{AllZip, range_with_len}
use Rattle.std.specs.Result.{IfOk}
use Rattle.rayon.specs.Numbers.{nat_range}
use Rattle.rayon.proofs.ToStd.{nat_range-All}
use Rattle.plan_plane.proofs.Collected.{collected}
use Rattle.plan_grid.specs.Frame.{frame_seen}
use Rattle.plan_convex.specs.Piece.{sums_seen}
use Rattle.plan_slab.specs.FreeLots.{AreFreeOf}
use Rattle.plan_slab.specs.Seen.{lot_seen}
use Rattle.plan_slab.specs.SlabsSeen.{slabs_seen}
use Rattle.plan_slab.proofs.free.free_lots.Goals as goal

pub collect-requires-clause-ready : goal.collect-requires-clause-ready
collect-requires-clause-ready g c =
    let ends = c.into_par_iter.ensures in
    let inside = nat_range-All (λ i. i < length c.args.spans.now) 0 (length c.args.spans.now) (λ i low high. high) in
    rw (c.map.ensures.base, c.map.ensures.f, c.with_min_len.ensures.base, ends.0, ends.1) (λ κs outlives k d lt. ((inside k d lt, (c.requires.boxes, (c.requires.room, c.requires.rows))), λ y p. tt))

pub returns : goal.returns
returns g c =
    let ends = c.into_par_iter.ensures in
    let h = c.in_ok-collect.ensures in
    let chain = rw (c.map.ensures.base, c.map.ensures.f, c.with_min_len.ensures.base) at h.1 in
    let n = length c.args.spans.now in
    let whole : n - 0 ≡ n = omega arith in
    let places = chain.1 ∙ (λ i. nat_range (ends.0 i) (ends.1 i)) ∙ ap (range_with_len 0) whole in
    subst (λ ks. IfOk c.in_ok-collect.field-0 (λ v. AllZip (λ k found. AreFreeOf (sums_seen c.args.sums.now) (frame_seen c.args.room) (slabs_seen c.args.lines.now (map (λ w. w.items) c.args.spans.now) (map (λ w. w.items) c.args.marks.now)) k (map lot_seen found.items)) ks v.items)) places
    (collected (λ v. v.items) _ chain.0 h.0 c.in_ok-collect.field-0 _ chain.2 h.2)
