-- Each edge of the polygon narrows the part by where its own value is positive.
use Rattle.std.proofs.Common.{◌<◌, ◌+◌, ◌%◌, pos, map, Some, None, length, All, subst, sym, arith}
use Rattle.plan_grid.specs.Spot.{spot_seen, IsWithin}
use Rattle.plan_convex.specs.Span.{IsCovered}
use Rattle.plan_convex.proofs.Covered.{leaves_more, leaves_none, leaves_all}
use Rattle.plan_convex.proofs.Distances.{change_size}
use Rattle.plan_convex.proofs.convex.Convex.covered.Goals as goal

pub where_positive-requires : goal.where_positive-requires
where_positive-requires c =
    let spots = c.spots-spots.result.now in
    let bounded = subst (All (IsWithin 2046)) (sym c.spots-spots.ensures.value) c.spots-spots.ensures.bounded in
    let next : (c.loop-i.i + 1) % length spots < length spots = omega arith in
    let p = bounded c.loop-i.i (record { x = pos 0; y = pos 0 }) c.loop-i-test.true in
    let q = bounded ((c.loop-i.i + 1) % length spots) (record { x = pos 0; y = pos 0 }) next in
    record { bounded = rw (c.distance.ensures, c.distance-in-loop-i.ensures) (change_size _ _ c.args.a c.args.b p q c.requires.a_bounded c.requires.b_bounded) }

pub returns-in_err-part : goal.returns-in_err-part
returns-in_err-part c =
    let spots = c.spots-spots.result.now in
    let none = leaves_none (spot_seen c.args.a) (spot_seen c.args.b) spots c.loop-i.i c.loop-i.part c.loop-i-test.true (rw (c.distance.ensures, c.distance-in-loop-i.ensures) at c.in_err-part.ensures) in
    rw c.from_residual.ensures (subst (λ l. IsCovered (spot_seen c.args.a) (spot_seen c.args.b) (map spot_seen l) None) c.spots-spots.ensures.value none)

pub loop-i-preserved : goal.loop-i-preserved
loop-i-preserved c =
    leaves_more (spot_seen c.args.a) (spot_seen c.args.b) c.spots-spots.result.now c.loop-i.i c.loop-i.part c.in_ok-part.part c.loop-i.invariant (rw (c.distance.ensures, c.distance-in-loop-i.ensures) at c.in_ok-part.ensures)

pub returns : goal.returns
returns c =
    let spots = c.spots-spots.result.now in
    subst (λ l. IsCovered (spot_seen c.args.a) (spot_seen c.args.b) (map spot_seen l) (Some c.loop-i.part)) c.spots-spots.ensures.value
    (leaves_all (spot_seen c.args.a) (spot_seen c.args.b) spots c.loop-i.i c.loop-i.part c.loop-i-test.false (omega arith) c.loop-i.invariant)
