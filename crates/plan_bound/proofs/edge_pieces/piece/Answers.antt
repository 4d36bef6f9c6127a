-- The points of an edge come in the order of their parameters.
use Rattle.std.proofs.Common.{arith}
use Rattle.plan_exact.proofs.Laws.{linear}
use Rattle.plan_grid.specs.Spot.{spot_seen}
use Rattle.plan_bound.proofs.Along.{piece_onward}
use Rattle.plan_bound.proofs.edge_pieces.piece.Goals as goal

pub invariant_of-result : goal.invariant_of-result
invariant_of-result c =
    let e = c.along.ensures in
    let f = c.along-2.ensures in
    record {
      onward = piece_onward (spot_seen c.args.a) (spot_seen c.args.b) c.along.result c.along-2.result c.args.gap (omega (arith, linear)) (omega (arith, linear)) c.requires.onward e.share.share f.share.share c.requires.rising (omega (arith, linear, e.in_range.weight)) (omega (arith, linear, f.in_range.weight)) e.same f.same;
      from_bounded = e.bounded;
      to_bounded = f.bounded;
    }
