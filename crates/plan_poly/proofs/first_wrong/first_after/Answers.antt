-- The edges after edge i are tested one by one.
use Rattle.std.proofs.Common.{◌<◌, below_more, arith}
use Rattle.plan_spec.specs.SimplePolygon.{MeetWrongly}
use Rattle.plan_grid.specs.Spot.{spots_seen}
use Rattle.plan_poly.proofs.Spots.{count_seen}
use Rattle.plan_poly.proofs.first_wrong.first_after.Goals as goal

pub loop-j-preserved : goal.loop-j-preserved
loop-j-preserved c j after below =
    below_more (λ k. c.args.i < k → ¬ (MeetWrongly (spots_seen c.args.spots.now) c.args.i k)) c.loop-j.j (λ k less later. c.loop-j.invariant k later less) (λ later h. let e = c.if-meet_wrongly.ensures.1 h in cc) j below after

pub returns : goal.returns
returns c j after within =
    let past = c.loop-j-test.false in
    c.loop-j.invariant j after (omega (arith, within, count_seen c.args.spots.now))
