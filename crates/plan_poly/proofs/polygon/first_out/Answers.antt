-- All spots have been tested.
use Rattle.std.proofs.Common.{arith}
use Rattle.plan_poly.proofs.polygon.first_out.Goals as goal

pub returns : goal.returns
returns c k d within =
    let past = c.loop-i-test.false in
    c.loop-i.invariant k d (omega (arith, within))
