-- Both marks are on the line.
use Rattle.std.proofs.Common.{arith}
use Rattle.plan_exact.proofs.Laws.{linear}
use Rattle.plan_spec.specs.Vector.{IsPoint}
use Rattle.plan_slab.proofs.FreeLots.{wall_same_x}
use Rattle.plan_slab.proofs.free.wall_point.Goals as goal

pub returns-clause-same_x : goal.returns-clause-same_x
returns-clause-same_x c =
    let hz : IsPoint c.between.result = omega (arith, linear, c.between.ensures.bounded.weight) in
    wall_same_x c.args.line c.args.low c.args.high c.between.result c.requires.line c.requires.low c.requires.high hz c.between.ensures.same
