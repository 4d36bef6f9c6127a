-- Lowest terms are unique.
use Rattle.std.proofs.Common.{w64, SFits, to_z-of_z}
use Rattle.plan_wire.proofs.Points.{is_point_at}
use Rattle.plan_wire.proofs.documents.certificates.point.Goals as goal

pub returns : goal.returns
returns c =
    let x : SFits w64 c.args.x = c.ranges.x in
    let y : SFits w64 c.args.y = c.ranges.y in
    let w : SFits w64 c.args.w = c.ranges.w in
    is_point_at c.args.x c.args.y c.args.w c.new.result (simp to_z-of_z at c.new.ensures.none) (simp to_z-of_z at c.new.ensures.same) c.new.ensures.in_range
