-- The list is that of the definition, which makes up the polygon.
use Rattle.std.proofs.Common.{◌≡◌, ◌++◌, length, ap, ap₂, ◌∙◌, arith}
use Rattle.plan_spec.specs.Triangulation.{triangles, triangles_within}
use Rattle.plan_grid.specs.Spot.{spots_seen}
use Rattle.plan_poly.proofs.Spots.{count_seen}
use Rattle.plan_tri.specs.Triangle.{triangles_seen}
use Rattle.plan_tri.proofs.Region.Polygons.{region_of, count_of, proper_of}
use Rattle.plan_tri.proofs.cutting.triangulate.Goals as goal
use Rattle.plan_tri.proofs.cutting.triangulate.Goals.{In_ok-cut}

list : (c : In_ok-cut) → triangles_seen c.cut.new.list.items ≡ triangles (spots_seen c.args.polygon.now)
list c =
    let given = c.in_ok-from_slice.ensures.items ∙ c.spots-spots.ensures.value in
    c.in_ok-cut.ensures (length (spots_seen c.args.polygon.now)) (omega (arith, ap length given, count_seen c.args.polygon.now))
    ∙ ap₂ (λ ts s. triangles_seen ts ++ triangles_within (length (spots_seen c.args.polygon.now)) (spots_seen s)) c.in_ok-list.ensures.items given

pub returns-clause-region : goal.returns-clause-region
returns-clause-region c = region_of c.cut.new.list.items c.spots-spots.ensures.polygon (list c)

pub returns-clause-count : goal.returns-clause-count
returns-clause-count c = count_of c.cut.new.list.items c.spots-spots.ensures.polygon (list c)

pub returns-clause-proper : goal.returns-clause-proper
returns-clause-proper c = proper_of c.cut.new.list.items c.spots-spots.ensures.polygon (list c)
