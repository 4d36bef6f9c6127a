-- One list of points after another.
use Rattle.plan_spec.specs.Paths.{stops}
use Rattle.plan_spec.specs.Regions.{region_at, spot_of}
use Rattle.plan_grid.specs.Spot.{spot_seen}
use Rattle.plan_grid.proofs.Lowest.{spot_is_in_range}
use Rattle.plan_slab.specs.Subdivision.{slabs_of, regions_of}
use Rattle.plan_reply.proofs.Longer.{way_alike, way_lowest}
use Rattle.plan_reply.proofs.path.way.Goals as goal

pub returns-clause-same : goal.returns-clause-same
returns-clause-same c =
    let s = c.args.map.now in
    way_alike (stops (λ n. spot_of (slabs_of s) (region_at (regions_of s) n)) c.args.regions.now) (spot_seen c.args.query.start) (spot_seen c.args.query.goal) c.of.result c.of-2.result
    c.new-points.result.items c.push.new.self.items c.push_stops.new.points.items c.push-2.new.self.items
    c.new-points.ensures.items c.in_ok-push.ensures.items c.of.ensures c.in_ok-push_stops.ensures c.in_ok-push-2.ensures.items c.of-2.ensures

pub returns-clause-in_range : goal.returns-clause-in_range
returns-clause-in_range c =
    let s = c.args.map.now in
    let q = c.args.query in
    way_lowest (stops (λ n. spot_of (slabs_of s) (region_at (regions_of s) n)) c.args.regions.now) (spot_seen q.start) (spot_seen q.goal) c.of.result c.of-2.result
    c.new-points.result.items c.push.new.self.items c.push_stops.new.points.items c.push-2.new.self.items
    c.new-points.ensures.items c.in_ok-push.ensures.items c.of.ensures c.in_ok-push_stops.ensures c.in_ok-push-2.ensures.items c.of-2.ensures
    (spot_is_in_range q.start.x q.start.y c.requires.start.x c.requires.start.y) (spot_is_in_range q.goal.x q.goal.y c.requires.goal.x c.requires.goal.y)
