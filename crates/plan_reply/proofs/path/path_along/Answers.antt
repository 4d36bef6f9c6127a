-- Of equal neighbours one is left.
use Rattle.std.proofs.Common.{ℕ, All, sym, subst, arith}
use Rattle.std.proofs.lemmas.List.Filters.{dedup_is, All-dedup}
use Rattle.plan_exact.proofs.Laws.{linear}
use Rattle.plan_spec.specs.Vector.{Vector}
use Rattle.plan_spec.specs.Regions.{region_at, spot_of}
use Rattle.plan_grid.specs.Bounds.{IsInRange}
use Rattle.plan_grid.specs.PointOrder.{point_eq}
use Rattle.plan_grid.specs.Spot.{spot_seen}
use Rattle.plan_slab.specs.Subdivision.{slabs_of, regions_of}
use Rattle.plan_reply.proofs.Longer.{path_is}
use Rattle.plan_reply.proofs.path.path_along.Goals as goal

pub returns-clause-along : goal.returns-clause-along
returns-clause-along c =
    let s = c.args.map.now in
    let ps = c.in_ok-points.points.items in
    let qs = c.dedup.new.self.items in
    let f : ℕ → Vector = λ n. spot_of (slabs_of s) (region_at (regions_of s) n) in
    path_is f (spot_seen c.args.query.start) (spot_seen c.args.query.goal) c.deref.result.now c.args.walk.now.regions.items ps qs c.deref.ensures.value (omega (arith, linear)) (omega (arith, linear)) c.requires.spots
    c.in_ok-points.ensures.in_range c.in_ok-points.ensures.same (dedup_is point_eq ps qs c.dedup.ensures.filtered)

pub returns-clause-in_range : goal.returns-clause-in_range
returns-clause-in_range c =
    let ps = c.in_ok-points.points.items in
    let qs = c.dedup.new.self.items in
    subst (All IsInRange) (sym (dedup_is point_eq ps qs c.dedup.ensures.filtered)) (All-dedup point_eq IsInRange ps c.in_ok-points.ensures.in_range)
