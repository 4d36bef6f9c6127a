-- The denominators have a small common multiple.
use Rattle.plan_spec.specs.Regions.{halfway}
use Rattle.plan_grid.specs.Fraction.{point_at}
use Rattle.plan_plane.proofs.Segment.Same.{Same-trans}
use Rattle.plan_map.proofs.WallPoints.{middle_fits, point_fits, middle_point, middle_same}
use Rattle.plan_map.proofs.spot.wall_point.Goals as goal

pub middle-requires : goal.middle-requires
middle-requires c = middle_fits c.args.line c.args.low c.args.high c.requires.line c.requires.low c.requires.high

pub at-requires : goal.at-requires
at-requires c = point_fits c.args.line c.args.low c.args.high c.middle.result c.requires.line c.requires.low c.requires.high c.middle.ensures.in_range c.middle.ensures.value

pub returns-clause-same : goal.returns-clause-same
returns-clause-same c =
    let l = c.args.line in
    let r = c.middle.result in
    let hr = c.middle.ensures.in_range in
    Same-trans c.at.result (point_at l r) (halfway (point_at l c.args.low) (point_at l c.args.high)) (middle_point l c.args.low c.args.high r c.requires.line c.requires.low c.requires.high hr c.middle.ensures.value) c.at.ensures.same
    (middle_same l c.args.low c.args.high r c.requires.line c.requires.low c.requires.high hr c.middle.ensures.value)
