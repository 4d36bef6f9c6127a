-- The triple is the point halfway, and within the bounds of a point.
use Rattle.std.proofs.Common.{◌^◌, ap, ◌∙◌, sym, subst, arith}
use Rattle.plan_exact.specs.Vectors.{Vector}
use Rattle.plan_exact.proofs.Laws.{linear}
use Rattle.plan_spec.specs.Vector.{Same}
use Rattle.plan_plane.proofs.Segment.Same.{Same-trans}
use Rattle.plan_spec.specs.Regions.{foot, halfway}
use Rattle.plan_grid.specs.Bounds.{IsBounded}
use Rattle.plan_slab.specs.Seen.{strand_seen}
use Rattle.plan_map.proofs.CellPoints.{triple_between, triple_is, between_same, between_bounded}
use Rattle.plan_map.proofs.spot.between.Goals as goal

pub point-requires : goal.point-requires
point-requires c =
    let x = ap (λ (v : Vector). v.x) c.z.view_is in
    let w = ap (λ (v : Vector). v.w) c.z-2.view_is in
    let lower = ap (λ (v : Vector). v.y) (c.foot-2.view_is ∙ c.foot.ensures.value) in
    let upper = ap (λ (v : Vector). v.y) (c.foot-4.view_is ∙ c.foot-3.ensures.value) in
    let is = triple_is c.args.low c.args.high c.args.z x w c.run-p.ensures.value c.run-q.ensures.value lower upper c.doubled.ensures c.summed.ensures c.doubled-2.ensures in
    subst (IsBounded (2 ^ 51)) (sym is) (between_bounded c.args.low c.args.high c.args.z c.requires.low c.requires.high c.requires.bounded)

pub returns-clause-same : goal.returns-clause-same
returns-clause-same c =
    let x = ap (λ (v : Vector). v.x) c.z.view_is in
    let w = ap (λ (v : Vector). v.w) c.z-2.view_is in
    let lower = ap (λ (v : Vector). v.y) (c.foot-2.view_is ∙ c.foot.ensures.value) in
    let upper = ap (λ (v : Vector). v.y) (c.foot-4.view_is ∙ c.foot-3.ensures.value) in
    let is = triple_is c.args.low c.args.high c.args.z x w c.run-p.ensures.value c.run-q.ensures.value lower upper c.doubled.ensures c.summed.ensures c.doubled-2.ensures in
    let t = triple_between c.args.low c.args.high c.args.z in
    let h = halfway (foot (strand_seen c.args.low) c.args.z) (foot (strand_seen c.args.high) c.args.z) in
    let at : Same c.point.result t = subst (Same c.point.result) is c.point.ensures.same in
    let bounded = between_bounded c.args.low c.args.high c.args.z c.requires.low c.requires.high c.requires.bounded in
    Same-trans c.point.result t h (omega (arith, linear, bounded.weight)) at (between_same c.args.low c.args.high c.args.z)
