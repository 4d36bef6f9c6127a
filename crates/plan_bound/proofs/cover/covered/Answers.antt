-- Apart from its box, or by its span.
use Rattle.std.proofs.Common.{refl, sym, subst}
use Rattle.plan_grid.specs.Spot.{spot_seen, spots_seen}
use Rattle.plan_convex.specs.Parameter.{IsParameter}
use Rattle.plan_convex.proofs.Apart.{apart}
use Rattle.plan_bound.specs.Cover.{IsCoverOf}
use Rattle.plan_bound.proofs.Covering.{strictly_held, cover_of_span}
use Rattle.plan_bound.proofs.cover.covered.Goals as goal

pub returns-then-are_apart : goal.returns-then-are_apart
returns-then-are_apart c z hz on inside = apart c.args.sum.now c.args.a c.args.b c.args.bounds c.args.edge_box z c.spots.ensures.convex c.spots.ensures.at_least_three c.requires.bounds c.requires.first c.requires.last (c.if-are_apart.ensures.0 refl) hz on (strictly_held (spots_seen c.args.sum.now) z inside)

pub returns : goal.returns
returns c =
    let s = c.in_ok-span.ensures in
    let e = c.part.ensures in
    let from = subst IsParameter e.start e.from_in_range in
    let to = subst IsParameter e.finish e.to_in_range in
    subst (IsCoverOf (spot_seen c.args.a) (spot_seen c.args.b) (spots_seen c.args.sum.now)) (λ i. record { from = sym e.start i; to = sym e.finish i })
    (cover_of_span (spot_seen c.args.a) (spot_seen c.args.b) (spots_seen c.args.sum.now) c.in_ok-span.span s.proper from to s.covered)
