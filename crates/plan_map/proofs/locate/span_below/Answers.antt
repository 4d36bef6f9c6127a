-- Spans are in order at the x of the spot, so a binary search finds where they pass it.
use Rattle.std.proofs.Common.{rules, ◌≡◌, refl}
use Rattle.std.proofs.lemmas.Fn.{always_returns_same}
use Rattle.plan_grid.specs.Spot.{spot_seen}
use Rattle.plan_map.proofs.Location.ByNumber.{strand_order, span_found}
use Rattle.plan_map.proofs.locate.span_below.Goals as goal

pub returns-clause-below : goal.returns-clause-below
returns-clause-below c =
    let z = spot_seen c.args.spot in
    let spans = c.spans-spans in
    let found = c.binary_search_by-found in
    span_found c.args.slabs.now z refl c.args.slab spans.result.now found.result c.between.result c.requires spans.ensures.value found.ensures.bound (found.ensures.position (strand_order z) (always_returns_same _ (λ a r. r ≡ strand_order z a.0.now) _ (λ a r g called. search rules))) c.between.ensures
