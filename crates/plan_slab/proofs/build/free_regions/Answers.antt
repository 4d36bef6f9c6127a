-- The lists of all slabs, one after another.
use Rattle.std.proofs.Common.{map, sym, ap, ◌∙◌, subst, length, arith}
use Rattle.std.specs.List.{flat_map}
use Rattle.std.proofs.lemmas.List.{length-map}
use Rattle.plan_spec.specs.Regions.{AreRegions}
use Rattle.plan_grid.specs.Frame.{frame_seen}
use Rattle.plan_convex.specs.Piece.{sums_seen}
use Rattle.plan_slab.specs.Seen.{lot_seen, strand_seen}
use Rattle.plan_slab.specs.SlabsSeen.{slabs_seen}
use Rattle.plan_slab.proofs.SlabParts.{regions_from}
use Rattle.plan_slab.proofs.build.free_regions.Goals as goal

pub returns : goal.returns
returns g c =
    let sums = sums_seen c.args.sums.now in
    let room = frame_seen c.args.room in
    let spans = map (λ v. v.items) c.args.spans.now in
    let σ = slabs_seen c.args.lines.now spans (map (λ v. v.items) c.args.marks.now) in
    let e = c.in_ok-regions.ensures ∙ ap (flat_map (λ v. v.items)) c.deref.ensures.value in
    subst (λ xs. AreRegions sums room σ (map lot_seen xs)) (sym e)
    (regions_from sums room σ (λ v. v.items) (length c.args.spans.now) c.in_ok-lists.lists.items (omega (arith, length-map c.args.spans.now (λ v. v.items), length-map spans (map strand_seen))) c.in_ok-lists.ensures)
