-- What the slabs keep, from what each step finds.
use Rattle.std.proofs.Common.{◌≡◌, List, map, All, sym, ap, ◌∙◌, subst, arith}
use Rattle.plan_spec.specs.Segment.{HasPoints}
use Rattle.plan_spec.specs.Pieces.{Piece, IsBoundaryOf}
use Rattle.plan_grid.specs.Fraction.{Fraction}
use Rattle.plan_grid.specs.Frame.{frame_seen}
use Rattle.plan_convex.specs.Piece.{IsPieceInRange, sums_seen}
use Rattle.plan_slab.specs.declared.strand.Strand.{Strand}
use Rattle.plan_slab.specs.Decomposition.{AreInOrder}
use Rattle.plan_slab.specs.EventLines.{AreEventLines}
use Rattle.plan_slab.specs.FreeLots.{AreRows}
use Rattle.plan_slab.specs.Ends.{AreEnds, AreTabled, AreNeighbourRows}
use Rattle.plan_slab.specs.Near.{AreBoxes}
use Rattle.plan_slab.specs.Seen.{lot_seen}
use Rattle.plan_slab.specs.Subdivision.{Subdivision, slabs_of, regions_of}
use Rattle.plan_slab.proofs.Faults.{only_memory}
use Rattle.plan_slab.proofs.HeightsOn.{heights_on}
use Rattle.plan_slab.proofs.SlabParts.{Known, known_from, with_rows, floor_of, piece_points, in_order, tabled, subdivision}
use Rattle.plan_slab.proofs.slabs.Slabs.build_by.Goals as goal

same_rows : {ls ks : List Fraction} {ss ts : List (List Strand)} {ms ns : List (List Fraction)} → ls ≡ ks → ss ≡ ts → ms ≡ ns → AreRows ks ts ns → AreRows ls ss ms
same_rows {ls} {ks} {ss} {ts} {ms} {ns} e f h are = subst (λ ls. AreRows ls ss ms) (sym e) (subst (λ ss. AreRows ks ss ms) (sym f) (subst (AreRows ks ts) (sym h) are))

pub returns-in_err-boxes-clause-many : goal.returns-in_err-boxes-clause-many
returns-in_err-boxes-clause-many g c = only_memory _ c.from_residual.result c.from_residual.ensures.1

pub returns-in_err-lines-clause-many : goal.returns-in_err-lines-clause-many
returns-in_err-lines-clause-many g c = only_memory _ c.from_residual-in_err-lines.result c.from_residual-in_err-lines.ensures.1

pub returns-in_err-lots-clause-many : goal.returns-in_err-lots-clause-many
returns-in_err-lots-clause-many g c = only_memory _ c.from_residual-in_err-lots.result c.from_residual-in_err-lots.ensures.1

pub returns-in_err-ends-clause-many : goal.returns-in_err-ends-clause-many
returns-in_err-ends-clause-many g c = only_memory _ c.from_residual-in_err-ends.result c.from_residual-in_err-ends.ensures.1

pub returns-in_err-beside-clause-many : goal.returns-in_err-beside-clause-many
returns-in_err-beside-clause-many g c = only_memory _ c.from_residual-in_err-beside.result c.from_residual-in_err-beside.ensures.1

pub lines_of-requires : goal.lines_of-requires
lines_of-requires g c =
    let is = c.deref.ensures.value ∙ c.pieces.view_is in
    subst (All (λ (p : Piece). HasPoints p.part)) (sym is) (piece_points (floor_of c.args.sums.now c.args.room c.in_ok-boxes.ensures.polygons) c.requires.bound)

pub sweep-requires-clause-low : goal.sweep-requires-clause-low
sweep-requires-clause-low g c = c.requires.low

pub sweep-requires-clause-high : goal.sweep-requires-clause-high
sweep-requires-clause-high g c = c.requires.high

pub sweep-requires-clause-bound : goal.sweep-requires-clause-bound
sweep-requires-clause-bound g c = subst (IsBoundaryOf (sums_seen c.args.sums.now) (frame_seen c.args.room)) (sym (c.deref-2.ensures.value ∙ c.pieces.view_is)) c.requires.bound

pub sweep-requires-clause-lines : goal.sweep-requires-clause-lines
sweep-requires-clause-lines g c = subst (λ ps. AreEventLines ps c.deref-3.result.now) (c.deref.ensures.value ∙ sym c.deref-2.ensures.value) (subst (AreEventLines c.deref.result.now) (sym c.deref-3.ensures.value) c.in_ok-lines.ensures.lines)

pub sweep-requires-clause-floor : goal.sweep-requires-clause-floor
sweep-requires-clause-floor g c = floor_of c.args.sums.now c.args.room c.in_ok-boxes.ensures.polygons

pub free_regions-requires-clause-boxes : goal.free_regions-requires-clause-boxes
free_regions-requires-clause-boxes g c κs within = subst (AreBoxes c.args.sums.now) (sym c.deref-4.ensures.value) c.in_ok-boxes.ensures

pub free_regions-requires-clause-rows : goal.free_regions-requires-clause-rows
free_regions-requires-clause-rows g c κs within = same_rows (c.deref-5.ensures.value ∙ sym c.deref-3.ensures.value) (ap (map (λ v. v.items)) c.deref-6.ensures.value) (ap (map (λ v. v.items)) c.deref-7.ensures.value) c.in_ok-rows.ensures.rows

pub ends_of-requires-clause-rows : goal.ends_of-requires-clause-rows
ends_of-requires-clause-rows g c = same_rows (c.deref-8.ensures.value ∙ sym c.deref-3.ensures.value) (ap (map (λ v. v.items)) c.deref-9.ensures.value) (ap (map (λ v. v.items)) c.deref-10.ensures.value) c.in_ok-rows.ensures.rows

pub ends_of-requires-clause-order : goal.ends_of-requires-clause-order
ends_of-requires-clause-order g c =
    let sums = c.args.sums.now in
    let room = c.args.room in
    let pieces = c.args.pieces.now in
    let s : Subdivision = record { lines = c.in_ok-lines.lines.items; spans = map (λ v. v.items) c.in_ok-rows.rows.spans.items; marks = map (λ v. v.items) c.in_ok-rows.rows.marks.items; lots = c.in_ok-lots.lots.items; size = c.in_ok-rows.rows.size } in
    let found = c.in_ok-rows.ensures in
    let known : Known sums room pieces s =
    known_from sums room pieces c.deref-2.result.now s c.deref-3.result.now c.deref-5.result.now (map (λ v. v.items) c.deref-6.result.now) (map (λ v. v.items) c.deref-7.result.now) c.in_ok-boxes.ensures.polygons c.requires.bound (c.deref-2.ensures.value ∙ c.pieces.view_is)
    c.deref-3.ensures.value found.slabs found.rows found.size found.most c.deref-5.ensures.value (ap (map (λ v. v.items)) c.deref-6.ensures.value) (ap (map (λ v. v.items)) c.deref-7.ensures.value) c.in_ok-lots.ensures in
    with_rows AreInOrder (sym c.deref-8.ensures.value) (sym (ap (map (λ v. v.items)) c.deref-9.ensures.value)) (sym (ap (map (λ v. v.items)) c.deref-10.ensures.value)) (in_order known)

pub rows_of-requires : goal.rows_of-requires
rows_of-requires g c =
    let sums = c.args.sums.now in
    let room = c.args.room in
    let pieces = c.args.pieces.now in
    let s : Subdivision = record { lines = c.in_ok-lines.lines.items; spans = map (λ v. v.items) c.in_ok-rows.rows.spans.items; marks = map (λ v. v.items) c.in_ok-rows.rows.marks.items; lots = c.in_ok-lots.lots.items; size = c.in_ok-rows.rows.size } in
    let found = c.in_ok-rows.ensures in
    let known : Known sums room pieces s =
    known_from sums room pieces c.deref-2.result.now s c.deref-3.result.now c.deref-5.result.now (map (λ v. v.items) c.deref-6.result.now) (map (λ v. v.items) c.deref-7.result.now) c.in_ok-boxes.ensures.polygons c.requires.bound (c.deref-2.ensures.value ∙ c.pieces.view_is)
    c.deref-3.ensures.value found.slabs found.rows found.size found.most c.deref-5.ensures.value (ap (map (λ v. v.items)) c.deref-6.ensures.value) (ap (map (λ v. v.items)) c.deref-7.ensures.value) c.in_ok-lots.ensures in
    let table = map (λ v. v.items) c.in_ok-ends.ends.items in
    let ends : AreEnds (slabs_of s) table = with_rows (λ σ. AreEnds σ table) c.deref-8.ensures.value (ap (map (λ v. v.items)) c.deref-9.ensures.value) (ap (map (λ v. v.items)) c.deref-10.ensures.value) c.in_ok-ends.ensures in
    let given : AreTabled (slabs_of s) (map lot_seen c.deref-11.result.now) (map (λ v. v.items) c.deref-12.result.now) =
    subst (λ xs. AreTabled (slabs_of s) (map lot_seen xs) (map (λ v. v.items) c.deref-12.result.now)) (sym c.deref-11.ensures.value) (subst (λ es. AreTabled (slabs_of s) (regions_of s) (map (λ v. v.items) es)) (sym c.deref-12.ensures.value) (tabled known table ends)) in
    (slabs_of s, given)

pub overflow_cast-result : goal.overflow_cast-result
overflow_cast-result g c = omega (arith, c.in_ok-rows.ensures.most)

pub invariant_of-result : goal.invariant_of-result
invariant_of-result g c =
    let sums = c.args.sums.now in
    let room = c.args.room in
    let pieces = c.args.pieces.now in
    let s : Subdivision = record { lines = c.in_ok-lines.lines.items; spans = map (λ v. v.items) c.in_ok-rows.rows.spans.items; marks = map (λ v. v.items) c.in_ok-rows.rows.marks.items; lots = c.in_ok-lots.lots.items; size = c.in_ok-rows.rows.size } in
    let found = c.in_ok-rows.ensures in
    let known : Known sums room pieces s =
    known_from sums room pieces c.deref-2.result.now s c.deref-3.result.now c.deref-5.result.now (map (λ v. v.items) c.deref-6.result.now) (map (λ v. v.items) c.deref-7.result.now) c.in_ok-boxes.ensures.polygons c.requires.bound (c.deref-2.ensures.value ∙ c.pieces.view_is)
    c.deref-3.ensures.value found.slabs found.rows found.size found.most c.deref-5.ensures.value (ap (map (λ v. v.items)) c.deref-6.ensures.value) (ap (map (λ v. v.items)) c.deref-7.ensures.value) c.in_ok-lots.ensures in
    let table = map (λ v. v.items) c.in_ok-ends.ends.items in
    let ends : AreEnds (slabs_of s) table = with_rows (λ σ. AreEnds σ table) c.deref-8.ensures.value (ap (map (λ v. v.items)) c.deref-9.ensures.value) (ap (map (λ v. v.items)) c.deref-10.ensures.value) c.in_ok-ends.ensures in
    let given : AreTabled (slabs_of s) (map lot_seen c.deref-11.result.now) (map (λ v. v.items) c.deref-12.result.now) =
    subst (λ xs. AreTabled (slabs_of s) (map lot_seen xs) (map (λ v. v.items) c.deref-12.result.now)) (sym c.deref-11.ensures.value) (subst (λ es. AreTabled (slabs_of s) (regions_of s) (map (λ v. v.items) es)) (sym c.deref-12.ensures.value) (tabled known table ends)) in
    let in_range : All IsPieceInRange pieces = subst (All IsPieceInRange) (c.deref.ensures.value ∙ c.pieces.view_is) c.in_ok-lines.ensures.in_range in
    record {
      subdivision = subdivision known (heights_on sums room pieces s.lines s.spans s.marks known.has known.rows in_range (λ i d within. (c.in_ok-boxes.ensures.polygons i d within).bounded) c.requires.low c.requires.high);
      ends = ends;
      rows = subst (λ xs. AreNeighbourRows (slabs_of s) (map lot_seen xs) c.in_ok-beside.beside.items) c.deref-11.ensures.value (c.in_ok-beside.ensures (slabs_of s) given);
    }

pub returns-clause-slabs : goal.returns-clause-slabs
returns-clause-slabs g c =
    let sums = c.args.sums.now in
    let room = c.args.room in
    let pieces = c.args.pieces.now in
    let s : Subdivision = record { lines = c.in_ok-lines.lines.items; spans = map (λ v. v.items) c.in_ok-rows.rows.spans.items; marks = map (λ v. v.items) c.in_ok-rows.rows.marks.items; lots = c.in_ok-lots.lots.items; size = c.in_ok-rows.rows.size } in
    let found = c.in_ok-rows.ensures in
    let known : Known sums room pieces s =
    known_from sums room pieces c.deref-2.result.now s c.deref-3.result.now c.deref-5.result.now (map (λ v. v.items) c.deref-6.result.now) (map (λ v. v.items) c.deref-7.result.now) c.in_ok-boxes.ensures.polygons c.requires.bound (c.deref-2.ensures.value ∙ c.pieces.view_is)
    c.deref-3.ensures.value found.slabs found.rows found.size found.most c.deref-5.ensures.value (ap (map (λ v. v.items)) c.deref-6.ensures.value) (ap (map (λ v. v.items)) c.deref-7.ensures.value) c.in_ok-lots.ensures in
    known.has

pub returns-clause-regions : goal.returns-clause-regions
returns-clause-regions g c =
    let sums = c.args.sums.now in
    let room = c.args.room in
    let pieces = c.args.pieces.now in
    let s : Subdivision = record { lines = c.in_ok-lines.lines.items; spans = map (λ v. v.items) c.in_ok-rows.rows.spans.items; marks = map (λ v. v.items) c.in_ok-rows.rows.marks.items; lots = c.in_ok-lots.lots.items; size = c.in_ok-rows.rows.size } in
    let found = c.in_ok-rows.ensures in
    let known : Known sums room pieces s =
    known_from sums room pieces c.deref-2.result.now s c.deref-3.result.now c.deref-5.result.now (map (λ v. v.items) c.deref-6.result.now) (map (λ v. v.items) c.deref-7.result.now) c.in_ok-boxes.ensures.polygons c.requires.bound (c.deref-2.ensures.value ∙ c.pieces.view_is)
    c.deref-3.ensures.value found.slabs found.rows found.size found.most c.deref-5.ensures.value (ap (map (λ v. v.items)) c.deref-6.ensures.value) (ap (map (λ v. v.items)) c.deref-7.ensures.value) c.in_ok-lots.ensures in
    known.regions
