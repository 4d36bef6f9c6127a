-- The cells of the slab, then the walls of the line on its right.
use Rattle.std.proofs.Common.{◌≡◌, suc, ◌+◌, ◌-◌, ◌<◌, ◌≤◌, [], length, map, get_or, All, sym, ap, ◌∙◌, subst, arith}
use Rattle.std.proofs.lemmas.List.{length-map}
use Rattle.std.specs.List.{range_with_len}
use Rattle.plan_spec.specs.Slabs.{marks_of}
use Rattle.plan_spec.specs.Regions.{Kept, wall}
use Rattle.plan_slab.specs.FreeLots.{IsFreeWall}
use Rattle.plan_grid.specs.Frame.{frame_seen}
use Rattle.plan_convex.specs.Piece.{sums_seen}
use Rattle.plan_slab.specs.EventLines.{IsLine}
use Rattle.plan_slab.specs.Heights.{IsOver, IsHeight}
use Rattle.plan_slab.specs.Seen.{strand_seen, marks_seen, lot_seen}
use Rattle.plan_slab.specs.SlabsSeen.{slabs_seen}
use Rattle.plan_slab.proofs.FreeLots.{slab_of}
use Rattle.plan_slab.proofs.SlabsSeen.{row_at, mediant_seen_at, spans_seen_at, marks_seen_at}
use Rattle.plan_slab.proofs.free.free_of_slab.Goals as goal

-- ---- the numbers are of lines, spans and marks
pub bounds-lines-k : goal.bounds-lines-k
bounds-lines-k c = omega (arith, c.requires.slab, c.requires.rows.slab_count, length-map c.args.spans.now (λ v. v.items))

pub bounds-lines-k-2 : goal.bounds-lines-k-2
bounds-lines-k-2 c = omega (arith, c.requires.slab, c.requires.rows.slab_count, length-map c.args.spans.now (λ v. v.items))

pub bounds-lines-k-3 : goal.bounds-lines-k-3
bounds-lines-k-3 c = omega (arith, c.requires.slab, c.requires.rows.slab_count, length-map c.args.spans.now (λ v. v.items))

pub bounds-marks-k : goal.bounds-marks-k
bounds-marks-k c = omega (arith, c.requires.slab, c.requires.rows.slab_count, c.requires.rows.line_count, length-map c.args.spans.now (λ v. v.items), length-map c.args.marks.now (λ v. v.items))

pub overflow_add-k : goal.overflow_add-k
overflow_add-k c = omega (arith, c.requires.slab, c.requires.rows.slab_count, c.requires.rows.few_lines, length-map c.args.spans.now (λ v. v.items))

pub overflow_add-k-2 : goal.overflow_add-k-2
overflow_add-k-2 c = omega (arith, c.requires.slab, c.requires.rows.slab_count, c.requires.rows.few_lines, length-map c.args.spans.now (λ v. v.items))

pub overflow_add-k-3 : goal.overflow_add-k-3
overflow_add-k-3 c = omega (arith, c.requires.slab, c.requires.rows.slab_count, c.requires.rows.few_lines, length-map c.args.spans.now (λ v. v.items))

pub overflow_add-k-4 : goal.overflow_add-k-4
overflow_add-k-4 c = omega (arith, c.requires.slab, c.requires.rows.slab_count, c.requires.rows.few_lines, length-map c.args.spans.now (λ v. v.items))

pub overflow_cast-k : goal.overflow_cast-k
overflow_cast-k c = omega (arith, c.requires.slab, c.requires.rows.slab_count, c.requires.rows.few_lines, length-map c.args.spans.now (λ v. v.items))

pub overflow_cast-k-2 : goal.overflow_cast-k-2
overflow_cast-k-2 c = omega (arith, c.requires.slab, c.requires.rows.slab_count, c.requires.rows.few_lines, length-map c.args.spans.now (λ v. v.items))

-- ---- what the tests ask
pub mediant_of-x-requires-clause-left : goal.mediant_of-x-requires-clause-left
mediant_of-x-requires-clause-left c = subst IsLine (sym c.index-lines-k.is) (c.requires.rows.each_line c.args.k c.index-lines-k.result (omega (arith, c.requires.slab, c.requires.rows.slab_count, length-map c.args.spans.now (λ v. v.items))))

pub mediant_of-x-requires-clause-right : goal.mediant_of-x-requires-clause-right
mediant_of-x-requires-clause-right c = subst IsLine (sym c.index-lines-k-2.is) (c.requires.rows.each_line (c.args.k + 1) c.index-lines-k-2.result (omega (arith, c.requires.slab, c.requires.rows.slab_count, length-map c.args.spans.now (λ v. v.items))))

pub free_walls-requires-clause-x : goal.free_walls-requires-clause-x
free_walls-requires-clause-x c = subst IsLine (sym c.index-lines-k-3.is) (c.requires.rows.each_line (c.args.k + 1) c.index-lines-k-3.result (omega (arith, c.requires.slab, c.requires.rows.slab_count, length-map c.args.spans.now (λ v. v.items))))

pub free_cells-requires-clause-over : goal.free_cells-requires-clause-over
free_cells-requires-clause-over c =
    let k = c.args.k in
    let rows = c.requires.rows in
    let spans = map (λ v. v.items) c.args.spans.now in
    let within : k + 1 < length c.args.lines.now = omega (arith, rows.slab_count, c.requires.slab, length-map c.args.spans.now (λ v. v.items)) in
    let row = row_at (λ v. v.items) c.args.spans.now k c.index-spans-k.result c.deref.result.now c.requires.slab c.index-spans-k.is c.deref.ensures.value in
    let x = mediant_seen_at c.args.lines.now spans (map (λ v. v.items) c.args.marks.now) k c.index-lines-k.result c.index-lines-k-2.result c.mediant_of-x.result within c.index-lines-k.is c.index-lines-k-2.is c.mediant_of-x.ensures.value in
    subst (All (λ s. IsOver s c.mediant_of-x.result)) (sym row) (subst (λ z. All (λ s. IsOver s z) (get_or spans k [])) (sym x) (rows.across k (omega (arith, c.requires.slab, length-map c.args.spans.now (λ v. v.items)))))

pub free_cells-requires-clause-few : goal.free_cells-requires-clause-few
free_cells-requires-clause-few c =
    let k = c.args.k in
    let row = row_at (λ v. v.items) c.args.spans.now k c.index-spans-k.result c.deref.result.now c.requires.slab c.index-spans-k.is c.deref.ensures.value in
    subst (λ ss. length ss ≤ 131072) (sym row) (c.requires.rows.few_spans k [] (omega (arith, c.requires.slab, length-map c.args.spans.now (λ v. v.items))))

pub free_walls-requires-clause-heights : goal.free_walls-requires-clause-heights
free_walls-requires-clause-heights c =
    let k = c.args.k + 1 in
    let rows = c.requires.rows in
    let within : k < length c.args.marks.now = omega (arith, rows.slab_count, rows.line_count, c.requires.slab, length-map c.args.spans.now (λ v. v.items), length-map c.args.marks.now (λ v. v.items)) in
    let row = row_at (λ v. v.items) c.args.marks.now k c.index-marks-k.result c.deref-2.result.now within c.index-marks-k.is c.deref-2.ensures.value in
    subst (All IsHeight) (sym row) (rows.heights k [] (omega (arith, within, length-map c.args.marks.now (λ v. v.items))))

pub free_walls-requires-clause-few : goal.free_walls-requires-clause-few
free_walls-requires-clause-few c =
    let k = c.args.k + 1 in
    let rows = c.requires.rows in
    let within : k < length c.args.marks.now = omega (arith, rows.slab_count, rows.line_count, c.requires.slab, length-map c.args.spans.now (λ v. v.items), length-map c.args.marks.now (λ v. v.items)) in
    let row = row_at (λ v. v.items) c.args.marks.now k c.index-marks-k.result c.deref-2.result.now within c.index-marks-k.is c.deref-2.ensures.value in
    subst (λ ms. length ms ≤ 131072) (sym row) (rows.few_marks k [] (omega (arith, within, length-map c.args.marks.now (λ v. v.items))))

pub returns : goal.returns
returns c =
    let k = c.args.k in
    let rows = c.requires.rows in
    let lines = c.args.lines.now in
    let spans = map (λ v. v.items) c.args.spans.now in
    let marks = map (λ v. v.items) c.args.marks.now in
    let here : k < length spans = omega (arith, c.requires.slab, length-map c.args.spans.now (λ v. v.items)) in
    let there : k + 1 < length c.args.marks.now = omega (arith, rows.slab_count, rows.line_count, here, length-map c.args.marks.now (λ v. v.items)) in
    let next : k + 1 ≡ suc k = omega arith in
    let of_spans = row_at (λ v. v.items) c.args.spans.now k c.index-spans-k.result c.deref.result.now c.requires.slab c.index-spans-k.is c.deref.ensures.value in
    let of_marks = row_at (λ v. v.items) c.args.marks.now (k + 1) c.index-marks-k.result c.deref-2.result.now there c.index-marks-k.is c.deref-2.ensures.value in
    let line = c.index-lines-k-3.result in
    let x = mediant_seen_at lines spans marks k c.index-lines-k.result c.index-lines-k-2.result c.mediant_of-x.result (omega (arith, rows.slab_count, here)) c.index-lines-k.is c.index-lines-k-2.is c.mediant_of-x.ensures.value in
    let ms = marks_seen_at lines spans marks (k + 1) line c.deref-2.result.now (omega (arith, rows.slab_count, here)) (omega (arith, rows.slab_count, rows.line_count, here)) c.index-lines-k-3.is of_marks ∙ ap (marks_of (slabs_seen lines spans marks)) next in
    rw (c.in_ok-extend_from_slice.ensures.items, c.deref-3.ensures.value)
    (slab_of (sums_seen c.args.sums.now) (frame_seen c.args.room) (slabs_seen lines spans marks) k c.mediant_of-x.result (map strand_seen c.deref.result.now) (marks_seen line c.deref-2.result.now) c.in_ok-found.found.items c.in_ok-walls.walls.items
    x (spans_seen_at lines spans marks k c.deref.result.now here of_spans) ms c.in_ok-found.ensures (subst (λ n. Kept (IsFreeWall (sums_seen c.args.sums.now) (frame_seen c.args.room) (marks_seen line c.deref-2.result.now)) (map (wall n) (range_with_len 0 (length (marks_seen line c.deref-2.result.now) - 1))) (map lot_seen c.in_ok-walls.walls.items)) next c.in_ok-walls.ensures))
