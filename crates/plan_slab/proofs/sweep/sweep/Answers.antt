-- At each line the bars held are those that meet it, and in each slab those that cross it.
use Rattle.std.proofs.Common.{◌≡◌, ◌+◌, ◌<◌, ◌≤◌, [], sym, subst, length, get_or, All, arith}
use Rattle.std.proofs.lemmas.Result.{err_from_is_err_and}
use Rattle.plan_spec.specs.Regions.{mediant}
use Rattle.plan_spec.specs.Slabs.{AreSlabs}
use Rattle.plan_grid.specs.Frame.{frame_seen}
use Rattle.plan_convex.specs.Piece.{sums_seen}
use Rattle.plan_slab.specs.EventLines.{IsLine}
use Rattle.plan_slab.specs.Heights.{IsOver}
use Rattle.plan_slab.specs.LineMarks.{Meets}
use Rattle.plan_slab.specs.Seen.{line_seen}
use Rattle.plan_slab.specs.SlabsSeen.{slabs_seen}
use Rattle.plan_slab.specs.Sweeps.{AreAcross}
use Rattle.plan_slab.proofs.Faults.{only_memory}
use Rattle.plan_slab.proofs.FoundRows.{rows_found}
use Rattle.plan_slab.proofs.LinesSeen.{lines_seen, is_slab}
use Rattle.plan_slab.proofs.PieceEdges.{edges_below}
use Rattle.plan_slab.proofs.Pieces.{has_pieces}
use Rattle.plan_slab.proofs.SlabsSeen.{element_at}
use Rattle.plan_slab.proofs.SweptRows.{AreSwept, IsHeld, none_swept}
use Rattle.plan_slab.proofs.SweepSteps.{first_held, taken_up, all_meet, across_line, all_over, across_slab, held_next, swept_marks, swept_spans, many_marks, many_spans, swept_all}
use Rattle.plan_slab.proofs.XValues.{line_point}
use Rattle.plan_slab.proofs.sweep.sweep.Goals as goal
use Rattle.plan_slab.proofs.sweep.sweep.Goals.{After-drop-bars}

pub bars_of-requires-clause-points : goal.bars_of-requires-clause-points
bars_of-requires-clause-points c = λ k d within. ((has_pieces c.requires.floor c.requires.bound).each k d within).part.points

pub bars_of-requires-clause-edges : goal.bars_of-requires-clause-edges
bars_of-requires-clause-edges c = edges_below c.requires.bound

-- ---- want of memory
pub returns-in_err-bars-clause-many : goal.returns-in_err-bars-clause-many
returns-in_err-bars-clause-many c = only_memory _ c.from_residual.result c.from_residual.ensures.1

pub returns-in_err-next-clause-many : goal.returns-in_err-next-clause-many
returns-in_err-next-clause-many c = only_memory _ c.from_residual-in_err-next.result c.from_residual-in_err-next.ensures.1

pub returns-in_err-marks-clause-many : goal.returns-in_err-marks-clause-many
returns-in_err-marks-clause-many c = only_memory _ c.from_residual-in_err-marks.result c.from_residual-in_err-marks.ensures.1

pub returns-in_err-spans-clause-many : goal.returns-in_err-spans-clause-many
returns-in_err-spans-clause-many c = only_memory _ c.from_residual-in_err-spans.result c.from_residual-in_err-spans.ensures.1

pub returns-in_err-take_up-clause-many : goal.returns-in_err-take_up-clause-many
returns-in_err-take_up-clause-many c = only_memory _ c.from_residual-in_err-take_up.result c.from_residual-in_err-take_up.ensures.1

pub returns-in_err-marks-2-clause-many : goal.returns-in_err-marks-2-clause-many
returns-in_err-marks-2-clause-many c = only_memory _ c.from_residual-in_err-marks-2.result c.from_residual-in_err-marks-2.ensures.1

-- ---- without lines
module _ (c : After-drop-bars) where
  empty : length c.args.lines.now ≡ 0
  empty = omega arith

  none_found : AreSwept (sums_seen c.args.sums.now) (frame_seen c.args.room) c.args.pieces.now c.args.lines.now [] [] 0 0 0
  none_found = none_swept c.args.lines.now (lines_seen c.args.pieces.now c.args.lines.now c.requires.lines)

  no_slabs : AreSlabs (sums_seen c.args.sums.now) (frame_seen c.args.room) c.args.pieces.now (slabs_seen c.args.lines.now [] [])
  no_slabs = swept_all none_found (omega (arith, empty)) (omega (arith, empty))

pub returns-in_default-clause-slabs : goal.returns-in_default-clause-slabs
returns-in_default-clause-slabs c = rw (c.new.ensures.items, c.new-2.ensures.items) (no_slabs c)

pub returns-in_default-clause-size : goal.returns-in_default-clause-size
returns-in_default-clause-size c = rw (c.new.ensures.items, c.new-2.ensures.items) (none_found c).is_size

pub returns-in_default-clause-rows : goal.returns-in_default-clause-rows
returns-in_default-clause-rows c =
    rw (c.new.ensures.items, c.new-2.ensures.items) (rows_found (has_pieces c.requires.floor c.requires.bound) c.in_ok-bars.bars.items c.in_ok-bars.ensures c.args.lines.now c.requires.lines [] [] (no_slabs c) (omega (arith, empty c)) (omega (arith, empty c)) (omega (arith, (none_found c).is_size)) (none_found c).heights)

-- ---- with lines
pub loop-k-init : goal.loop-k-init
loop-k-init c =
    let event = c.requires.lines in
    rw (c.new.ensures.items, c.new-2.ensures.items, c.new-active.ensures.items) (none_swept c.args.lines.now (lines_seen c.args.pieces.now c.args.lines.now event), omega arith, λ d within. first_held c.in_ok-bars.bars.items (get_or c.args.lines.now 0 d) (line_point (get_or c.args.lines.now 0 d) (event.lines 0 d within).ratio))

pub marks_at-requires-clause-line : goal.marks_at-requires-clause-line
marks_at-requires-clause-line c =
    let within : c.loop-k.k < length c.args.lines.now = omega (arith, c.loop-k-test.true, c.in-Some.ensures.1) in
    subst IsLine (sym c.index-lines-k.is) (c.requires.lines.lines c.loop-k.k c.index-lines-k.result within)

pub marks_at-requires-clause-bars : goal.marks_at-requires-clause-bars
marks_at-requires-clause-bars c =
    let sums = sums_seen c.args.sums.now in
    let room = frame_seen c.args.room in
    let pieces = c.args.pieces.now in
    let lines = c.args.lines.now in
    let known = has_pieces c.requires.floor c.requires.bound in
    let bars = c.in_ok-bars.bars.items in
    let are = c.in_ok-bars.ensures in
    let (swept, upto, held) = c.loop-k.invariant in
    let n = c.in_ok-next.next in
    let l = c.index-lines-k.result in
    let xs = c.take_up.new.active.items in
    let within : c.loop-k.k < length c.args.lines.now = omega (arith, c.loop-k-test.true, c.in-Some.ensures.1) in
    let at = taken_up known bars are lines c.requires.lines c.loop-k.k c.loop-k.next n l c.loop-k.active.items xs c.deref.result.now within c.index-lines-k.is held c.deref.ensures.value c.in_ok-next.ensures.held c.in_ok-next.ensures.later in
    subst (λ bs. All (Meets l) bs) (sym c.deref-in-loop-k.ensures.value) (all_meet known bars are n l xs at)

pub add_marks-requires : goal.add_marks-requires
add_marks-requires c = let (swept, upto, held) = c.loop-k.invariant in swept.few

pub returns-in_err-add_marks-clause-many : goal.returns-in_err-add_marks-clause-many
returns-in_err-add_marks-clause-many c =
    let sums = sums_seen c.args.sums.now in
    let room = frame_seen c.args.room in
    let pieces = c.args.pieces.now in
    let lines = c.args.lines.now in
    let known = has_pieces c.requires.floor c.requires.bound in
    let bars = c.in_ok-bars.bars.items in
    let are = c.in_ok-bars.ensures in
    let (swept, upto, held) = c.loop-k.invariant in
    let n = c.in_ok-next.next in
    let l = c.index-lines-k.result in
    let xs = c.take_up.new.active.items in
    let within : c.loop-k.k < length c.args.lines.now = omega (arith, c.loop-k-test.true, c.in-Some.ensures.1) in
    let at = taken_up known bars are lines c.requires.lines c.loop-k.k c.loop-k.next n l c.loop-k.active.items xs c.deref.result.now within c.index-lines-k.is held c.deref.ensures.value c.in_ok-next.ensures.held c.in_ok-next.ensures.later in
    let found = c.in_ok-marks.ensures.marks sums room pieces c.requires.floor c.requires.bound (subst (AreAcross sums room pieces l l) (sym c.deref-in-loop-k.ensures.value) (across_line known bars are n l xs at)) in
    let p = err_from_is_err_and c.from_residual-in_err-add_marks.result c.from_residual-in_err-add_marks.ensures.1 in
    rw (p.1, p.2) (λ e. many_marks swept known l c.in_ok-marks.marks.items within c.index-lines-k.is found (c.in_err-add_marks.ensures.many e))

pub spans_between-requires-clause-left : goal.spans_between-requires-clause-left
spans_between-requires-clause-left c =
    let within : c.loop-k.k < length c.args.lines.now = omega (arith, c.loop-k-test.true, c.in-Some.ensures.1) in
    subst IsLine (sym c.index-lines-k.is) (c.requires.lines.lines c.loop-k.k c.index-lines-k.result within)

pub spans_between-requires-clause-right : goal.spans_between-requires-clause-right
spans_between-requires-clause-right c =
    let next : c.loop-k.k + 1 < length c.args.lines.now = omega (arith, c.loop-k-test.true, c.in-Some.ensures.1) in
    subst IsLine (sym c.index-lines-k-in-loop-k.is) (c.requires.lines.lines (c.loop-k.k + 1) c.index-lines-k-in-loop-k.result next)

pub spans_between-requires-clause-over : goal.spans_between-requires-clause-over
spans_between-requires-clause-over c =
    let sums = sums_seen c.args.sums.now in
    let room = frame_seen c.args.room in
    let pieces = c.args.pieces.now in
    let lines = c.args.lines.now in
    let known = has_pieces c.requires.floor c.requires.bound in
    let bars = c.in_ok-bars.bars.items in
    let are = c.in_ok-bars.ensures in
    let (swept, upto, held) = c.loop-k.invariant in
    let n = c.in_ok-next.next in
    let l = c.index-lines-k.result in
    let xs = c.take_up.new.active.items in
    let within : c.loop-k.k < length c.args.lines.now = omega (arith, c.loop-k-test.true, c.in-Some.ensures.1) in
    let at = taken_up known bars are lines c.requires.lines c.loop-k.k c.loop-k.next n l c.loop-k.active.items xs c.deref.result.now within c.index-lines-k.is held c.deref.ensures.value c.in_ok-next.ensures.held c.in_ok-next.ensures.later in
    let r = c.index-lines-k-in-loop-k.result in
    let ys = c.keep.new.active.items in
    let next : c.loop-k.k + 1 < length c.args.lines.now = omega (arith, c.loop-k-test.true, c.in-Some.ensures.1) in
    let slab = is_slab pieces lines c.requires.lines c.loop-k.k l r next c.index-lines-k.is c.index-lines-k-in-loop-k.is in
    subst (λ bs. All (λ b. IsOver b.strand (mediant (line_seen l) (line_seen r))) bs) (sym c.deref-in-loop-k-2.ensures.value) (all_over known bars are n l r xs ys slab at c.keep.ensures)

pub add_spans-requires : goal.add_spans-requires
add_spans-requires c = c.in_ok-add_marks.ensures.most

pub returns-in_err-add_spans-clause-many : goal.returns-in_err-add_spans-clause-many
returns-in_err-add_spans-clause-many c =
    let sums = sums_seen c.args.sums.now in
    let room = frame_seen c.args.room in
    let pieces = c.args.pieces.now in
    let lines = c.args.lines.now in
    let known = has_pieces c.requires.floor c.requires.bound in
    let bars = c.in_ok-bars.bars.items in
    let are = c.in_ok-bars.ensures in
    let (swept, upto, held) = c.loop-k.invariant in
    let n = c.in_ok-next.next in
    let l = c.index-lines-k.result in
    let xs = c.take_up.new.active.items in
    let within : c.loop-k.k < length c.args.lines.now = omega (arith, c.loop-k-test.true, c.in-Some.ensures.1) in
    let at = taken_up known bars are lines c.requires.lines c.loop-k.k c.loop-k.next n l c.loop-k.active.items xs c.deref.result.now within c.index-lines-k.is held c.deref.ensures.value c.in_ok-next.ensures.held c.in_ok-next.ensures.later in
    let found = c.in_ok-marks.ensures.marks sums room pieces c.requires.floor c.requires.bound (subst (AreAcross sums room pieces l l) (sym c.deref-in-loop-k.ensures.value) (across_line known bars are n l xs at)) in
    let r = c.index-lines-k-in-loop-k.result in
    let ys = c.keep.new.active.items in
    let next : c.loop-k.k + 1 < length c.args.lines.now = omega (arith, c.loop-k-test.true, c.in-Some.ensures.1) in
    let slab = is_slab pieces lines c.requires.lines c.loop-k.k l r next c.index-lines-k.is c.index-lines-k-in-loop-k.is in
    let grown = swept_marks swept l c.in_ok-marks.marks.items _ _ c.add_marks.new.self.size within c.index-lines-k.is found c.in_ok-marks.ensures.heights.heights c.in_ok-add_marks.ensures.spans c.in_ok-add_marks.ensures.marks c.in_ok-add_marks.ensures.size c.in_ok-add_marks.ensures.most in
    let across = c.in_ok-spans.ensures.spans sums room pieces c.requires.floor c.requires.bound slab.wide (subst (AreAcross sums room pieces l r) (sym c.deref-in-loop-k-2.ensures.value) (across_slab known bars are n l r xs ys slab at c.keep.ensures)) in
    let p = err_from_is_err_and c.from_residual-in_err-add_spans.result c.from_residual-in_err-add_spans.ensures.1 in
    rw (p.1, p.2) (λ e. many_spans grown known l r c.in_ok-spans.spans.items next c.index-lines-k.is c.index-lines-k-in-loop-k.is across (c.in_err-add_spans.ensures.many e))

pub loop-k-preserved : goal.loop-k-preserved
loop-k-preserved c =
    let sums = sums_seen c.args.sums.now in
    let room = frame_seen c.args.room in
    let pieces = c.args.pieces.now in
    let lines = c.args.lines.now in
    let known = has_pieces c.requires.floor c.requires.bound in
    let bars = c.in_ok-bars.bars.items in
    let are = c.in_ok-bars.ensures in
    let (swept, upto, held) = c.loop-k.invariant in
    let n = c.in_ok-next.next in
    let l = c.index-lines-k.result in
    let xs = c.take_up.new.active.items in
    let within : c.loop-k.k < length c.args.lines.now = omega (arith, c.loop-k-test.true, c.in-Some.ensures.1) in
    let at = taken_up known bars are lines c.requires.lines c.loop-k.k c.loop-k.next n l c.loop-k.active.items xs c.deref.result.now within c.index-lines-k.is held c.deref.ensures.value c.in_ok-next.ensures.held c.in_ok-next.ensures.later in
    let found = c.in_ok-marks.ensures.marks sums room pieces c.requires.floor c.requires.bound (subst (AreAcross sums room pieces l l) (sym c.deref-in-loop-k.ensures.value) (across_line known bars are n l xs at)) in
    let r = c.index-lines-k-in-loop-k.result in
    let ys = c.keep.new.active.items in
    let next : c.loop-k.k + 1 < length c.args.lines.now = omega (arith, c.loop-k-test.true, c.in-Some.ensures.1) in
    let slab = is_slab pieces lines c.requires.lines c.loop-k.k l r next c.index-lines-k.is c.index-lines-k-in-loop-k.is in
    let grown = swept_marks swept l c.in_ok-marks.marks.items _ _ c.add_marks.new.self.size within c.index-lines-k.is found c.in_ok-marks.ensures.heights.heights c.in_ok-add_marks.ensures.spans c.in_ok-add_marks.ensures.marks c.in_ok-add_marks.ensures.size c.in_ok-add_marks.ensures.most in
    let across = c.in_ok-spans.ensures.spans sums room pieces c.requires.floor c.requires.bound slab.wide (subst (AreAcross sums room pieces l r) (sym c.deref-in-loop-k-2.ensures.value) (across_slab known bars are n l r xs ys slab at c.keep.ensures)) in (
      swept_spans grown l r c.in_ok-spans.spans.items _ _ c.add_spans.new.self.size next c.index-lines-k.is c.index-lines-k-in-loop-k.is across c.in_ok-add_spans.ensures.spans c.in_ok-add_spans.ensures.marks c.in_ok-add_spans.ensures.size c.in_ok-add_spans.ensures.most,
      subst (λ bs. n ≤ length bs) c.deref.ensures.value c.in_ok-next.ensures.upto,
      λ d more. subst (λ x. IsHeld bars n x ys) (element_at lines (c.loop-k.k + 1) r d more c.index-lines-k-in-loop-k.is) (held_next known bars are n l r xs ys slab at c.keep.ensures),
    )

pub marks_at-requires-2-clause-line : goal.marks_at-requires-2-clause-line
marks_at-requires-2-clause-line c =
    let within : c.in-Some.last < length c.args.lines.now = omega (arith, c.in-Some.ensures.0, c.in-Some.ensures.1) in
    subst IsLine (sym c.index-lines-last.is) (c.requires.lines.lines c.in-Some.last c.index-lines-last.result within)

pub marks_at-requires-2-clause-bars : goal.marks_at-requires-2-clause-bars
marks_at-requires-2-clause-bars c =
    let sums = sums_seen c.args.sums.now in
    let room = frame_seen c.args.room in
    let pieces = c.args.pieces.now in
    let lines = c.args.lines.now in
    let known = has_pieces c.requires.floor c.requires.bound in
    let bars = c.in_ok-bars.bars.items in
    let are = c.in_ok-bars.ensures in
    let (swept, upto, held) = c.loop-k.invariant in
    let n = c.in_ok-take_up.field-0 in
    let l = c.index-lines-last.result in
    let xs = c.take_up-2.new.active.items in
    let e : c.loop-k.k ≡ c.in-Some.last = omega arith in
    let within : c.loop-k.k < length c.args.lines.now = omega (arith, e, c.in-Some.ensures.0, c.in-Some.ensures.1) in
    let is : l ≡ get_or lines c.loop-k.k l = subst (λ j. l ≡ get_or lines j l) (sym e) c.index-lines-last.is in
    let at = taken_up known bars are lines c.requires.lines c.loop-k.k c.loop-k.next n l c.loop-k.active.items xs c.deref-2.result.now within is held c.deref-2.ensures.value c.in_ok-take_up.ensures.held c.in_ok-take_up.ensures.later in
    subst (λ bs. All (Meets l) bs) (sym c.deref-3.ensures.value) (all_meet known bars are n l xs at)

pub add_marks-requires-2 : goal.add_marks-requires-2
add_marks-requires-2 c = let (swept, upto, held) = c.loop-k.invariant in swept.few

pub returns-in_err-add_marks-2-clause-many : goal.returns-in_err-add_marks-2-clause-many
returns-in_err-add_marks-2-clause-many c =
    let sums = sums_seen c.args.sums.now in
    let room = frame_seen c.args.room in
    let pieces = c.args.pieces.now in
    let lines = c.args.lines.now in
    let known = has_pieces c.requires.floor c.requires.bound in
    let bars = c.in_ok-bars.bars.items in
    let are = c.in_ok-bars.ensures in
    let (swept, upto, held) = c.loop-k.invariant in
    let n = c.in_ok-take_up.field-0 in
    let l = c.index-lines-last.result in
    let xs = c.take_up-2.new.active.items in
    let e : c.loop-k.k ≡ c.in-Some.last = omega arith in
    let within : c.loop-k.k < length c.args.lines.now = omega (arith, e, c.in-Some.ensures.0, c.in-Some.ensures.1) in
    let is : l ≡ get_or lines c.loop-k.k l = subst (λ j. l ≡ get_or lines j l) (sym e) c.index-lines-last.is in
    let at = taken_up known bars are lines c.requires.lines c.loop-k.k c.loop-k.next n l c.loop-k.active.items xs c.deref-2.result.now within is held c.deref-2.ensures.value c.in_ok-take_up.ensures.held c.in_ok-take_up.ensures.later in
    let found = c.in_ok-marks-2.ensures.marks sums room pieces c.requires.floor c.requires.bound (subst (AreAcross sums room pieces l l) (sym c.deref-3.ensures.value) (across_line known bars are n l xs at)) in
    let p = err_from_is_err_and c.from_residual-in_err-add_marks-2.result c.from_residual-in_err-add_marks-2.ensures.1 in
    rw (p.1, p.2) (λ e. many_marks swept known l c.in_ok-marks-2.marks.items within is found (c.in_err-add_marks-2.ensures.many e))

pub returns : goal.returns
returns c =
    let sums = sums_seen c.args.sums.now in
    let room = frame_seen c.args.room in
    let pieces = c.args.pieces.now in
    let lines = c.args.lines.now in
    let known = has_pieces c.requires.floor c.requires.bound in
    let bars = c.in_ok-bars.bars.items in
    let are = c.in_ok-bars.ensures in
    let (swept, upto, held) = c.loop-k.invariant in
    let n = c.in_ok-take_up.field-0 in
    let l = c.index-lines-last.result in
    let xs = c.take_up-2.new.active.items in
    let e : c.loop-k.k ≡ c.in-Some.last = omega arith in
    let within : c.loop-k.k < length c.args.lines.now = omega (arith, e, c.in-Some.ensures.0, c.in-Some.ensures.1) in
    let is : l ≡ get_or lines c.loop-k.k l = subst (λ j. l ≡ get_or lines j l) (sym e) c.index-lines-last.is in
    let at = taken_up known bars are lines c.requires.lines c.loop-k.k c.loop-k.next n l c.loop-k.active.items xs c.deref-2.result.now within is held c.deref-2.ensures.value c.in_ok-take_up.ensures.held c.in_ok-take_up.ensures.later in
    let found = c.in_ok-marks-2.ensures.marks sums room pieces c.requires.floor c.requires.bound (subst (AreAcross sums room pieces l l) (sym c.deref-3.ensures.value) (across_line known bars are n l xs at)) in
    let done = swept_marks swept l c.in_ok-marks-2.marks.items _ _ c.add_marks-2.new.self.size within is found c.in_ok-marks-2.ensures.heights.heights c.in_ok-add_marks-2.ensures.spans c.in_ok-add_marks-2.ensures.marks c.in_ok-add_marks-2.ensures.size c.in_ok-add_marks-2.ensures.most in
    let slabs = swept_all done (omega (arith, e, c.in-Some.ensures.1)) (omega (arith, e, c.in-Some.ensures.0, c.in-Some.ensures.1)) in
    record {
      slabs = slabs;
      size = done.is_size;
      most = done.few;
      rows = rows_found known bars are lines c.requires.lines _ _ slabs (omega (arith, e, done.slabs, c.in-Some.ensures.1)) (omega (arith, e, done.lines_done, c.in-Some.ensures.0, c.in-Some.ensures.1)) (omega (arith, done.is_size, done.few)) done.heights;
      many = tt;
    }
