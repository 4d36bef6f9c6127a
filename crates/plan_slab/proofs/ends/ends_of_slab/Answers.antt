-- The numbers on the left, and those on the right.
use Rattle.std.proofs.Common.{◌≡◌, ◌+◌, ◌<◌, ◌≤◌, [], length, map, get_or, All, sym, ◌∙◌, subst, arith}
use Rattle.std.proofs.lemmas.List.{length-map}
use Rattle.plan_slab.specs.Ends.{AreMeets, ArePairs}
use Rattle.plan_slab.specs.EventLines.{IsLine}
use Rattle.plan_slab.specs.Heights.{IsHeight}
use Rattle.plan_slab.specs.Seen.{strand_seen, marks_seen}
use Rattle.plan_slab.proofs.SlabEnds.{spotted, left_marks, left_in_order, right_marks, right_in_order, ends_of_spans}
use Rattle.plan_slab.proofs.SlabsSeen.{row_at}
use Rattle.plan_slab.proofs.ends.ends_of_slab.Goals as goal
use Rattle.plan_slab.proofs.ends.ends_of_slab.Goals.{After-deref-2, After-deref-4}

-- ---- the numbers are of lines, spans and marks
pub bounds-lines-k : goal.bounds-lines-k
bounds-lines-k c = omega (arith, c.requires.slab, c.requires.rows.slab_count, length-map c.args.spans.now (λ v. v.items))

pub bounds-lines-k-2 : goal.bounds-lines-k-2
bounds-lines-k-2 c = omega (arith, c.requires.slab, c.requires.rows.slab_count, length-map c.args.spans.now (λ v. v.items))

pub bounds-marks-k : goal.bounds-marks-k
bounds-marks-k c = omega (arith, c.requires.slab, c.requires.rows.slab_count, c.requires.rows.line_count, length-map c.args.spans.now (λ v. v.items), length-map c.args.marks.now (λ v. v.items))

pub bounds-marks-k-2 : goal.bounds-marks-k-2
bounds-marks-k-2 c = omega (arith, c.requires.slab, c.requires.rows.slab_count, c.requires.rows.line_count, length-map c.args.spans.now (λ v. v.items), length-map c.args.marks.now (λ v. v.items))

pub overflow_add-k : goal.overflow_add-k
overflow_add-k c = omega (arith, c.requires.slab, c.requires.rows.slab_count, c.requires.rows.few_lines, length-map c.args.spans.now (λ v. v.items))

pub overflow_add-k-2 : goal.overflow_add-k-2
overflow_add-k-2 c = omega (arith, c.requires.slab, c.requires.rows.slab_count, c.requires.rows.few_lines, length-map c.args.spans.now (λ v. v.items))

pub numbers_on-requires-clause-line : goal.numbers_on-requires-clause-line
numbers_on-requires-clause-line c = subst IsLine (sym c.index-lines-k.is) (c.requires.rows.each_line c.args.k c.index-lines-k.result (omega (arith, c.requires.slab, c.requires.rows.slab_count, length-map c.args.spans.now (λ v. v.items))))

pub numbers_on-requires-2-clause-line : goal.numbers_on-requires-2-clause-line
numbers_on-requires-2-clause-line c = subst IsLine (sym c.index-lines-k-2.is) (c.requires.rows.each_line (c.args.k + 1) c.index-lines-k-2.result (omega (arith, c.requires.slab, c.requires.rows.slab_count, length-map c.args.spans.now (λ v. v.items))))

-- ---- on the left
module _ (c : After-deref-2) where
  here : c.args.k < length (map (λ v. v.items) c.args.spans.now)
  here = omega (arith, c.requires.slab, length-map c.args.spans.now (λ v. v.items))

  line : c.args.k < length c.args.marks.now
  line = let rows = c.requires.rows in omega (arith, rows.slab_count, rows.line_count, here, length-map c.args.marks.now (λ v. v.items))

  spans_row : c.deref.result.now ≡ get_or (map (λ v. v.items) c.args.spans.now) c.args.k []
  spans_row = row_at (λ v. v.items) c.args.spans.now c.args.k c.index-spans-k.result c.deref.result.now c.requires.slab c.index-spans-k.is c.deref.ensures.value

  marks_row : c.deref-2.result.now ≡ get_or (map (λ v. v.items) c.args.marks.now) c.args.k []
  marks_row = row_at (λ v. v.items) c.args.marks.now c.args.k c.index-marks-k.result c.deref-2.result.now line c.index-marks-k.is c.deref-2.ensures.value

pub numbers_on-requires-clause-spots : goal.numbers_on-requires-clause-spots
numbers_on-requires-clause-spots c = spotted c.args.lines.now (map (λ v. v.items) c.args.spans.now) (map (λ v. v.items) c.args.marks.now) c.requires.rows c.requires.order c.args.k (here c) c.deref.result.now (spans_row c)

pub numbers_on-requires-clause-heights : goal.numbers_on-requires-clause-heights
numbers_on-requires-clause-heights c = subst (All IsHeight) (sym (marks_row c)) (c.requires.rows.heights c.args.k [] (omega (arith, line c, length-map c.args.marks.now (λ v. v.items))))

pub numbers_on-requires-clause-few : goal.numbers_on-requires-clause-few
numbers_on-requires-clause-few c = subst (λ ms. length ms ≤ 131072) (sym (marks_row c)) (c.requires.rows.few_marks c.args.k [] (omega (arith, line c, length-map c.args.marks.now (λ v. v.items))))

pub numbers_on-requires-clause-order : goal.numbers_on-requires-clause-order
numbers_on-requires-clause-order c = left_in_order c.args.lines.now (map (λ v. v.items) c.args.spans.now) (map (λ v. v.items) c.args.marks.now) c.requires.rows c.requires.order c.args.k (here c) c.deref.result.now (spans_row c) c.index-lines-k.result c.deref-2.result.now c.index-lines-k.is (marks_row c)

-- ---- on the right
module _ (c : After-deref-4) where
  there : c.args.k < length (map (λ v. v.items) c.args.spans.now)
  there = omega (arith, c.requires.slab, length-map c.args.spans.now (λ v. v.items))

  next_line : c.args.k + 1 < length c.args.marks.now
  next_line = let rows = c.requires.rows in omega (arith, rows.slab_count, rows.line_count, there, length-map c.args.marks.now (λ v. v.items))

  same_row : c.deref-3.result.now ≡ get_or (map (λ v. v.items) c.args.spans.now) c.args.k []
  same_row = row_at (λ v. v.items) c.args.spans.now c.args.k c.index-spans-k-2.result c.deref-3.result.now c.requires.slab c.index-spans-k-2.is c.deref-3.ensures.value

  next_row : c.deref-4.result.now ≡ get_or (map (λ v. v.items) c.args.marks.now) (c.args.k + 1) []
  next_row = row_at (λ v. v.items) c.args.marks.now (c.args.k + 1) c.index-marks-k-2.result c.deref-4.result.now next_line c.index-marks-k-2.is c.deref-4.ensures.value

pub numbers_on-requires-2-clause-spots : goal.numbers_on-requires-2-clause-spots
numbers_on-requires-2-clause-spots c = spotted c.args.lines.now (map (λ v. v.items) c.args.spans.now) (map (λ v. v.items) c.args.marks.now) c.requires.rows c.requires.order c.args.k (there c) c.deref-3.result.now (same_row c)

pub numbers_on-requires-2-clause-heights : goal.numbers_on-requires-2-clause-heights
numbers_on-requires-2-clause-heights c = subst (All IsHeight) (sym (next_row c)) (c.requires.rows.heights (c.args.k + 1) [] (omega (arith, next_line c, length-map c.args.marks.now (λ v. v.items))))

pub numbers_on-requires-2-clause-few : goal.numbers_on-requires-2-clause-few
numbers_on-requires-2-clause-few c = subst (λ ms. length ms ≤ 131072) (sym (next_row c)) (c.requires.rows.few_marks (c.args.k + 1) [] (omega (arith, next_line c, length-map c.args.marks.now (λ v. v.items))))

pub numbers_on-requires-2-clause-order : goal.numbers_on-requires-2-clause-order
numbers_on-requires-2-clause-order c = right_in_order c.args.lines.now (map (λ v. v.items) c.args.spans.now) (map (λ v. v.items) c.args.marks.now) c.requires.rows c.requires.order c.args.k (there c) c.deref-3.result.now (same_row c) c.index-lines-k-2.result c.deref-4.result.now c.index-lines-k-2.is (next_row c)

-- ---- both
pub returns : goal.returns
returns c =
    let lines = c.args.lines.now in
    let spans = map (λ v. v.items) c.args.spans.now in
    let marks = map (λ v. v.items) c.args.marks.now in
    let rows = c.requires.rows in
    let order = c.requires.order in
    let k = c.args.k in
    let ss = c.deref.result.now in
    let ms = c.deref-2.result.now in
    let ns = c.deref-4.result.now in
    let l = c.index-lines-k.result in
    let r = c.index-lines-k-2.result in
    let hk : k < length spans = omega (arith, c.requires.slab, length-map c.args.spans.now (λ v. v.items)) in
    let hm : k + 1 < length c.args.marks.now = omega (arith, rows.slab_count, rows.line_count, hk, length-map c.args.marks.now (λ v. v.items)) in
    let es = row_at (λ v. v.items) c.args.spans.now k c.index-spans-k.result ss c.requires.slab c.index-spans-k.is c.deref.ensures.value in
    let same = row_at (λ v. v.items) c.args.spans.now k c.index-spans-k-2.result c.deref-3.result.now c.requires.slab c.index-spans-k-2.is c.deref-3.ensures.value ∙ sym es in
    let em = row_at (λ v. v.items) c.args.marks.now k c.index-marks-k.result ms (omega (arith, hm)) c.index-marks-k.is c.deref-2.ensures.value in
    let en = row_at (λ v. v.items) c.args.marks.now (k + 1) c.index-marks-k-2.result ns hm c.index-marks-k-2.is c.deref-4.ensures.value in
    let pairs : ArePairs c.in_ok-lefts.lefts.items c.in_ok-rights.rights.items c.in_ok-ends.ends.items = rw (c.deref-5.ensures.value, c.deref-6.ensures.value) at c.in_ok-ends.ensures in
    let rights : AreMeets (map strand_seen ss) (marks_seen r ns) c.in_ok-rights.rights.items = subst (λ ts. AreMeets (map strand_seen ts) (marks_seen r ns) c.in_ok-rights.rights.items) same c.in_ok-rights.ensures in
    ends_of_spans lines spans marks rows order k hk ss es (marks_seen l ms) (marks_seen r ns) c.in_ok-lefts.lefts.items c.in_ok-rights.rights.items c.in_ok-ends.ends.items
    (left_marks lines spans marks rows order k hk ss es l ms c.index-lines-k.is em) (right_marks lines spans marks rows order k hk ss es r ns c.index-lines-k-2.is en) c.in_ok-lefts.ensures rights pairs
