-- The one at hand is free, and is one more, or it is not.
use Rattle.std.proofs.Common.{◌≡◌, Bool, true, false, ◌+◌, ◌-◌, ◌<◌, length, map, refl, sym, subst, arith}
use Rattle.std.specs.List.{range_with_len}
use Rattle.std.proofs.lemmas.List.{length-map}
use Rattle.plan_exact.proofs.Laws.{linear}
use Rattle.plan_spec.specs.Regions.{Kept, none, wall}
use Rattle.plan_spec.specs.Vector.{IsPoint}
use Rattle.plan_spec.specs.Boundary.{IsClearOf}
use Rattle.plan_grid.specs.Fraction.{point_at}
use Rattle.plan_grid.specs.Frame.{frame_seen}
use Rattle.plan_convex.specs.Piece.{sums_seen}
use Rattle.plan_slab.specs.Seen.{marks_seen, line_seen, lot_seen}
use Rattle.plan_slab.specs.FreeLots.{IsFreeWall}
use Rattle.plan_slab.specs.Heights.{IsHeight}
use Rattle.plan_slab.proofs.Boxes.{near_at}
use Rattle.plan_slab.proofs.FreeLots.{one_more, one_less, wall_point_at, wall_clear}
use Rattle.plan_slab.proofs.free.free_walls.Goals as goal
use Rattle.plan_slab.proofs.free.free_walls.Goals.{then-is_clear+in_ok-push, else-is_clear}

-- a test is not both
not_both : {b : Bool} → b ≡ true → ¬ (b ≡ false)
not_both t f = cc

pub near-requires-clause-boxes : goal.near-requires-clause-boxes
near-requires-clause-boxes c = c.requires.boxes.bounded

pub bounds-marks-i : goal.bounds-marks-i
bounds-marks-i c = omega (arith, c.loop-i-test.true, c.saturating_sub-count.ensures)

pub bounds-marks-i-in-loop-i : goal.bounds-marks-i-in-loop-i
bounds-marks-i-in-loop-i c = omega (arith, c.loop-i-test.true, c.saturating_sub-count.ensures)

pub overflow_add-i : goal.overflow_add-i
overflow_add-i c = omega (arith, c.loop-i-test.true, c.saturating_sub-count.ensures, c.requires.few)

pub overflow_cast-i : goal.overflow_cast-i
overflow_cast-i c = omega (arith, c.loop-i-test.true, c.saturating_sub-count.ensures, c.requires.few)

pub wall_point-z-requires-clause-low : goal.wall_point-z-requires-clause-low
wall_point-z-requires-clause-low c = subst IsHeight (sym c.index-marks-i.is) (c.requires.heights c.loop-i.i c.index-marks-i.result (omega (arith, c.loop-i-test.true, c.saturating_sub-count.ensures)))

pub wall_point-z-requires-clause-high : goal.wall_point-z-requires-clause-high
wall_point-z-requires-clause-high c = subst IsHeight (sym c.index-marks-i-in-loop-i.is) (c.requires.heights (c.loop-i.i + 1) c.index-marks-i-in-loop-i.result (omega (arith, c.loop-i-test.true, c.saturating_sub-count.ensures)))

pub loop-i-init : goal.loop-i-init
loop-i-init c = rw c.new-found.ensures.items none

pub is_clear-requires-clause-near : goal.is_clear-requires-clause-near
is_clear-requires-clause-near c =
    let z = c.wall_point-z.result in
    let hz : IsPoint z = omega (arith, linear, c.wall_point-z.ensures.bounded.weight) in
    let hx : IsPoint (line_seen c.args.x) = omega (arith, linear, c.requires.x.ratio.positive) in
    rw c.deref.ensures.value (near_at c.args.boxes.now (line_seen c.args.x) z c.in_ok-near.near.items hx hz c.wall_point-z.ensures.same_x (rw c.on_axis.ensures.value at c.in_ok-near.ensures))

pub loop-i-preserved : goal.loop-i-preserved
loop-i-preserved c =
    let l = c.args.x in
    let m = c.index-marks-i.result in
    let n = c.index-marks-i-in-loop-i.result in
    let within : c.loop-i.i + 1 < length c.args.marks.now = omega (arith, c.loop-i-test.true, c.saturating_sub-count.ensures) in
    let hz : IsPoint c.wall_point-z.result = omega (arith, linear, c.wall_point-z.ensures.bounded.weight) in
    let hm = subst IsHeight (sym c.index-marks-i.is) (c.requires.heights c.loop-i.i m (omega arith)) in
    let hn = subst IsHeight (sym c.index-marks-i-in-loop-i.is) (c.requires.heights (c.loop-i.i + 1) n within) in
    let alike = wall_clear l m n c.wall_point-z.result c.requires.x hm hn hz c.wall_point-z.ensures.same (sums_seen c.args.sums.now) c.args.room in
    let P = IsFreeWall (sums_seen c.args.sums.now) (frame_seen c.args.room) (marks_seen l c.args.marks.now) in
    let e = wall_point_at l c.args.marks.now c.loop-i.i m n within c.index-marks-i.is c.index-marks-i-in-loop-i.is in
    elim c.if-is_clear.branch [
      | then-is_clear+in_ok-push w ↦ rw (w.found-is, w.in_ok-push.ensures.items) (one_more P (wall c.args.line) c.loop-i.i c.loop-i.found.items c.loop-i.invariant _ refl (subst (IsClearOf (sums_seen c.args.sums.now) (frame_seen c.args.room)) e (alike.0 (c.is_clear.ensures.0 w.if-is_clear.true))))
      | else-is_clear w ↦ rw w.found-is (one_less P (wall c.args.line) c.loop-i.i c.loop-i.found.items c.loop-i.invariant (λ clear. not_both (c.is_clear.ensures.1 (alike.1 (subst (IsClearOf (sums_seen c.args.sums.now) (frame_seen c.args.room)) (sym e) clear))) w.if-is_clear.false))
    ]

pub returns : goal.returns
returns c =
    let done : c.loop-i.i ≡ length (marks_seen c.args.x c.args.marks.now) - 1 = omega (arith, c.loop-i-test.false, c.loop-i.auto.i-end, c.saturating_sub-count.ensures, length-map c.args.marks.now (point_at c.args.x)) in
    subst (λ n. Kept (IsFreeWall (sums_seen c.args.sums.now) (frame_seen c.args.room) (marks_seen c.args.x c.args.marks.now)) (map (wall c.args.line) (range_with_len 0 n)) (map lot_seen c.loop-i.found.items)) done c.loop-i.invariant
