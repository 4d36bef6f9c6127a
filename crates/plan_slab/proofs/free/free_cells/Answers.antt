-- The one at hand is free, and is one more, or it is not.
use Rattle.std.proofs.Common.{◌≡◌, Bool, true, false, ◌+◌, ◌-◌, length, map, refl, sym, subst, arith}
use Rattle.std.specs.List.{range_with_len}
use Rattle.std.proofs.lemmas.List.{length-map}
use Rattle.plan_exact.proofs.Laws.{linear}
use Rattle.plan_spec.specs.Regions.{Kept, none, cell}
use Rattle.plan_spec.specs.Vector.{IsPoint}
use Rattle.plan_spec.specs.Boundary.{IsClearOf}
use Rattle.plan_grid.specs.Frame.{frame_seen}
use Rattle.plan_convex.specs.Piece.{sums_seen}
use Rattle.plan_slab.specs.Seen.{strand_seen, lot_seen}
use Rattle.plan_slab.specs.FreeLots.{IsFreeCell}
use Rattle.plan_slab.proofs.Boxes.{near_at}
use Rattle.plan_slab.proofs.FreeLots.{one_more, one_less, cell_point_at}
use Rattle.plan_slab.proofs.free.free_cells.Goals as goal
use Rattle.plan_slab.proofs.free.free_cells.Goals.{then-is_clear+in_ok-push, else-is_clear}

-- a test is not both
not_both : {b : Bool} → b ≡ true → ¬ (b ≡ false)
not_both t f = cc

pub near-requires-clause-boxes : goal.near-requires-clause-boxes
near-requires-clause-boxes c = c.requires.boxes.bounded

pub near-requires-clause-bounded : goal.near-requires-clause-bounded
near-requires-clause-bounded c = let h = c.requires.bounded in record { weight = h.weight; weight_bounded = omega (arith, h.weight_bounded); x_bounded = h.x_bounded; y_bounded = h.y_bounded }

pub bounds-spans-i : goal.bounds-spans-i
bounds-spans-i c = omega (arith, c.loop-i-test.true, c.saturating_sub-count.ensures)

pub bounds-spans-i-in-loop-i : goal.bounds-spans-i-in-loop-i
bounds-spans-i-in-loop-i c = omega (arith, c.loop-i-test.true, c.saturating_sub-count.ensures)

pub overflow_add-i : goal.overflow_add-i
overflow_add-i c = omega (arith, c.loop-i-test.true, c.saturating_sub-count.ensures, c.requires.few)

pub overflow_cast-i : goal.overflow_cast-i
overflow_cast-i c = omega (arith, c.loop-i-test.true, c.saturating_sub-count.ensures, c.requires.few)

pub cell_point-z-requires-clause-low : goal.cell_point-z-requires-clause-low
cell_point-z-requires-clause-low c = c.requires.over c.loop-i.i _ (omega (arith, c.loop-i-test.true, c.saturating_sub-count.ensures))

pub cell_point-z-requires-clause-high : goal.cell_point-z-requires-clause-high
cell_point-z-requires-clause-high c = c.requires.over (c.loop-i.i + 1) _ (omega (arith, c.loop-i-test.true, c.saturating_sub-count.ensures))

pub loop-i-init : goal.loop-i-init
loop-i-init c = rw c.new-found.ensures.items none

pub is_clear-requires-clause-near : goal.is_clear-requires-clause-near
is_clear-requires-clause-near c =
    let z = c.cell_point-z.result in
    let hz : IsPoint z = omega (arith, linear, c.cell_point-z.ensures.bounded.weight) in
    let hx : IsPoint c.args.x = omega (arith, linear, c.requires.bounded.weight) in
    rw c.deref.ensures.value (near_at c.args.boxes.now c.args.x z c.in_ok-near.near.items hx hz c.cell_point-z.ensures.same_x c.in_ok-near.ensures)

pub loop-i-preserved : goal.loop-i-preserved
loop-i-preserved c =
    let P = IsFreeCell (sums_seen c.args.sums.now) (frame_seen c.args.room) c.args.x (map strand_seen c.args.spans.now) in
    let e = cell_point_at c.args.spans.now c.args.x c.loop-i.i _ _ c.cell_point-z.result (omega (arith, c.loop-i-test.true, c.saturating_sub-count.ensures)) c.cell_point-z.ensures.value in
    elim c.if-is_clear.branch [
      | then-is_clear+in_ok-push w ↦ rw (w.found-is, w.in_ok-push.ensures.items) (one_more P (cell c.args.slab) c.loop-i.i c.loop-i.found.items c.loop-i.invariant _ refl (subst (IsClearOf (sums_seen c.args.sums.now) (frame_seen c.args.room)) e (c.is_clear.ensures.0 w.if-is_clear.true)))
      | else-is_clear w ↦ rw w.found-is (one_less P (cell c.args.slab) c.loop-i.i c.loop-i.found.items c.loop-i.invariant (λ clear. not_both (c.is_clear.ensures.1 (subst (IsClearOf (sums_seen c.args.sums.now) (frame_seen c.args.room)) (sym e) clear)) w.if-is_clear.false))
    ]

pub returns : goal.returns
returns c =
    let done : c.loop-i.i ≡ length (map strand_seen c.args.spans.now) - 1 = omega (arith, c.loop-i-test.false, c.loop-i.auto.i-end, c.saturating_sub-count.ensures, length-map c.args.spans.now strand_seen) in
    subst (λ n. Kept (IsFreeCell (sums_seen c.args.sums.now) (frame_seen c.args.room) c.args.x (map strand_seen c.args.spans.now)) (map (cell c.args.slab) (range_with_len 0 n)) (map lot_seen c.loop-i.found.items)) done c.loop-i.invariant
