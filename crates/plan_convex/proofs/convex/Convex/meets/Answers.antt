-- A test that passes rules out a common point, and where none passes there is one.
use Rattle.std.proofs.Common.{subst, refl}
use Rattle.plan_plane.proofs.Polygon.Meeting.{MeetsSegment}
use Rattle.plan_grid.specs.Spot.{spots_seen}
use Rattle.plan_convex.proofs.Meeting.{is_point, right_of_edge, left_of_line, last_test}
use Rattle.plan_convex.proofs.convex.Convex.meets.Goals as goal

pub returns-then-is_right_of_edge : goal.returns-then-is_right_of_edge
returns-then-is_right_of_edge c =
    let p = c.args.p.now in
    let q = c.args.q.now in
    let value = c.spots-spots.ensures.value in
    let apart = right_of_edge c.spots-spots.result.now p q (is_point p c.w.ensures.in_range) (is_point q c.w-2.ensures.in_range) (c.if-is_right_of_edge.ensures.0 refl) in
    (λ e. absurd cc, λ m. absurd (subst (λ spots. ¬ (MeetsSegment (spots_seen spots) p q)) value apart m))

pub returns-then-are_all : goal.returns-then-are_all
returns-then-are_all c =
    let p = c.args.p.now in
    let q = c.args.q.now in
    let s = c.spots-spots.ensures in
    (λ e. absurd cc, λ m. absurd (left_of_line c.args.self.now p q s.convex s.at_least_three (rw s.value at (c.if-are_all.ensures.0 refl)) m))

pub returns : goal.returns
returns c =
    let p = c.args.p.now in
    let q = c.args.q.now in
    let s = c.spots-spots.ensures in
    last_test c.args.self.now p q s.convex s.at_least_three (is_point p c.w.ensures.in_range) (is_point q c.w-2.ensures.in_range)
    c.is_right_of_edge.result c.are_all.result c.are_all-2.result c.if-is_right_of_edge.false c.if-are_all.false
    (rw s.value at c.is_right_of_edge.ensures) (rw s.value at c.are_all.ensures) (rw s.value at c.are_all-2.ensures)
