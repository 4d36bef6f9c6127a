-- A box that is made larger for a spot encloses it and all that it enclosed; and where the boxes of an edge and of a polygon are apart, the polygon has no point of the edge, since the line of a side of the polygon's box has them on different sides.
use Rattle.std.proofs.Common.{inl, inr, pos, ◌≤◌, ◌≤ℤ◌, ◌<ℤ◌, List, length, All, arith}
use Rattle.std.proofs.lemmas.Int.{ints, int_min_is, int_max_is}
use Rattle.std.proofs.lemmas.List.Elements.{All-map}
use Rattle.std.proofs.lemmas.List.{length-map}
use Rattle.plan_exact.specs.Vectors.{dot}
use Rattle.plan_exact.proofs.Laws.{linear}
use Rattle.plan_spec.specs.Vector.{Vector, IsPoint}
use Rattle.plan_spec.specs.Segment.{On, segment}
use Rattle.plan_spec.specs.Polygon.{Inside, IsConvex}
use Rattle.plan_plane.proofs.Boundary.Blocks.{below, beyond_right, above, beyond_left, below_is, right_is, above_is, left_is}
use Rattle.plan_plane.proofs.Polygon.Fan.{nonneg_at}
use Rattle.plan_plane.proofs.Segment.Between.{between, neg_at}
use Rattle.plan_grid.specs.declared.frame.Frame.{Frame}
use Rattle.plan_grid.specs.declared.spot.Spot.{Spot}
use Rattle.plan_grid.specs.Spot.{spot_seen, spots_seen, edge_seen, least, greatest}
use Rattle.plan_convex.specs.Boxes.{AreApart, Encloses}

-- ---- the box with one spot more
abbrev pub grown : Spot → Spot → Spot → Frame
grown low high s = record { low = least low s; high = greatest high s }

pub still_enclosed : (low high s r : Spot) → Encloses (record { low = low; high = high }) r → Encloses (grown low high s) r
still_enclosed low high s r e = record {
  left = omega (arith, ints, int_min_is low.x s.x, e.left);
  right = omega (arith, ints, int_max_is high.x s.x, e.right);
  below = omega (arith, ints, int_min_is low.y s.y, e.below);
  above = omega (arith, ints, int_max_is high.y s.y, e.above);
}

pub now_enclosed : (low high s : Spot) → Encloses (grown low high s) s
now_enclosed low high s = record {
  left = omega (arith, ints, int_min_is low.x s.x);
  right = omega (arith, ints, int_max_is high.x s.x);
  below = omega (arith, ints, int_min_is low.y s.y);
  above = omega (arith, ints, int_max_is high.y s.y);
}

-- ---- apart
-- a covector that is nowhere negative at the vertices, and negative at both ends
parted : (vs : List Vector) (p q l z : Vector) → IsConvex vs → 3 ≤ length vs → IsPoint p → IsPoint q → IsPoint z → All (λ v. pos 0 ≤ℤ dot l v) vs → dot l p <ℤ pos 0 → dot l q <ℤ pos 0 → On (segment p q) z → ¬ (Inside vs z)
parted vs p q l z convex long hp hq hz within np nq on inside =
    let n = neg_at hz (between p q z hp hq hz on) l np nq in
    let m = nonneg_at vs z convex long inside l within in
    omega (arith, linear)

pub apart : (polygon : List Spot) (a b : Spot) (box span : Frame) (z : Vector) → IsConvex (spots_seen polygon) → 3 ≤ length polygon → All (Encloses box) polygon → Encloses span a → Encloses span b → AreApart span box
    → IsPoint z → On (edge_seen a b) z → ¬ (Inside (spots_seen polygon) z)
apart polygon a b box span z convex three boxed ha hb h hz on = by h
  where
    long : 3 ≤ length (spots_seen polygon)
    long = omega (arith, length-map polygon spot_seen)

    at : (l : Vector) → ((s : Spot) → Encloses box s → pos 0 ≤ℤ dot l (spot_seen s)) → dot l (spot_seen a) <ℤ pos 0 → dot l (spot_seen b) <ℤ pos 0 → ¬ (Inside (spots_seen polygon) z)
    at l f na nb = parted (spots_seen polygon) (spot_seen a) (spot_seen b) l z convex long (omega (arith, linear)) (omega (arith, linear)) hz (All-map (λ v. pos 0 ≤ℤ dot l v) spot_seen polygon (λ k d within. f _ (boxed k d within))) na nb on

    by : AreApart span box → ¬ (Inside (spots_seen polygon) z)
    by (inl (inl h)) =
        let f = λ (s : Spot). right_is box.low.x (spot_seen s) in
        at (beyond_right box.low.x) (λ s e. omega (arith, linear, f s, e.left)) (omega (arith, linear, f a, ha.right)) (omega (arith, linear, f b, hb.right))
    by (inl (inr h)) =
        let f = λ (s : Spot). above_is box.low.y (spot_seen s) in
        at (above box.low.y) (λ s e. omega (arith, linear, f s, e.below)) (omega (arith, linear, f a, ha.above)) (omega (arith, linear, f b, hb.above))
    by (inr (inl h)) =
        let f = λ (s : Spot). left_is box.high.x (spot_seen s) in
        at (beyond_left box.high.x) (λ s e. omega (arith, linear, f s, e.right)) (omega (arith, linear, f a, ha.left)) (omega (arith, linear, f b, hb.left))
    by (inr (inr h)) =
        let f = λ (s : Spot). below_is box.high.y (spot_seen s) in
        at (below box.high.y) (λ s e. omega (arith, linear, f s, e.above)) (omega (arith, linear, f a, ha.below)) (omega (arith, linear, f b, hb.below))
