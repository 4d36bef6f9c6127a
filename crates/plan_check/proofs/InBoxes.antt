-- What a polygon holds is in its box; so where the box of a segment is apart from it, the polygon has no point of the segment, and where it has not all of it, the polygon has not both ends.
use Rattle.std.proofs.Common.{inl, inr, ℤ, pos, ◌≤◌, ◌*ℤ◌, ◌≤ℤ◌, ◌<ℤ◌, List, length, All, arith}
use Rattle.plan_exact.proofs.Laws.{linear}
use Rattle.plan_exact.proofs.Signs.{mul_one, mul_lt_mul}
use Rattle.plan_spec.specs.Vector.{Vector, IsPoint, spot}
use Rattle.plan_spec.specs.Segment.{AnyOn, segment}
use Rattle.plan_spec.specs.Polygon.{Inside, IsConvex}
use Rattle.plan_plane.proofs.Segment.Between.{Between, between, LtX_before, LtX_after, flip, flipped}
use Rattle.plan_grid.specs.declared.frame.Frame.{Frame}
use Rattle.plan_grid.specs.declared.spot.Spot.{Spot}
use Rattle.plan_grid.specs.Spot.{spots_seen}
use Rattle.plan_convex.specs.Boxes.{AreApart, Encloses}
use Rattle.plan_convex.proofs.InBox.{IsIn, inside_is_in}
use Rattle.plan_check.specs.Boxes.{IsWholeBox, HoldsBox, HoldsBoth}

-- a polygon of three vertices at least, and a box that encloses them
pub record IsBoxed (polygon : List Spot) (box : Frame) : Type 0 where
  pub convex : IsConvex (spots_seen polygon)
  pub three : 3 ≤ length polygon
  pub enclosed : All (Encloses box) polygon

-- ---- both ends
pub holds_whole_box : (polygon : List Spot) (box reach : Frame) (p q : Vector) → IsBoxed polygon box → IsWholeBox p q reach → HoldsBoth p q (spots_seen polygon) → HoldsBox box reach
holds_whole_box polygon box reach p q b whole (hp, hq) =
    let i = inside_is_in polygon box p b.convex b.three b.enclosed hp in
    let j = inside_is_in polygon box q b.convex b.three b.enclosed hq in
    (((whole.left box.low.x).1 (i.left, j.left), (whole.below box.low.y).1 (i.below, j.below)), ((whole.right box.high.x).1 (i.right, j.right), (whole.above box.high.y).1 (i.above, j.above)))

-- ---- a point of the segment
-- where the two ends are at most a, and a is below m, what is between them is below m; and the other way round
all_before : (p q z : Vector) (a m : ℤ) → IsPoint p → IsPoint q → IsPoint z → Between p q z → p.x ≤ℤ (a *ℤ p.w) → q.x ≤ℤ (a *ℤ q.w) → a <ℤ m → ¬ ((m *ℤ z.w) ≤ℤ z.x)
all_before p q z a m hp hq hz b np nq lt h =
    let before = LtX_before hz b (spot m (pos 0)) (omega (arith, linear, mul_one p.x, np, mul_lt_mul p.w hp lt)) (omega (arith, linear, mul_one q.x, nq, mul_lt_mul q.w hq lt)) in
    omega (arith, linear, mul_one z.x, before, h)

all_after : (p q z : Vector) (a m : ℤ) → IsPoint p → IsPoint q → IsPoint z → Between p q z → (a *ℤ p.w) ≤ℤ p.x → (a *ℤ q.w) ≤ℤ q.x → m <ℤ a → ¬ (z.x ≤ℤ (m *ℤ z.w))
all_after p q z a m hp hq hz b np nq lt h =
    let after = LtX_after hz b (spot m (pos 0)) (omega (arith, linear, mul_one p.x, np, mul_lt_mul p.w hp lt)) (omega (arith, linear, mul_one q.x, nq, mul_lt_mul q.w hq lt)) in
    omega (arith, linear, mul_one z.x, after, h)

pub apart : (polygon : List Spot) (box reach : Frame) (p q : Vector) → IsBoxed polygon box → IsWholeBox p q reach → IsPoint p → IsPoint q → AreApart reach box → ¬ (AnyOn (Inside (spots_seen polygon)) (segment p q))
apart polygon box reach p q b whole hp hq far (z, hz, on, inside) = by far
  where
    i : IsIn box z
    i = inside_is_in polygon box z b.convex b.three b.enclosed inside

    m : Between p q z
    m = between p q z hp hq hz on

    same : {n : ℤ} → n ≤ℤ n
    same = omega (arith, linear)

    by : AreApart reach box → ⊥
    by (inl (inl lt)) = let k = (whole.right reach.high.x).0 same in all_before p q z reach.high.x box.low.x hp hq hz m k.0 k.1 lt i.left
    by (inl (inr lt)) = let k = (whole.above reach.high.y).0 same in all_before (flip p) (flip q) (flip z) reach.high.y box.low.y hp hq hz (flipped m) k.0 k.1 lt i.below
    by (inr (inl lt)) = let k = (whole.left reach.low.x).0 same in all_after p q z reach.low.x box.high.x hp hq hz m k.0 k.1 lt i.right
    by (inr (inr lt)) = let k = (whole.below reach.low.y).0 same in all_after (flip p) (flip q) (flip z) reach.low.y box.high.y hp hq hz (flipped m) k.0 k.1 lt i.above
