-- The corner of a polygon at its least vertex v, between the next vertex w and the last one u, as far as the covector g is positive: it is convex, and has v.
use Rattle.std.proofs.Common.{ℤ, pos, ◌≤ℤ◌, arith, sym}
use Rattle.std.specs.Prelude.{pos, ◌≤ℤ◌, ◌<ℤ◌, ◌⊎◌}
use Rattle.plan_exact.specs.Vectors.{dot, cross}
use Rattle.plan_exact.proofs.Laws.{linear}
use Rattle.plan_exact.proofs.Signs.{mul_nonneg, le_of_eq}
use Rattle.plan_exact.proofs.Vectors.{cross_on_left, cross_on_right}
use Rattle.plan_spec.specs.Segment.{Segment, On}
use Rattle.plan_spec.specs.Vector.{Vector, turn, IsPoint, LeX}
use Rattle.plan_plane.proofs.Near.{step, nonneg_step, step_value}
use Rattle.plan_plane.proofs.Segment.Between.{Between, nonneg_at, pos_at}

pub record InCorner (v w u g z : Vector) : Type 0 where
  pub after : pos 0 ≤ℤ turn v w z
  pub before : pos 0 ≤ℤ turn u v z
  pub within : pos 0 <ℤ dot g z

-- no point of the segment is in the corner
abbrev pub Clean : Vector → Vector → Vector → Vector → Segment → Type 0
Clean v w u g s = (z : Vector) → IsPoint z → On s z → ¬ (InCorner v w u g z)

-- l is not positive on the segment
pub record Behind (l : Vector) (s : Segment) : Type 0 where
  pub first : dot l s.a ≤ℤ pos 0
  pub second : dot l s.b ≤ℤ pos 0

-- v, w and u turn left at v, and g is positive at v
pub record Corner (v w u g : Vector) : Type 0 where
  pub point_v : IsPoint v
  pub point_w : IsPoint w
  pub point_u : IsPoint u
  pub turns_left : pos 0 <ℤ turn u v w
  pub at_v : pos 0 <ℤ dot g v

abbrev pub RightOf : Vector → Segment → Type 0
RightOf v s = LeX v s.a × LeX v s.b

-- the segment is out of the corner, or l is not positive on it
abbrev pub OutOfWay : Vector → Vector → Vector → Vector → Vector → Segment → Type 0
OutOfWay v w u g l s = Clean v w u g s ⊎ Behind l s

-- ---- the corner is convex, and has v
pub corner_between : {v w u g p q z : Vector} → IsPoint z → Between p q z → InCorner v w u g p → InCorner v w u g q → InCorner v w u g z
corner_between {v} {w} {u} {g} hz b hp hq = record {
  after = nonneg_at b (cross v w) hp.after hq.after;
  before = nonneg_at b (cross u v) hp.before hq.before;
  within = pos_at hz b g hp.within hq.within;
}

pub v_in_corner : {v w u g : Vector} → Corner v w u g → InCorner v w u g v
v_in_corner {v} {w} {u} k = record { after = le_of_eq (sym (cross_on_left v w)); before = le_of_eq (sym (cross_on_right u v)); within = k.at_v }

pub towards_v : {v w u g z : Vector} → Corner v w u g → (n : ℤ) → pos 1 ≤ℤ n → InCorner v w u g z → InCorner v w u g (step n v z)
towards_v {v} {w} {u} {g} {z} k n hn h =
    let at = v_in_corner k in
    let m : pos 0 ≤ℤ n = omega (arith, linear) in
    let j : pos 0 ≤ℤ dot g v = let i = at.within in omega (arith, linear) in
    record {
      after = nonneg_step (cross v w) v z n m at.after h.after;
      before = nonneg_step (cross u v) v z n m at.before h.before;
      within = let i = h.within in omega (arith, linear, step_value n v z g, mul_nonneg m j);
    }
