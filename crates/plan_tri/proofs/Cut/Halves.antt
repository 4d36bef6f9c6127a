-- A polygon that is cut from its least vertex v to the vertex x of the corner: what is known of its two parts, and of itself.
use Rattle.std.proofs.Common.{pos, ◌<ℤ◌, ◌≡◌, ◌≤ℤ◌, List, sym}
use Rattle.std.specs.Prelude.{◌≡◌, pos, ◌≤ℤ◌, ◌<ℤ◌, ◌⊎◌, List, All, Contains, Any}
use Rattle.plan_exact.specs.Vectors.{dot, cross}
use Rattle.plan_exact.proofs.Signs.{le_of_lt, le_of_eq}
use Rattle.plan_exact.proofs.Vectors.{cross_on_left, cross_on_right}
use Rattle.plan_spec.specs.Chain.{IsClosed}
use Rattle.plan_spec.specs.Parity.{parity, xor}
use Rattle.plan_spec.specs.Polygon.{edges}
use Rattle.plan_spec.specs.Segment.{segment, HasPoints, Segment, On}
use Rattle.plan_spec.specs.SimplePolygon.{InPolygon}
use Rattle.plan_spec.specs.Vector.{Vector, IsPoint, turn, Same}
use Rattle.plan_plane.proofs.Segment.Apart.{From, from_both, from_near}
use Rattle.plan_plane.proofs.Near.{step}
use Rattle.plan_plane.proofs.Segment.Between.{between}
use Rattle.plan_plane.proofs.Segment.AtEnds.{second_weight, first_weight, pos_by_second, pos_by_first}
use Rattle.plan_tri.proofs.Corner.Corner.{Corner, RightOf, OutOfWay, Clean, Behind, InCorner}
use Rattle.plan_tri.proofs.Cut.Outside.{OutOf}

-- the parts `one`, from v over w to x, and `two`, from x over u to v
pub record Halves (v w u x g : Vector) (one two : List Vector) : Type 0 where
  pub corner : Corner v w u g
  pub point_x : IsPoint x
  pub after : pos 0 <ℤ turn v w x
  pub before : pos 0 <ℤ turn u v x
  pub at_x : pos 0 ≤ℤ dot g x
  pub steep : ¬ ((cross v x).y ≡ pos 0)
  pub vertices_one : All IsPoint one
  pub points_one : All HasPoints (edges one)
  pub closed_one : IsClosed (edges one)
  pub right_one : All (RightOf v) (edges one)
  pub clear_one : All (OutOfWay v w u g (cross v x)) (edges one)
  pub outside_two : All (λ y. (y ≡ v) ⊎ ((y ≡ x) ⊎ ¬ (InPolygon two y))) one
  pub points_two : All HasPoints (edges two)
  pub closed_two : IsClosed (edges two)
  pub outside_one : All (λ s. (s ≡ segment v x) ⊎ OutOf one v x s) (edges two)
  pub has_diagonal : Contains (edges two) (segment v x)

-- the segment is out of the corner, or behind one of the two lines
abbrev pub OutOfWays : Vector → Vector → Vector → Vector → Vector → Vector → Segment → Type 0
OutOfWays v w u g l m s = Clean v w u g s ⊎ (Behind l s ⊎ Behind m s)

-- and the whole polygon
pub record Whole (v w u x g : Vector) (all one two : List Vector) : Type 0 where
  pub points : All HasPoints (edges all)
  pub closed : IsClosed (edges all)
  pub clear : All (OutOfWays v w u g (cross v w) (cross u v)) (edges all)
  pub clear_two : All (OutOfWays v w u g (cross v x) (cross u v)) (edges two)
  pub vertices_two : All IsPoint two
  pub parities : (z : Vector) → parity (edges all) z ≡ xor (parity (edges one) z) (parity (edges two) z)
  pub has_v : Any (λ s. On s v) (edges all)
  pub has_x : Any (λ s. On s x) (edges all)

-- ---- on the diagonal, and no end of it: in the corner, off its two sides
pub record Inner (v w u g y : Vector) : Type 0 where
  pub after : pos 0 <ℤ turn v w y
  pub before : pos 0 <ℤ turn u v y
  pub within : pos 0 <ℤ dot g y

pub inner : {v w u x g : Vector} {one two : List Vector} → Halves v w u x g one two → (y : Vector) → IsPoint y → On (segment v x) y → ¬ (Same y v) → ¬ (Same y x) → Inner v w u g y
inner {v} {w} {u} {x} {g} h y hy o not_v not_x =
    let b = between v x y h.corner.point_v h.point_x hy o in
    record {
      after = pos_by_second b (cross v w) (second_weight b not_v) (le_of_eq (sym (cross_on_left v w))) h.after;
      before = pos_by_second b (cross u v) (second_weight b not_v) (le_of_eq (sym (cross_on_right u v))) h.before;
      within = pos_by_first b g (first_weight b not_x) h.corner.at_v h.at_x;
    }

-- near such a point the corner
pub from_inner : {v w u g : Vector} (y p : Vector) → Inner v w u g y → From (λ n. Inner v w u g (step n y p))
from_inner {v} {w} {u} {g} y p i =
    let f = from_both (from_near (cross v w) y p i.after) (from_both (from_near (cross u v) y p i.before) (from_near g y p i.within)) in
    record { least = f.least; positive = f.positive; on = λ n large. let k = f.on n large in record { after = k.0; before = k.1.0; within = k.1.1 } }

pub in_corner : {v w u g y : Vector} → Inner v w u g y → InCorner v w u g y
in_corner i = record { after = le_of_lt i.after; before = le_of_lt i.before; within = i.within }
