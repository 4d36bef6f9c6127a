-- The triangles of a simple polygon that runs counterclockwise, as a function: at the least vertex an ear is cut off, or the polygon
-- is cut to the vertex in the ear that is farthest from the line through the two neighbours (de Berg, Cheong, van Kreveld, Overmars,
-- Computational Geometry, 3rd edition, 3.1).
use Rattle.std.specs.Prelude.{ℕ, zero, suc, pos, ◌*ℤ◌, Bool, true, false, ◌&&◌, ◌||◌, List, [], ◌∷◌, ◌++◌, Option, Some, None, length, int_lt, int_le, if◌then◌else◌}
use Rattle.std.specs.Ordering.{int_eq}
use Rattle.plan_spec.specs.Vector.{Vector, turn}
use Rattle.plan_spec.specs.SimplePolygon.{last}

-- a triangle by its corners
pub record Triangle : Type 0 where
  pub a : Vector
  pub b : Vector
  pub c : Vector

abbrev pub corners : Triangle → List Vector
corners t = t.a ∷ t.b ∷ t.c ∷ []

-- ---- a list, parted at one of its vertices
pub record Parted : Type 0 where
  pub before : List Vector
  pub at : Vector
  pub after : List Vector

abbrev pub put_before : Vector → Parted → Parted
put_before x p = record { before = x ∷ p.before; at = p.at; after = p.after }

-- x with what is behind it, where x is wanted and the rest has none that is better; else what the rest has
abbrev pub earlier : Bool → (Vector → Vector → Bool) → Vector → List Vector → Option Parted → Option Parted
earlier true better x xs None = Some (record { before = []; at = x; after = xs })
earlier false better x xs None = None
earlier false better x xs (Some p) = Some (put_before x p)
earlier true better x xs (Some p) = if better p.at x then Some (put_before x p) else Some (record { before = []; at = x; after = xs })

-- the list, parted at the first of its wanted vertices than which no wanted one is better
abbrev pub part_at_best : (Vector → Bool) → (Vector → Vector → Bool) → List Vector → Option Parted
part_at_best wanted better [] = None
part_at_best wanted better (x ∷ xs) = earlier (wanted x) better x xs (part_at_best wanted better xs)

-- ---- the list from its least vertex on, round to the vertex before it
-- whether p comes before q: by x, then by y
abbrev pub comes_before : Vector → Vector → Bool
comes_before p q = int_lt (p.x *ℤ q.w) (q.x *ℤ p.w) || (int_eq (p.x *ℤ q.w) (q.x *ℤ p.w) && int_lt (p.y *ℤ q.w) (q.y *ℤ p.w))

abbrev pub every : Vector → Bool
every v = true

abbrev pub from_part : Option Parted → List Vector
from_part None = []
from_part (Some p) = p.at ∷ (p.after ++ p.before)

abbrev pub from_least : List Vector → List Vector
from_least vs = from_part (part_at_best every comes_before vs)

-- ---- the triangles
-- whether z is in the closed triangle of v, w and u, which turns left
abbrev pub in_triangle : Vector → Vector → Vector → Vector → Bool
in_triangle v w u z = int_le (pos 0) (turn v w z) && (int_le (pos 0) (turn w u z) && int_le (pos 0) (turn u v z))

-- whether y is farther than x from the line through w and u, on its left
abbrev pub farther : Vector → Vector → Vector → Vector → Bool
farther w u y x = int_lt (turn w u x *ℤ y.w) (turn w u y *ℤ x.w)

-- all of x and xs but the last
abbrev pub but_last : Vector → List Vector → List Vector
but_last x [] = []
but_last x (y ∷ ys) = x ∷ but_last y ys

-- of the polygon v, w, mid, u: where no vertex of mid is in the ear, the ear and the triangles of what it leaves; else those of both parts
abbrev pub ear_or_cut : (List Vector → List Triangle) → Vector → Vector → List Vector → Vector → Option Parted → List Triangle
ear_or_cut rest v w mid u None = record { a = v; b = w; c = u } ∷ rest (w ∷ (mid ++ u ∷ []))
ear_or_cut rest v w mid u (Some p) = rest (v ∷ (w ∷ (p.before ++ p.at ∷ []))) ++ rest (p.at ∷ (p.after ++ u ∷ v ∷ []))

-- of a list from its least vertex on; fewer than three vertices have no triangle
abbrev pub from_corner : (List Vector → List Triangle) → List Vector → List Triangle
from_corner rest (v ∷ w ∷ x ∷ xs) =
    let u = last x xs in let mid = but_last x xs in
    ear_or_cut rest v w mid u (part_at_best (in_triangle v w u) (farther w u) mid)
from_corner rest _ = []

-- after at most k cuts one after another
abbrev pub triangles_within : ℕ → List Vector → List Triangle
triangles_within zero vs = []
triangles_within (suc k) vs = from_corner (triangles_within k) (from_least vs)

-- each cut leaves fewer vertices, so as many cuts as vertices are enough
abbrev pub triangles : List Vector → List Triangle
triangles vs = triangles_within (length vs) vs
