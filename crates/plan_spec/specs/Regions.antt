-- Cells and walls of slabs, a point of each by formula, and the regions: those that are free, by their numbers.
use Rattle.std.specs.Prelude.{◌≡◌, ℕ, suc, ◌-◌, ◌<◌, pos, ◌+ℤ◌, ◌-ℤ◌, ◌*ℤ◌, ◌<ℤ◌, List, [], ◌∷◌, ◌++◌, length, get_or, map}
use Rattle.std.specs.List.{flat_map, range_with_len}
use Rattle.plan_exact.specs.Vectors.{sum, scaled}
use Rattle.plan_spec.specs.Vector.{Vector, LtX, LtY, SameX, turn}
use Rattle.plan_spec.specs.Segment.{Segment}
use Rattle.plan_spec.specs.Frame.{Frame}
use Rattle.plan_spec.specs.Boundary.{IsClearOf}
use Rattle.plan_spec.specs.Slabs.{Slabs, line_at, spans_of, span_at, marks_of, mark_at}

-- the cell above span i of slab k, and the wall above mark j of line k
pub data Lot : Type 0 where
  cell : ℕ → ℕ → Lot
  wall : ℕ → ℕ → Lot

-- ---- what lots hold
-- z is strictly between the lines l and r, above the lower span s and below the upper span t
pub record InCell (l r : Vector) (s t : Segment) (z : Vector) : Type 0 where
  pub after : LtX l z
  pub before : LtX z r
  pub above : pos 0 <ℤ turn s.a s.b z
  pub below : turn t.a t.b z <ℤ pos 0

-- z is on the line l, strictly between the marks m and n
pub record InWall (l m n z : Vector) : Type 0 where
  pub at : SameX z l
  pub above : LtY m z
  pub below : LtY z n

abbrev pub Holds : Slabs → Lot → Vector → Type 0
Holds σ (cell k i) z = InCell (line_at σ k) (line_at σ (suc k)) (span_at σ k i) (span_at σ k (suc i)) z
Holds σ (wall k j) z = InWall (line_at σ k) (mark_at σ k j) (mark_at σ k (suc j)) z

-- both spans, or both marks, are there
abbrev pub IsLot : Slabs → Lot → Type 0
IsLot σ (cell k i) = (k < length σ.spans) × (suc i < length (spans_of σ k))
IsLot σ (wall k j) = (k < length σ.marks) × (suc j < length (marks_of σ k))

-- ---- a point of each
-- strictly between the lines l and r
abbrev pub mediant : Vector → Vector → Vector
mediant l r = record { x = l.x +ℤ r.x; y = pos 0; w = l.w +ℤ r.w }

-- the point at the x of z of the line through the ends of s
abbrev pub foot : Segment → Vector → Vector
foot s z = sum (scaled (s.b.x *ℤ z.w -ℤ z.x *ℤ s.b.w) s.a) (scaled (z.x *ℤ s.a.w -ℤ s.a.x *ℤ z.w) s.b)

abbrev pub halfway : Vector → Vector → Vector
halfway u v = record { x = u.x *ℤ v.w +ℤ v.x *ℤ u.w; y = u.y *ℤ v.w +ℤ v.y *ℤ u.w; w = pos 2 *ℤ (u.w *ℤ v.w) }

abbrev pub cell_spot : Vector → Vector → Segment → Segment → Vector
cell_spot l r s t = halfway (foot s (mediant l r)) (foot t (mediant l r))

-- of a cell halfway between its two spans at the mediant of its lines, of a wall halfway between its two marks
abbrev pub spot_of : Slabs → Lot → Vector
spot_of σ (cell k i) = cell_spot (line_at σ k) (line_at σ (suc k)) (span_at σ k i) (span_at σ k (suc i))
spot_of σ (wall k j) = halfway (mark_at σ k j) (mark_at σ k (suc j))

-- ---- their order
abbrev pub cells : Slabs → ℕ → List Lot
cells σ k = map (cell k) (range_with_len 0 (length (spans_of σ k) - 1))

abbrev pub walls : Slabs → ℕ → List Lot
walls σ k = map (wall k) (range_with_len 0 (length (marks_of σ k) - 1))

-- for each slab its cells from below, then the walls of the line on its right from below
abbrev pub lots : Slabs → List Lot
lots σ = flat_map (λ k. cells σ k ++ walls σ (suc k)) (range_with_len 0 (length σ.spans))

-- ---- regions
-- what of the list has P, in its order
pub data Kept {X : Type 0} (P : X → Type 0) : List X → List X → Type 0 where
  none : Kept P [] []
  keep : (x : X) (xs ys : List X) → P x → Kept P xs ys → Kept P (x ∷ xs) (x ∷ ys)
  drop : (x : X) (xs ys : List X) → ¬ (P x) → Kept P xs ys → Kept P (x ∷ xs) ys

-- the free lots: those whose point is clear; their places are their numbers
abbrev pub AreRegions : List (List Vector) → Frame → Slabs → List Lot → Type 0
AreRegions sums room σ found = Kept (λ lot. IsClearOf sums room (spot_of σ lot)) (lots σ) found

abbrev pub region_at : List Lot → ℕ → Lot
region_at found n = get_or found n (cell 0 0)

-- the region of that number holds z, and no other does
pub record IsIn (σ : Slabs) (found : List Lot) (z : Vector) (n : ℕ) : Type 0 where
  pub is_region : n < length found
  pub holds : Holds σ (region_at found n) z
  pub no_other : (m : ℕ) → m < length found → Holds σ (region_at found m) z → m ≡ n
