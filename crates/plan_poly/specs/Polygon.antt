-- What a polygon of spots is, and what reading a list of spots answers.
use Rattle.std.specs.Prelude.{◌≡◌, ◌↔◌, ℕ, ◌<◌, ◌≤◌, ◌⊎◌, List, ◌++◌, length, reverse, get_or, All}
use Rattle.plan_spec.specs.Vector.{Vector}
use Rattle.plan_spec.specs.Polygon.{IsFromLeast}
use Rattle.plan_spec.specs.SimplePolygon.{InPolygon, IsSimple, TurnsLeft, IsFirstWrongPair}
use Rattle.plan_grid.specs.declared.bounds.TheConstants.{MOST_CORNER}
use Rattle.plan_grid.specs.declared.spot.Spot.{Spot}
use Rattle.plan_grid.specs.Spot.{spots_seen, IsWithin}
use Rattle.plan_poly.specs.declared.fault.PolyFault.{PolyFault}
use Rattle.plan_poly.specs.declared.fault.PolyFault.TheVariants.{Few, Many, Range, NotSimple}

-- 3 to 32 spots with coordinates of at most 1023 in absolute value, of which no two edges meet wrongly
pub record IsSimpleList (spots : List Spot) : Type 0 where
  pub at_least_three : 3 ≤ length spots
  pub at_most_32 : length spots ≤ 32
  pub bounded : All (IsWithin MOST_CORNER) spots
  pub simple : IsSimple (spots_seen spots)

-- such a list that begins with its least vertex and turns left there, so runs counterclockwise
pub record IsPolygon (spots : List Spot) : Type 0 where
  pub simple_list : IsSimpleList spots
  pub least : IsFromLeast (spots_seen spots)
  pub left : TurnsLeft (spots_seen spots)

-- the second list is the first one, read from another element on and round
abbrev pub IsRotation : List Spot → List Spot → Type 0
IsRotation xs ys = (pre : List Spot) × (post : List Spot) × (xs ≡ pre ++ post) × (ys ≡ post ++ pre)

-- the given list is simple, and is kept in its cyclic order, or in the opposite one; which of the two, and from which vertex on,
-- follows from the polygon running counterclockwise from its least vertex; so it holds the same points
pub record IsRead (given kept : List Spot) : Type 0 where
  pub given_simple : IsSimpleList given
  pub polygon : IsPolygon kept
  pub order : IsRotation given kept ⊎ IsRotation (reverse given) kept
  pub same_points : (z : Vector) → InPolygon (spots_seen given) z ↔ InPolygon (spots_seen kept) z

-- spot i is the first that is out of range
pub record IsFirstOut (spots : List Spot) (i : ℕ) : Type 0 where
  pub within : i < length spots
  pub out : (d : Spot) → ¬ (IsWithin MOST_CORNER (get_or spots i d))
  pub first : (k : ℕ) (d : Spot) → k < i → IsWithin MOST_CORNER (get_or spots k d)

-- 3 to 32 spots
abbrev pub HasCount : List Spot → Type 0
HasCount spots = (3 ≤ length spots) × (length spots ≤ 32)

-- the fault is that of the list: each one only where none before it holds
abbrev pub IsFault : List Spot → PolyFault → Type 0
IsFault spots (Few n) = (n ≡ length spots) × (length spots < 3)
IsFault spots (Many n) = (n ≡ length spots) × (32 < length spots)
IsFault spots (Range i) = HasCount spots × IsFirstOut spots i
IsFault spots (NotSimple i j) = HasCount spots × All (IsWithin MOST_CORNER) spots × IsFirstWrongPair (spots_seen spots) i j
