-- Triangles of spots.
use Rattle.std.specs.Prelude.{◌≡◌, ◌≢◌, ℤ, pos, ◌<ℤ◌, ◌⊎◌, List, [], ◌∷◌, length, All, int_lt, if◌then◌else◌}
use Rattle.plan_spec.specs.Vector.{Vector, turn}
use Rattle.plan_grid.specs.declared.bounds.TheConstants.{MOST_CORNER}
use Rattle.plan_grid.specs.declared.spot.Spot.{Spot}
use Rattle.plan_grid.specs.Spot.{spot_seen, IsWithin}

-- twice the signed area of a triangle: positive where its corners are counterclockwise, 0 where they are in one line; 0 for a list
-- that is not of three corners
abbrev pub area : List Spot → ℤ
area (a ∷ b ∷ c ∷ []) = turn (spot_seen a) (spot_seen b) (spot_seen c)
area _ = pos 0

-- three corners that are not in one line, with coordinates of at most 1023 in absolute value
pub record IsTriangle (corners : List Spot) : Type 0 where
  pub three : length corners ≡ 3
  pub bounded : All (IsWithin MOST_CORNER) corners
  pub not_flat : area corners ≢ pos 0

-- the corners of a triangle, counterclockwise
pub record IsCounterclockwise (corners : List Spot) : Type 0 where
  pub triangle : IsTriangle corners
  pub left : pos 0 <ℤ area corners

-- the same triangle, from its first, second or third corner on
abbrev pub IsRotation : List Spot → List Spot → Type 0
IsRotation (a ∷ b ∷ c ∷ []) rotated =
    (rotated ≡ a ∷ b ∷ c ∷ [])
    ⊎ ((rotated ≡ b ∷ c ∷ a ∷ [])
    ⊎ (rotated ≡ c ∷ a ∷ b ∷ []))
IsRotation _ rotated = ⊥

-- the vertices of a triangle counterclockwise, from the first one on; no other list is a triangle
abbrev pub counterclockwise_triangle : List Vector → List Vector
counterclockwise_triangle (a ∷ b ∷ c ∷ []) = if int_lt (turn a b c) (pos 0) then a ∷ c ∷ b ∷ [] else a ∷ b ∷ c ∷ []
counterclockwise_triangle _ = []
