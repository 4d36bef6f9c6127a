-- The search for the farthest spot in a triangle, from the end of a list to its front.
use Rattle.std.proofs.Common.{◌≡◌, ℕ, suc, ◌<◌, Bool, true, false, cond, List, Option, Some, None, IfSome, MatchOption, option_map, length, get_or, refl, ap, ap₂, ◌∙◌}
use Rattle.plan_spec.specs.Vector.{Vector}
use Rattle.plan_spec.specs.Triangulation.{part_at_best, in_triangle, farther}
use Rattle.plan_grid.specs.declared.spot.Spot.{Spot}
use Rattle.plan_grid.specs.Spot.{spot_seen, spots_seen}
use Rattle.plan_grid.proofs.Spots.{corner}
use Rattle.plan_poly.specs.Part.{part_at}
use Rattle.plan_poly.proofs.FromLeast.Search.{beyond, Behind, NoneBehind, still, still_none, found, kept, taken, at_end}
use Rattle.plan_poly.proofs.Spots.{corner_seen, count_below}
use Rattle.plan_tri.specs.Farthest.{farther_number}

-- of the spots from i on, `found` is the farthest that is in the triangle, if one is
abbrev pub FarthestBehind : Vector → Vector → Vector → List Spot → ℕ → Option ℕ → Type 0
FarthestBehind v w u spots i found = MatchOption found (NoneBehind (in_triangle v w u) (farther w u) (spots_seen spots) i) (Behind (in_triangle v w u) (farther w u) (spots_seen spots) i)

test_seen : (v w u : Vector) (spots : List Spot) (i : ℕ) {b : Bool} → in_triangle v w u (spot_seen (corner spots i)) ≡ b → in_triangle v w u (get_or (spots_seen spots) i beyond) ≡ b
test_seen v w u spots i e = ap (in_triangle v w u) (corner_seen spots i) ∙ e

pub passed_by : (v w u : Vector) (spots : List Spot) (i : ℕ) (o : Option ℕ) → i < length spots → in_triangle v w u (spot_seen (corner spots i)) ≡ false → FarthestBehind v w u spots (suc i) o → FarthestBehind v w u spots i o
passed_by v w u spots i None within out h = still_none (in_triangle v w u) (farther w u) (spots_seen spots) i (count_below spots i within) (test_seen v w u spots i out) h
passed_by v w u spots i (Some k) within out h = still (count_below spots i within) (test_seen v w u spots i out) h

pub compared : (v w u : Vector) (spots : List Spot) (i : ℕ) (o : Option ℕ) → i < length spots → in_triangle v w u (spot_seen (corner spots i)) ≡ true → FarthestBehind v w u spots (suc i) o → Behind (in_triangle v w u) (farther w u) (spots_seen spots) i (farther_number w u spots i o)
compared v w u spots i None within inside h = found (in_triangle v w u) (farther w u) (spots_seen spots) i (count_below spots i within) (test_seen v w u spots i inside) h
compared v w u spots i (Some k) within inside h = by (farther w u (spot_seen (corner spots k)) (spot_seen (corner spots i))) refl
  where
    seen : farther w u (get_or (spots_seen spots) k beyond) (get_or (spots_seen spots) i beyond) ≡ farther w u (spot_seen (corner spots k)) (spot_seen (corner spots i))
    seen = ap₂ (farther w u) (corner_seen spots k) (corner_seen spots i)

    by : (b : Bool) → farther w u (spot_seen (corner spots k)) (spot_seen (corner spots i)) ≡ b → Behind (in_triangle v w u) (farther w u) (spots_seen spots) i (cond b k i)
    by true e = kept (count_below spots i within) (test_seen v w u spots i inside) (seen ∙ e) h
    by false e = taken (count_below spots i within) (test_seen v w u spots i inside) (seen ∙ e) h

pub number_within : (w u : Vector) (spots : List Spot) (i : ℕ) (o : Option ℕ) → i < length spots → IfSome o (λ k. k < length spots) → farther_number w u spots i o < length spots
number_within w u spots i None within h = within
number_within w u spots i (Some k) within h = by (farther w u (spot_seen (corner spots k)) (spot_seen (corner spots i)))
  where
    by : (b : Bool) → cond b k i < length spots
    by true = h
    by false = within

pub searched : (v w u : Vector) (spots : List Spot) (o : Option ℕ) → FarthestBehind v w u spots 0 o → part_at_best (in_triangle v w u) (farther w u) (spots_seen spots) ≡ option_map (part_at (spots_seen spots)) o
searched v w u spots None h = h
searched v w u spots (Some k) h = at_end h
