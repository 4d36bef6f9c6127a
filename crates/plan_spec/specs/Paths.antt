-- The path along a walk through regions.
use Rattle.std.specs.Prelude.{ℕ, List, [], ◌∷◌, ◌++◌, map, if◌then◌else◌}
use Rattle.plan_spec.specs.Vector.{Vector, same}
use Rattle.plan_spec.specs.Slabs.{Slabs}
use Rattle.plan_spec.specs.Regions.{Lot, spot_of, region_at}

-- what is left of a list behind p where each point that is at the place of the one before is dropped
abbrev pub without_repeats : Vector → List Vector → List Vector
without_repeats p [] = []
without_repeats p (q ∷ qs) = if same p q then without_repeats p qs else q ∷ without_repeats q qs

-- the points of the walk's regions; in a single region the way is straight
abbrev pub stops : (ℕ → Vector) → List ℕ → List Vector
stops spot [] = []
stops spot (n ∷ []) = []
stops spot (m ∷ (n ∷ ns)) = map spot (m ∷ (n ∷ ns))

-- the start, the stops, the goal
abbrev pub way : (ℕ → Vector) → Vector → Vector → List ℕ → List Vector
way spot s g walk = s ∷ without_repeats s (stops spot walk ++ g ∷ [])

-- by the point of each cell and of each wall
abbrev pub path_along : Slabs → List Lot → Vector → Vector → List ℕ → List Vector
path_along σ found s g walk = way (λ n. spot_of σ (region_at found n)) s g walk
