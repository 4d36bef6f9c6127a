-- The farther one of two spots of a list.
use Rattle.std.specs.Prelude.{ℕ, pos, List, Option, Some, None, get_or, if◌then◌else◌}
use Rattle.plan_spec.specs.Vector.{Vector}
use Rattle.plan_spec.specs.Triangulation.{farther}
use Rattle.plan_grid.specs.declared.spot.Spot.{Spot}
use Rattle.plan_grid.specs.Spot.{spot_seen}

-- of spot i and another one, if there is one: the other one where it is farther
abbrev pub farther_number : Vector → Vector → List Spot → ℕ → Option ℕ → ℕ
farther_number w u spots i None = i
farther_number w u spots i (Some k) =
    let at = λ (n : ℕ). spot_seen (get_or spots n (record { x = pos 0; y = pos 0 })) in
    if farther w u (at k) (at i) then k else i
