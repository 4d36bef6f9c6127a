-- A list, parted at one of its places.
use Rattle.std.specs.Prelude.{ℕ, suc, pos, List, take, drop, get_or}
use Rattle.plan_spec.specs.Vector.{Vector, spot}
use Rattle.plan_spec.specs.Triangulation.{Parted}

abbrev pub part_at : List Vector → ℕ → Parted
part_at vs k = record { before = take k vs; at = get_or vs k (spot (pos 0) (pos 0)); after = drop (suc k) vs }
