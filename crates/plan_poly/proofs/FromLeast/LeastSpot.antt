-- The search for the least spot of a list, and the list that begins with it.
use Rattle.std.proofs.Common.{◌≡◌, ℕ, suc, ◌<◌, List, ◌++◌, Some, take, drop, length, refl, sym, ap, ap₂, ◌∙◌}
use Rattle.std.proofs.Math.Seq.{drop-cons}
use Rattle.std.proofs.lemmas.List.{map-append, take-map, drop-map}
use Rattle.plan_spec.specs.Vector.{Before}
use Rattle.plan_spec.specs.Triangulation.{part_at_best, comes_before, every, from_part, from_least}
use Rattle.plan_grid.specs.declared.spot.Spot.{Spot}
use Rattle.plan_grid.specs.Spot.{spot_seen, spots_seen}
use Rattle.plan_grid.proofs.Spots.{corner}
use Rattle.plan_poly.specs.Part.{part_at}
use Rattle.plan_poly.proofs.FromLeast.ByPlace.{before_true, not_before}
use Rattle.plan_poly.proofs.FromLeast.Search.{Behind, beyond, kept, taken}
use Rattle.plan_poly.proofs.Spots.{corner_seen, count_below}

abbrev pub LeastBehind : List Spot → ℕ → ℕ → Type 0
LeastBehind spots i k = Behind every comes_before (spots_seen spots) i k

pub least_kept : (spots : List Spot) (i k : ℕ) → i < length spots → Before (spot_seen (corner spots k)) (spot_seen (corner spots i)) → LeastBehind spots (suc i) k → LeastBehind spots i k
least_kept spots i k within before b = kept (count_below spots i within) refl (ap₂ comes_before (corner_seen spots k) (corner_seen spots i) ∙ before_true (spot_seen (corner spots k)) (spot_seen (corner spots i)) before) b

pub least_taken : (spots : List Spot) (i k : ℕ) → i < length spots → ¬ (Before (spot_seen (corner spots k)) (spot_seen (corner spots i))) → LeastBehind spots (suc i) k → LeastBehind spots i i
least_taken spots i k within after b = taken (count_below spots i within) refl (ap₂ comes_before (corner_seen spots k) (corner_seen spots i) ∙ not_before (spot_seen (corner spots k)) (spot_seen (corner spots i)) after) b

-- turned round by k places the list begins with its least spot
pub turned : (spots : List Spot) (k : ℕ) → k < length spots → part_at_best every comes_before (spots_seen spots) ≡ Some (part_at (spots_seen spots) k) → spots_seen (drop k spots ++ take k spots) ≡ from_least (spots_seen spots)
turned spots k within best =
    map-append spot_seen (drop k spots) (take k spots)
    ∙ ap₂ (λ xs ys. xs ++ ys) (sym (drop-map spot_seen k spots) ∙ drop-cons (spots_seen spots) k beyond (count_below spots k within)) (sym (take-map spot_seen k spots))
    ∙ ap from_part (sym best)
