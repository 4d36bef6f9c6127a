-- What some sum has, by its number; and a test that failed.
use Rattle.std.proofs.Common.{◌≡◌, true, false, ℕ, ◌<◌, List, [], length, get_or, Any, sym, ◌∙◌, subst}
use Rattle.std.proofs.lemmas.List.{get_or_default}
use Rattle.plan_spec.specs.Vector.{Vector}
use Rattle.plan_plane.proofs.Lists.{any_map, any_to_map}
use Rattle.plan_grid.specs.declared.spot.Spot.{Spot}
use Rattle.plan_grid.specs.Spot.{spots_seen}
use Rattle.plan_convex.specs.Piece.{sums_seen}

pub untrue : ¬ (false ≡ true)
untrue e = cc

module _ (P : List Vector → Type 0) (sums : List (List Spot)) where
  pub some_sum : (k : ℕ) (d : List Spot) → k < length sums → P (spots_seen (get_or sums k d)) → Any P (sums_seen sums)
  some_sum k d within h = any_to_map P spots_seen sums (k, get_or sums k d, within, get_or_default sums k (get_or sums k d) d within, h)

  pub no_sum : ((k : ℕ) → k < length sums → ¬ (P (spots_seen (get_or sums k [])))) → ¬ (Any P (sums_seen sums))
  no_sum none some = by (any_map P spots_seen sums some)
    where
      by : Any (λ vs. P (spots_seen vs)) sums → ⊥
      by (k, vs, within, e, h) = none k within (subst (λ v. P (spots_seen v)) (sym e ∙ get_or_default sums k vs [] within) h)
