-- Spots by number, as the code reads them, and as vectors.
use Rattle.std.proofs.Common.{◌≡◌, ℕ, ◌<◌, List, All, length, get_or, Some, ap, ◌∙◌, arith}
use Rattle.std.specs.Prelude.{slice_get}
use Rattle.std.proofs.lemmas.Int.{ints}
use Rattle.std.proofs.lemmas.List.{length-map}
use Rattle.std.proofs.lemmas.List.Elements.{All-map}
use Rattle.std.proofs.lemmas.Option.{slice_get-get_or}
use Rattle.std.proofs.Math.ListN.{get_or-map}
use Rattle.plan_spec.specs.Vector.{IsPoint}
use Rattle.plan_spec.specs.Polygon.{edges}
use Rattle.plan_grid.specs.declared.spot.Spot.{Spot}
use Rattle.plan_grid.specs.Spot.{spot_seen, spots_seen}
use Rattle.plan_grid.proofs.Edges.{edge_at, get_or-edges, length-edges}
use Rattle.plan_grid.proofs.Spots.{origin, corner}

pub count_seen : (spots : List Spot) → length (spots_seen spots) ≡ length spots
count_seen spots = length-map spots spot_seen

pub count_below : (spots : List Spot) (i : ℕ) → i < length spots → i < length (spots_seen spots)
count_below spots i within = omega (arith, within, count_seen spots)

pub points_seen : (spots : List Spot) → All IsPoint (spots_seen spots)
points_seen spots = All-map IsPoint spot_seen spots (λ k d within. omega (arith, ints))

pub corner_seen : (spots : List Spot) (i : ℕ) → get_or (spots_seen spots) i (spot_seen origin) ≡ spot_seen (corner spots i)
corner_seen spots i = get_or-map spot_seen spots i origin

pub edge_got : (spots : List Spot) (i : ℕ) → i < length spots → slice_get (edges (spots_seen spots)) i ≡ Some (edge_at spots i)
edge_got spots i within =
    let s = edge_at spots i in
    slice_get-get_or (edges (spots_seen spots)) i s (omega (arith, within, length-edges spots)) ∙ ap Some (get_or-edges spots i s within)
