-- The edges of the sums that are left, and the room's sides: one sum less, and its edges come first.
use Rattle.std.proofs.Math.Nat.{mod_self, mod-eq_of_lt, eq-or-lt_of_le}
use Rattle.std.proofs.Common.{◌≡◌, ◌⊎◌, inl, inr, suc, sym, subst, add-one, ℕ, ◌%◌, ◌+◌, ◌-◌, ◌<◌, ◌≤◌, ◌∙◌, ap, List, ◌∷◌, ◌++◌, length, get_or, drop, append_assoc, arith}
use Rattle.std.specs.List.{flat_map}
use Rattle.std.proofs.lemmas.List.{length-append, get_or_append_left, get_or-append_right, at_drop_more, get_or-map, length-map}
use Rattle.plan_spec.specs.Segment.{Segment}
use Rattle.plan_spec.specs.Polygon.{edges, IsConvex}
use Rattle.plan_spec.specs.Vector.{Same}
use Rattle.plan_plane.proofs.Segment.Same.{Same-swapped}
use Rattle.plan_grid.proofs.Spots.{corner, origin}
use Rattle.plan_spec.specs.Frame.{Frame}
use Rattle.plan_spec.specs.Boundary.{boundary, sides}
use Rattle.plan_grid.specs.declared.spot.Spot.{Spot}
use Rattle.plan_grid.specs.Spot.{spot_seen, spots_seen}
use Rattle.plan_grid.proofs.Edges.{edge_at, get_or-edges, length-edges}
use Rattle.plan_convex.specs.Piece.{sums_seen}

-- the edges of the sums from number i on, and the sides
abbrev pub left_from : List (List Spot) → ℕ → Frame → List Segment
left_from sums i room = boundary (sums_seen (drop i sums)) room

first_sum : (v : List Spot) (rest : List (List Spot)) (room : Frame) → boundary (sums_seen (v ∷ rest)) room ≡ edges (spots_seen v) ++ boundary (sums_seen rest) room
first_sum v rest room = append_assoc (edges (spots_seen v)) (flat_map edges (sums_seen rest)) (sides room)

pub left_more : (sums : List (List Spot)) (i : ℕ) (room : Frame) (d : List Spot) → i < length sums → left_from sums i room ≡ edges (spots_seen (get_or sums i d)) ++ left_from sums (i + 1) room
left_more sums i room d within = at_drop_more (λ l. boundary (sums_seen l) room) sums i d within ∙ first_sum (get_or sums i d) (drop (i + 1) sums) room

pub length_more : (sums : List (List Spot)) (i : ℕ) (room : Frame) (d : List Spot) → i < length sums → length (left_from sums i room) ≡ length (get_or sums i d) + length (left_from sums (i + 1) room)
length_more sums i room d within =
    ap length (left_more sums i room d within) ∙ length-append (edges (spots_seen (get_or sums i d))) (left_from sums (i + 1) room)
    ∙ ap (λ n. n + length (left_from sums (i + 1) room)) (length-edges (get_or sums i d))

-- an edge of the next sum, and one beyond it
pub edge_here : (sums : List (List Spot)) (i k : ℕ) (room : Frame) (d : List Spot) (e : Segment) → i < length sums → k < length (get_or sums i d) → get_or (left_from sums i room) k e ≡ edge_at (get_or sums i d) k
edge_here sums i k room d e within fits =
    ap (λ l. get_or l k e) (left_more sums i room d within)
    ∙ get_or_append_left (edges (spots_seen (get_or sums i d))) (left_from sums (i + 1) room) e k (omega (arith, length-edges (get_or sums i d)))
    ∙ get_or-edges (get_or sums i d) k e fits

pub edge_beyond : (sums : List (List Spot)) (i k : ℕ) (room : Frame) (d : List Spot) (e : Segment) → i < length sums → length (get_or sums i d) ≤ k → get_or (left_from sums i room) k e ≡ get_or (left_from sums (i + 1) room) (k - length (get_or sums i d)) e
edge_beyond sums i k room d e within beyond =
    ap (λ l. get_or l k e) (left_more sums i room d within)
    ∙ get_or-append_right (edges (spots_seen (get_or sums i d))) (left_from sums (i + 1) room) (length (get_or sums i d)) k e (length-edges (get_or sums i d)) beyond

-- ---- the ends of an edge differ
vertices_differ : (vs : List Spot) (i j : ℕ) → IsConvex (spots_seen vs) → i < j → j < length vs → ¬ (Same (spot_seen (corner vs i)) (spot_seen (corner vs j)))
vertices_differ vs i j convex less within h =
    let o = spot_seen origin in
    let e = get_or-map spot_seen vs i origin o (omega (arith, less, within)) in
    let f = get_or-map spot_seen vs j origin o within in
    convex.distinct i j o less (omega (arith, within, length-map vs spot_seen)) (subst (λ p. Same p (get_or (spots_seen vs) j o)) (sym e) (subst (Same (spot_seen (corner vs i))) (sym f) h))

pub ends_differ : (vs : List Spot) (k : ℕ) → IsConvex (spots_seen vs) → 3 ≤ length vs → k < length vs → ¬ (Same (spot_seen (corner vs k)) (spot_seen (corner vs ((k + 1) % length vs))))
ends_differ vs k convex long within = by (eq-or-lt_of_le within)
  where
    by : (suc k ≡ length vs) ⊎ (suc k < length vs) → ¬ (Same (spot_seen (corner vs k)) (spot_seen (corner vs ((k + 1) % length vs))))
    by (inl e) =
        let home : (k + 1) % length vs ≡ 0 = ap (λ n. n % length vs) (add-one k ∙ e) ∙ mod_self (length vs) in
        subst (λ (n : ℕ). ¬ (Same (spot_seen (corner vs k)) (spot_seen (corner vs n)))) (sym home) (λ h. vertices_differ vs 0 k convex (omega (arith, e, long)) within (Same-swapped (spot_seen (corner vs k)) (spot_seen (corner vs 0)) h))
    by (inr below) =
        let on : (k + 1) % length vs ≡ suc k = ap (λ n. n % length vs) (add-one k) ∙ mod-eq_of_lt below in
        subst (λ (n : ℕ). ¬ (Same (spot_seen (corner vs k)) (spot_seen (corner vs n)))) (sym on) (vertices_differ vs k (suc k) convex (omega arith) below)
