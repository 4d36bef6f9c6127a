-- Between a clear point and one that touches, some point is uncovered and on an edge: the first one at which a block holds.
use Rattle.std.proofs.Common.{◌≡◌, ◌⊎◌, inl, inr, ⊎_elim, ℤ, pos, ◌<ℤ◌, List, [], map, All, Any, get_or, refl, sym, subst, arith}
use Rattle.std.proofs.lemmas.List.Elements.{All-map, All-contains}
use Rattle.std.specs.List.{flat_map}
use Rattle.plan_exact.specs.Vectors.{sum, dot}
use Rattle.plan_exact.proofs.Laws.{linear}
use Rattle.plan_exact.proofs.RingVectors.{vector_path}
use Rattle.plan_exact.proofs.Signs.{mul_nonneg, mul_pos, le_of_lt, lt_of_mul, lt_of_not_le}
use Rattle.plan_spec.specs.Vector.{Vector, IsPoint, spot, turn}
use Rattle.plan_spec.specs.Segment.{Segment, On}
use Rattle.plan_spec.specs.Polygon.{Inside, edges}
use Rattle.plan_spec.specs.Frame.{Frame}
use Rattle.plan_plane.proofs.Segment.Combination.{on_combination}
use Rattle.plan_plane.proofs.Polygon.Holding.{vertices_inside, inside_between}
use Rattle.plan_plane.proofs.Segment.Between.{between}
use Rattle.plan_plane.proofs.Line.Values.{value, Held, Open, NoneHeld, Touched, FirstHeld, HeldAt, values, value_is, held_at_place, open_from_place, held_at_start, held_from_end}
use Rattle.plan_spec.specs.Weights.{Weights, IsWeights, weighted}
use Rattle.plan_spec.specs.Boundary.{IsUncovered, IsClearOf, sides, boundary}
use Rattle.plan_plane.proofs.Boundary.Sum.{IsSum, EdgeOf, edge_of, on_edge}
use Rattle.plan_plane.proofs.Boundary.Blocks.{HasSpots, line, block, held_to, rectangle, outside, one_of_four, single, blocks, clear_blocks, blocks_clear, blocks_uncovered, on_side, side_beyond}
use Rattle.plan_plane.proofs.Line.FirstHeld.{first_held}
use Rattle.plan_plane.proofs.Lists.{all_map, any_map, any_with, any_weaker, any_joined, any_left, any_right, any_flat, any_unflat, any_none, any_cases}

pub place_point : (p q : Vector) (z : Weights) → IsWeights z → pos 0 <ℤ z.t → IsPoint p → IsPoint q → IsPoint (weighted p q z)
place_point p q z hz ht hp hq = omega (arith, linear, mul_nonneg hz.first (le_of_lt hp), mul_pos ht hq)

-- a point between p and q that is uncovered, touches, and is on an edge of a sum or a side of the room
pub record BoundaryPoint (sums : List (List Vector)) (room : Frame) (p q : Vector) : Type 0 where
  pub at : Vector
  pub point : IsPoint at
  pub between : On (record { a = p; b = q }) at
  pub uncovered : IsUncovered sums room at
  pub touches : ¬ (IsClearOf sums room at)
  pub on_edge : Any (λ e. On e at) (boundary sums room)

-- ---- for a room given by its coordinates
abbrev Meets : Vector → List Vector → Type 0
Meets z ls = HeldAt ls z × Any (λ l. dot l z ≡ pos 0) ls

touched_meets : (p q : Vector) (ls : List Vector) (z : Weights) → Touched z (map (values p q) ls) → Meets (weighted p q z) ls
touched_meets p q ls z h = (held_at_place p q ls z h.0, any_weaker (λ l. value (values p q l) z ≡ pos 0) (λ l. dot l (weighted p q z) ≡ pos 0) (λ l e. omega (arith, linear, value_is p q l z)) ls (any_map (λ n. value n z ≡ pos 0) (values p q) ls h.1))

room_proper : (sums : List (List Vector)) (lx ly hx hy : ℤ) (p : Vector) → IsPoint p → IsClearOf sums (rectangle lx ly hx hy) p → (lx <ℤ hx) × (ly <ℤ hy)
room_proper sums lx ly hx hy p hp clear = (
  lt_of_mul lx hx p.w hp (omega (arith, linear, lt_of_not_le _ _ (λ h. clear.in_room (inl h)), lt_of_not_le _ _ (λ h. clear.in_room (inr (inl h))))),
  lt_of_mul ly hy p.w hp (omega (arith, linear, lt_of_not_le _ _ (λ h. clear.in_room (inr (inr (inl h)))), lt_of_not_le _ _ (λ h. clear.in_room (inr (inr (inr h)))))),
)

-- a point of a sum at which an edge's covector is 0 is on that edge
on_some_edge : (vs : List Vector) (z : Vector) → IsSum vs → Meets z (block vs) → Any (λ e. On e z) (edges vs)
on_some_edge vs z h m = by (any_map (λ l. dot l z ≡ pos 0) line (edges vs) m.1)
  where
    by : Any (λ s. turn s.a s.b z ≡ pos 0) (edges vs) → Any (λ e. On e z) (edges vs)
    by (k, s, within, e, level) = (k, s, within, e, on_edge z (edge_of vs s h (k, within, e)) (held_to vs z m.0) level)

found : (sums : List (List Vector)) (lx ly hx hy : ℤ) (z : Vector) → All IsSum sums → IsUncovered sums (rectangle lx ly hx hy) z → Any (Meets z) (blocks sums lx ly hx hy)
    → (¬ (IsClearOf sums (rectangle lx ly hx hy) z)) × Any (λ e. On e z) (boundary sums (rectangle lx ly hx hy))
found sums lx ly hx hy z hs free some = (held, on_boundary)
  where
    held : IsClearOf sums (rectangle lx ly hx hy) z → ⊥
    held clear =
        let (k, ls, within, e, (h, zero)) = some in
        subst (λ ls. ¬ (HeldAt ls z)) e (clear_blocks sums lx ly hx hy z clear k ls within) h

    first : Any (Meets z) (map single (outside lx ly hx hy)) → Any (λ e. On e z) (boundary sums (rectangle lx ly hx hy))
    first h =
        any_right (λ e. On e z) (flat_map edges sums) (sides (rectangle lx ly hx hy))
        (on_side lx ly hx hy z free.in_room (one_of_four (λ l. dot l z ≡ pos 0) lx ly hx hy
        (any_weaker (λ l. Meets z (single l)) (λ l. dot l z ≡ pos 0) (λ l m. ⊎_elim (λ e. e) (λ n. absurd (any_none (λ l. dot l z ≡ pos 0) n)) (any_cases (λ l. dot l z ≡ pos 0) l [] m.1)) (outside lx ly hx hy) (any_map (Meets z) single (outside lx ly hx hy) h))))

    second : Any (Meets z) (map block sums) → Any (λ e. On e z) (boundary sums (rectangle lx ly hx hy))
    second h =
        any_left (λ e. On e z) (flat_map edges sums) (sides (rectangle lx ly hx hy))
        (any_flat (λ e. On e z) edges sums (any_with IsSum (λ vs. Meets z (block vs)) (λ vs. Any (λ e. On e z) (edges vs)) (λ vs s m. on_some_edge vs z s m) sums hs (any_map (Meets z) block sums h)))

    on_boundary : Any (λ e. On e z) (boundary sums (rectangle lx ly hx hy))
    on_boundary = ⊎_elim first second (any_joined (Meets z) (map single (outside lx ly hx hy)) (map block sums) some)

at_rectangle : (sums : List (List Vector)) (lx ly hx hy : ℤ) (p q : Vector) → All IsSum sums → IsPoint p → IsPoint q → IsClearOf sums (rectangle lx ly hx hy) p → ¬ (IsClearOf sums (rectangle lx ly hx hy) q) → BoundaryPoint sums (rectangle lx ly hx hy) p q
at_rectangle sums lx ly hx hy p q hs hp hq clear off = by (first_held (map (λ ls. map (values p q) ls) (blocks sums lx ly hx hy)) off_start)
  where
    off_start : NoneHeld (map (λ ls. map (values p q) ls) (blocks sums lx ly hx hy)) (record { s = pos 1; t = pos 0 })
    off_start = All-map (λ K. ¬ (Held K (record { s = pos 1; t = pos 0 }))) (λ ls. map (values p q) ls) (blocks sums lx ly hx hy) (λ k d within h. clear_blocks sums lx ly hx hy p clear k d within (held_at_start p q (get_or (blocks sums lx ly hx hy) k d) h))

    at_end : IsWeights (record { s = pos 0; t = pos 1 })
    at_end = record { first = omega (arith, linear); second = omega (arith, linear); some = omega (arith, linear) }

    by : ((z : Weights) → IsWeights z → NoneHeld (map (λ ls. map (values p q) ls) (blocks sums lx ly hx hy)) z) ⊎ FirstHeld (map (λ ls. map (values p q) ls) (blocks sums lx ly hx hy)) → BoundaryPoint sums (rectangle lx ly hx hy) p q
    by (inl none) =
        absurd (off (blocks_clear sums lx ly hx hy q (λ k d within h. all_map (λ K. ¬ (Held K (record { s = pos 0; t = pos 1 }))) (λ ls. map (values p q) ls) (blocks sums lx ly hx hy) (none (record { s = pos 0; t = pos 1 }) at_end) k d within (held_from_end p q (get_or (blocks sums lx ly hx hy) k d) h))))
    by (inr f) =
        let z = weighted p q f.place in
        let proper = room_proper sums lx ly hx hy p hp clear in
        let free = blocks_uncovered sums lx ly hx hy z proper.0 proper.1 (λ k d within h. all_map (λ K. ¬ (Open K f.place)) (λ ls. map (values p q) ls) (blocks sums lx ly hx hy) f.not_open k d within (open_from_place p q (get_or (blocks sums lx ly hx hy) k d) f.place h)) in
        let m = found sums lx ly hx hy z hs free (any_weaker (λ ls. Touched f.place (map (values p q) ls)) (Meets z) (λ ls t. touched_meets p q ls f.place t) (blocks sums lx ly hx hy) (any_map (Touched f.place) (λ ls. map (values p q) ls) (blocks sums lx ly hx hy) f.held)) in
        record {
          at = z;
          point = place_point p q f.place f.weights f.beyond hp hq;
          between = on_combination f.place.s f.place.t p q f.weights.first f.weights.second;
          uncovered = free;
          touches = m.0;
          on_edge = m.1;
        }

-- ---- for any room whose corners are spots
pub as_rectangle : (room : Frame) → HasSpots room → rectangle room.low.x room.low.y room.high.x room.high.y ≡ room
as_rectangle room h =
    let p : spot room.low.x room.low.y ≡ room.low = vector_path refl refl (sym h.low) in
    let q : spot room.high.x room.high.y ≡ room.high = vector_path refl refl (sym h.high) in
    λ i. record { low = p i; high = q i }

pub boundary_point : (sums : List (List Vector)) (room : Frame) (p q : Vector) → All IsSum sums → HasSpots room → IsPoint p → IsPoint q → IsClearOf sums room p → ¬ (IsClearOf sums room q) → BoundaryPoint sums room p q
boundary_point sums room p q hs spots hp hq =
    subst (λ room. IsClearOf sums room p → ¬ (IsClearOf sums room q) → BoundaryPoint sums room p q) (as_rectangle room spots) (at_rectangle sums room.low.x room.low.y room.high.x room.high.y p q hs hp hq)

-- ---- every point of an edge touches
pub edge_held : {vs : List Vector} {s : Segment} (z : Vector) → EdgeOf vs s → IsPoint z → On s z → Inside vs z
edge_held {vs} {s} z e hz h =
    inside_between vs (All-contains (Inside vs) vs s.a (vertices_inside vs e.sum.convex.left e.sum.points) e.a_in) (All-contains (Inside vs) vs s.b (vertices_inside vs e.sum.convex.left e.sum.points) e.b_in) (between s.a s.b z e.a_point e.b_point hz h)

touches_at : (sums : List (List Vector)) (lx ly hx hy : ℤ) (z : Vector) → All IsSum sums → IsPoint z → Any (λ e. On e z) (boundary sums (rectangle lx ly hx hy)) → ¬ (IsClearOf sums (rectangle lx ly hx hy) z)
touches_at sums lx ly hx hy z hs hz some clear = by (any_joined (λ e. On e z) (flat_map edges sums) (sides (rectangle lx ly hx hy)) some)
  where
    by : Any (λ e. On e z) (flat_map edges sums) ⊎ Any (λ e. On e z) (sides (rectangle lx ly hx hy)) → ⊥
    by (inr h) = clear.in_room (side_beyond lx ly hx hy z h)
    by (inl h) =
        let (k, vs, within, e, (sum, (j, s, below, is, meets))) = any_with IsSum (λ vs. Any (λ e. On e z) (edges vs)) (λ vs. IsSum vs × Any (λ e. On e z) (edges vs)) (λ vs s m. (s, m)) sums hs (any_unflat (λ e. On e z) edges sums h) in
        All-contains (λ vs. ¬ (Inside vs z)) sums vs clear.in_none (k, within, e) (edge_held z (edge_of vs s sum (j, below, is)) hz meets)

pub touches : (sums : List (List Vector)) (room : Frame) (z : Vector) → All IsSum sums → HasSpots room → IsPoint z → Any (λ e. On e z) (boundary sums room) → ¬ (IsClearOf sums room z)
touches sums room z hs spots hz = subst (λ room. Any (λ e. On e z) (boundary sums room) → ¬ (IsClearOf sums room z)) (as_rectangle room spots) (touches_at sums room.low.x room.low.y room.high.x room.high.y z hs hz)
