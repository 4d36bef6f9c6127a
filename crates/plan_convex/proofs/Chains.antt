-- Chains of spots: what holds of each pair of neighbours, and of the last spot with the one that comes next. Where the one that comes next is the first, these are the edges of a polygon.
use Rattle.std.proofs.Common.{◌≡◌, ◌⊎◌, inl, inr, suc, pos, ◌<◌, ◌*ℤ◌, ◌≤ℤ◌, ◌<ℤ◌, sym, ap, subst, List, [], ◌∷◌, ◌++◌, length, get_or, arith}
use Rattle.std.proofs.lemmas.List.{get_or-map, length-map}
use Rattle.std.specs.Prelude.{All, AllPairs}
use Rattle.std.proofs.lemmas.Int.{ints}
use Rattle.std.proofs.lemmas.List.Elements.{All-nil, All-cons, All-head, All-tail, All-weaker, All-map}
use Rattle.plan_exact.specs.Sign.{Order, is_less, is_equal, is_greater}
use Rattle.plan_exact.proofs.Signs.{order_of}
use Rattle.plan_spec.specs.Vector.{Vector, Same, Before}
use Rattle.plan_spec.specs.Segment.{Segment}
use Rattle.plan_spec.specs.Polygon.{IsConvex, EndOrLeft, edges_to}
use Rattle.plan_grid.specs.declared.spot.Spot.{Spot}
use Rattle.plan_grid.specs.Spot.{spot_seen, edge_seen, IsWithin, spots_seen, way, cross}
use Rattle.plan_grid.proofs.Spots.{spot_path, same_spots, same_from}
use Rattle.plan_convex.proofs.Corners.{Borders, IsCorner, corner_left, borders_spot}
use Rattle.plan_grid.proofs.Turns.{turn_cross}
use Rattle.plan_convex.proofs.Walks.{sweep_line}

-- R holds of neighbours, and of the last spot and v
abbrev pub AllSides : (Spot → Spot → Type 0) → List Spot → Spot → Type 0
AllSides R [] v = Unit {0}
AllSides R (a ∷ []) v = R a v
AllSides R (a ∷ (b ∷ vs)) v = R a b × AllSides R (b ∷ vs) v

pub sides_push : (R : Spot → Spot → Type 0) (vs : List Spot) (v v' : Spot) → AllSides R vs v → R v v' → AllSides R (vs ++ v ∷ []) v'
sides_push R [] v v' h k = k
sides_push R (a ∷ []) v v' h k = (h, k)
sides_push R (a ∷ (b ∷ vs)) v v' h k = (h.0, sides_push R (b ∷ vs) v v' h.1 k)

-- what holds of each side, where its ends are known, holds of each edge
pub edges_from_sides : (R : Spot → Spot → Type 0) (P : Spot → Type 0) (Q : Segment → Type 0) → ((a b : Spot) → R a b → P a → P b → Q (edge_seen a b)) → (vs : List Spot) (v : Spot) → All P vs → P v → AllSides R vs v → All Q (edges_to (spot_seen v) (spots_seen vs))
edges_from_sides R P Q f [] v all last h = All-nil Q
edges_from_sides R P Q f (a ∷ []) v all last h = All-cons Q (edge_seen a v) [] (f a v h (All-head P a [] all) last) (All-nil Q)
edges_from_sides R P Q f (a ∷ (b ∷ vs)) v all last h =
    let rest = All-tail P a (b ∷ vs) all in
    All-cons Q (edge_seen a b) (edges_to (spot_seen v) (spots_seen (b ∷ vs))) (f a b h.0 (All-head P a (b ∷ vs) all) (All-head P b vs rest)) (edges_from_sides R P Q f (b ∷ vs) v rest last h.1)

-- a side of S from a to b: all of S is on or left of it, and it is not of length 0
pub record IsSide (S : Vector → Type 0) (a b : Spot) : Type 0 where
  pub borders : Borders S a (way a b)
  pub apart : ¬ (a ≡ b)

-- a corner is an end of a side, or strictly left of it
end_or_left : (S : Vector → Type 0) (a b u : Spot) → IsSide S a b → IsCorner S a → IsCorner S b → IsCorner S u → EndOrLeft (edge_seen a b) (spot_seen u)
end_or_left S a b u side ca cb cu = by (corner_left S a b u side.apart ca cb cu (borders_spot S a (way a b) u side.borders cu.belongs))
  where
    by : (u ≡ a) ⊎ ((u ≡ b) ⊎ (pos 0 <ℤ cross (way a b) (way a u))) → EndOrLeft (edge_seen a b) (spot_seen u)
    by (inl s) = inl (same_from u a s)
    by (inr (inl s)) = inr (inl (same_from u b s))
    by (inr (inr left)) = inr (inr (subst (λ k. pos 0 <ℤ k) (sym (turn_cross a b u)) left))

-- ---- from the least vertex on
before_from : (v u : Spot) → IsWithin 2046 v → IsWithin 2046 u → ¬ (v ≡ u) → pos 0 ≤ℤ cross sweep_line (way v u) → Before (spot_seen v) (spot_seen u)
before_from v u hv hu apart rises = by (order_of v.x u.x) (order_of v.y u.y)
  where
    by : Order v.x u.x → Order v.y u.y → Before (spot_seen v) (spot_seen u)
    by (is_less p) q = inl (omega (arith, ints))
    by (is_equal p) (is_less q) = inr (ap (λ k. k *ℤ pos 1) p, omega (arith, ints))
    by (is_equal p) (is_equal q) = absurd (apart (spot_path p q))
    by (is_equal p) (is_greater q) = absurd (omega (arith, ints))
    by (is_greater p) q = absurd (omega (arith, ints))

-- spots that differ are different points
distinct_vectors : (v : Spot) (vs : List Spot) → AllPairs (λ a b. ¬ (a ≡ b)) (v ∷ vs) → AllPairs (λ a b. ¬ (Same a b)) (spots_seen (v ∷ vs))
distinct_vectors v vs h i j d lt within =
    let spots = v ∷ vs in
    let fits : j < length spots = omega (arith, length-map spots spot_seen) in
    let first : i < length spots = omega arith in
    let P : Vector → Vector → Type 0 = λ p q. Same p q in
    λ same. h i j v lt fits (same_spots (get_or spots i v) (get_or spots j v)
    (subst (λ p. P p (spot_seen (get_or spots j v))) (get_or-map spot_seen spots i v d first) (subst (P (get_or (spots_seen spots) i d)) (get_or-map spot_seen spots j v d fits) same)))

-- ---- a closed chain of sides between corners is a convex polygon
pub convex_from_sides : (S : Vector → Type 0) (v : Spot) (vs : List Spot) → Borders S v sweep_line → All (IsCorner S) (v ∷ vs) → All (IsWithin 2046) (v ∷ vs) → AllPairs (λ a b. ¬ (a ≡ b)) (v ∷ vs) → AllSides (IsSide S) (v ∷ vs) v → IsConvex (spots_seen (v ∷ vs))
convex_from_sides S v vs lowest corners small distinct sides = record {
  least = All-map (Before (spot_seen v)) spot_seen vs (λ k d lt.
      before_from v (get_or vs k d) (All-head (IsWithin 2046) v vs small) (All-tail (IsWithin 2046) v vs small k d lt) (distinct 0 (suc k) d (omega arith) (omega arith))
      (borders_spot S v sweep_line (get_or vs k d) lowest (All-tail (IsCorner S) v vs corners k d lt).belongs));
  distinct = distinct_vectors v vs distinct;
  left = edges_from_sides (IsSide S) (IsCorner S) (λ s. All (EndOrLeft s) (spots_seen (v ∷ vs)))
      (λ a b side ca cb. All-map (EndOrLeft (edge_seen a b)) spot_seen (v ∷ vs) (All-weaker (IsCorner S) (λ u. EndOrLeft (edge_seen a b) (spot_seen u)) (λ u cu. end_or_left S a b u side ca cb cu) (v ∷ vs) corners))
      (v ∷ vs) v corners (All-head (IsCorner S) v vs corners) sides;
}
