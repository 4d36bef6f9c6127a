-- The edges of a polygon by number: each goes from the vertex of that number to the next one round.
use Rattle.std.proofs.lemmas.List.{get_or_past, get_or_default}
use Rattle.std.proofs.Math.Nat.{mod_self, mod-eq_of_lt, eq-or-lt_of_le}
use Rattle.std.proofs.Common.{◌≡◌, ◌⊎◌, inl, inr, add-one, ℕ, zero, suc, pos, ◌+◌, ◌<◌, ◌%◌, ◌∙◌, refl, sym, ap, List, [], ◌∷◌, length, get_or, arith}
use Rattle.plan_spec.specs.Segment.{Segment}
use Rattle.plan_spec.specs.Polygon.{edges, edges_to}
use Rattle.plan_grid.specs.declared.spot.Spot.{Spot}
use Rattle.plan_grid.specs.Spot.{spot_seen, edge_seen, spots_seen}
use Rattle.plan_grid.proofs.Spots.{corner}

-- the edge of that number, as the code reads it
abbrev pub edge_at : List Spot → ℕ → Segment
edge_at vs k = edge_seen (corner vs k) (corner vs ((k + 1) % length vs))

length-edges_to : (f : Spot) (vs : List Spot) → length (edges_to (spot_seen f) (spots_seen vs)) ≡ length vs
length-edges_to f [] = refl
length-edges_to f (a ∷ []) = refl
length-edges_to f (a ∷ (b ∷ vs)) = ap suc (length-edges_to f (b ∷ vs))

get_or-edges_to : (f : Spot) (vs : List Spot) (k : ℕ) (d : Segment) → k < length vs → get_or (edges_to (spot_seen f) (spots_seen vs)) k d ≡ edge_seen (corner vs k) (get_or vs (suc k) f)
get_or-edges_to f [] k d h = absurd (omega arith)
get_or-edges_to f (a ∷ []) zero d h = refl
get_or-edges_to f (a ∷ []) (suc k) d h = absurd (omega arith)
get_or-edges_to f (a ∷ (b ∷ vs)) zero d h = refl
get_or-edges_to f (a ∷ (b ∷ vs)) (suc k) d h = get_or-edges_to f (b ∷ vs) k d (omega arith)

-- the next one round
get_or-next : (v : Spot) (rest : List Spot) (k : ℕ) → k < length (v ∷ rest) → get_or (v ∷ rest) (suc k) v ≡ corner (v ∷ rest) ((k + 1) % length (v ∷ rest))
get_or-next v rest k h = by (eq-or-lt_of_le h)
  where
    by : (suc k ≡ length (v ∷ rest)) ⊎ (suc k < length (v ∷ rest)) → get_or (v ∷ rest) (suc k) v ≡ corner (v ∷ rest) ((k + 1) % length (v ∷ rest))
    by (inl e) =
        let home : (k + 1) % length (v ∷ rest) ≡ 0 = ap (λ n. n % length (v ∷ rest)) (add-one k ∙ e) ∙ mod_self (length (v ∷ rest)) in
        get_or_past (v ∷ rest) (suc k) v (omega arith) ∙ sym (ap (corner (v ∷ rest)) home)
    by (inr below) =
        let on : (k + 1) % length (v ∷ rest) ≡ suc k = ap (λ n. n % length (v ∷ rest)) (add-one k) ∙ mod-eq_of_lt below in
        get_or_default (v ∷ rest) (suc k) v (record { x = pos 0; y = pos 0 }) below ∙ sym (ap (corner (v ∷ rest)) on)

pub get_or-edges : (vs : List Spot) (k : ℕ) (d : Segment) → k < length vs → get_or (edges (spots_seen vs)) k d ≡ edge_at vs k
get_or-edges [] k d h = absurd (omega arith)
get_or-edges (v ∷ rest) k d h = get_or-edges_to v (v ∷ rest) k d h ∙ ap (λ p. edge_seen (corner (v ∷ rest) k) p) (get_or-next v rest k h)

pub length-edges : (vs : List Spot) → length (edges (spots_seen vs)) ≡ length vs
length-edges [] = refl
length-edges (v ∷ rest) = length-edges_to v (v ∷ rest)
