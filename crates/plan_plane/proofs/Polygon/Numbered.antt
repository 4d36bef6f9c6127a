-- The edges of a polygon by number: there are as many as vertices, and edge i runs from vertex i to the next one round.
use Rattle.std.proofs.Common.{◌≡◌, ◌⊎◌, inl, inr, add-one, ℕ, zero, suc, ◌+◌, ◌<◌, ◌≤◌, ◌%◌, List, [], ◌∷◌, length, get_or, refl, sym, ap, ◌∙◌, eq-or-lt_of_le, arith}
use Rattle.std.proofs.Math.Nat.{mod_self, mod-eq_of_lt}
use Rattle.plan_spec.specs.Vector.{Vector}
use Rattle.plan_spec.specs.Segment.{Segment, segment}
use Rattle.plan_spec.specs.Polygon.{edges, edges_to}

length_edges_to : (first : Vector) (vs : List Vector) → length (edges_to first vs) ≡ length vs
length_edges_to first [] = refl
length_edges_to first (a ∷ []) = refl
length_edges_to first (a ∷ (b ∷ vs)) = ap suc (length_edges_to first (b ∷ vs))

pub length_edges : (vs : List Vector) → length (edges vs) ≡ length vs
length_edges [] = refl
length_edges (a ∷ vs) = length_edges_to a (a ∷ vs)

next_to : (first : Vector) (vs : List Vector) (i : ℕ) (s : Segment) (d : Vector) → suc i < length vs → get_or (edges_to first vs) i s ≡ segment (get_or vs i d) (get_or vs (suc i) d)
next_to first [] i s d within = absurd (omega arith)
next_to first (a ∷ []) i s d within = absurd (omega arith)
next_to first (a ∷ (b ∷ vs)) zero s d within = refl
next_to first (a ∷ (b ∷ vs)) (suc i) s d within = next_to first (b ∷ vs) i s d (omega arith)

last_to : (first : Vector) (vs : List Vector) (i : ℕ) (s : Segment) (d : Vector) → suc i ≡ length vs → get_or (edges_to first vs) i s ≡ segment (get_or vs i d) first
last_to first [] i s d last = absurd (omega arith)
last_to first (a ∷ []) zero s d last = refl
last_to first (a ∷ []) (suc i) s d last = absurd (omega arith)
last_to first (a ∷ (b ∷ vs)) zero s d last = absurd (omega arith)
last_to first (a ∷ (b ∷ vs)) (suc i) s d last = last_to first (b ∷ vs) i s d (omega arith)

pub edge_next : (vs : List Vector) (i : ℕ) (s : Segment) (d : Vector) → suc i < length vs → get_or (edges vs) i s ≡ segment (get_or vs i d) (get_or vs (suc i) d)
edge_next [] i s d within = absurd (omega arith)
edge_next (a ∷ vs) i s d within = next_to a (a ∷ vs) i s d within

pub edge_last : (vs : List Vector) (i : ℕ) (s : Segment) (d : Vector) → suc i ≡ length vs → get_or (edges vs) i s ≡ segment (get_or vs i d) (get_or vs 0 d)
edge_last [] i s d last = absurd (omega arith)
edge_last (a ∷ vs) i s d last = last_to a (a ∷ vs) i s d last

pub edge_at : (vs : List Vector) (i : ℕ) (s : Segment) (d : Vector) → i < length vs → get_or (edges vs) i s ≡ segment (get_or vs i d) (get_or vs ((i + 1) % length vs) d)
edge_at vs i s d within = by (eq-or-lt_of_le (more within))
  where
    more : i < length vs → suc i ≤ length vs
    more w = omega arith

    to : {k : ℕ} → (i + 1) % length vs ≡ k → segment (get_or vs i d) (get_or vs k d) ≡ segment (get_or vs i d) (get_or vs ((i + 1) % length vs) d)
    to e = ap (λ (k : ℕ). segment (get_or vs i d) (get_or vs k d)) (sym e)

    by : (suc i ≡ length vs) ⊎ (suc i < length vs) → get_or (edges vs) i s ≡ segment (get_or vs i d) (get_or vs ((i + 1) % length vs) d)
    by (inl last) = edge_last vs i s d last ∙ to (ap (λ n. n % length vs) (add-one i ∙ last) ∙ mod_self (length vs))
    by (inr next) = edge_next vs i s d next ∙ to (ap (λ n. n % length vs) (add-one i) ∙ mod-eq_of_lt next)
