-- A point held by a convex polygon is held by a triangle of the first vertex and two neighbours, so what a line says of all vertices it says of the point.
use Rattle.std.proofs.Common.{inl, inr, suc, pos, ◌≤◌, ◌≤ℤ◌, ◌<ℤ◌, List, [], ◌∷◌, length, All, Contains, arith}
use Rattle.std.proofs.lemmas.List.Elements.{All-contains, All-contains_itself}
use Rattle.plan_exact.specs.Vectors.{dot}
use Rattle.plan_exact.proofs.Laws.{linear}
use Rattle.plan_exact.proofs.Signs.{le_or_lt}
use Rattle.plan_exact.proofs.Vectors.{det_turned, det_swapped}
use Rattle.plan_spec.specs.Vector.{Vector, IsPoint, Same, turn}
use Rattle.plan_spec.specs.Segment.{segment}
use Rattle.plan_spec.specs.Polygon.{OnOrLeft, Inside, EndOrLeft, IsConvex, edges_to}
use Rattle.plan_plane.proofs.Polygon.Triangle as T

-- a triangle of vertices that all have P, which holds z
pub record Triangle (P : Vector → Type 0) (z : Vector) : Type 0 where
  pub a : Vector
  pub b : Vector
  pub c : Vector
  pub a_has : P a
  pub b_has : P b
  pub c_has : P c
  pub turns_left : pos 0 <ℤ turn a b c
  pub inside : Inside (a ∷ b ∷ c ∷ []) z

-- the triangle of `first` and the edge from a to b, where z is left of the one spoke and right of the other
spoke_triangle : (P : Vector → Type 0) (z first a b : Vector) → P first → P a → P b → ¬ (Same first a) → ¬ (Same first b) → EndOrLeft (segment a b) first
    → pos 0 ≤ℤ turn first a z → pos 0 ≤ℤ turn a b z → pos 0 ≤ℤ turn b first z → Triangle P z
spoke_triangle P z first a b hf ha hb na nb side fa ab bf = record { a = first; b = a; c = b; a_has = hf; b_has = ha; c_has = hb; turns_left = left side; inside = T.held first a b z fa ab bf }
  where
    left : EndOrLeft (segment a b) first → pos 0 <ℤ turn first a b
    left (inl same) = absurd (na same)
    left (inr (inl same)) = absurd (nb same)
    left (inr (inr h)) = omega (arith, linear, det_turned first a b)

fan_from : (P : Vector → Type 0) (z first : Vector) → P first → (a b : Vector) (vs : List Vector) → All P (a ∷ (b ∷ vs)) → All (λ v. ¬ (Same first v)) (a ∷ (b ∷ vs))
    → All (λ s. EndOrLeft s first) (edges_to first (a ∷ (b ∷ vs))) → All (OnOrLeft z) (edges_to first (a ∷ (b ∷ vs))) → pos 0 ≤ℤ turn first a z → Triangle P z
fan_from P z first hf a b [] has apart left inside fa =
    spoke_triangle P z first a b hf (has 0 a (omega arith)) (has 1 a (omega arith)) (apart 0 a (omega arith)) (apart 1 a (omega arith)) (left 0 (segment a b) (omega arith)) fa (inside 0 (segment a b) (omega arith)) (inside 1 (segment a b) (omega arith))
fan_from P z first hf a b (c ∷ vs) has apart left inside fa =
    elim (le_or_lt (pos 0) (turn first b z)) [
      | inl fb ↦ fan_from P z first hf b c vs (λ k d within. has (suc k) d (omega arith)) (λ k d within. apart (suc k) d (omega arith)) (λ k d within. left (suc k) d (omega arith)) (λ k d within. inside (suc k) d (omega arith)) fb
      | inr n ↦ spoke_triangle P z first a b hf (has 0 a (omega arith)) (has 1 a (omega arith)) (apart 0 a (omega arith)) (apart 1 a (omega arith)) (left 0 (segment a b) (omega arith)) fa (inside 0 (segment a b) (omega arith)) (omega (arith, linear, det_swapped b first z))
    ]

pub fan : (vs : List Vector) (z : Vector) → IsConvex vs → 3 ≤ length vs → Inside vs z → Triangle (Contains vs) z
fan [] z convex long inside = absurd (omega arith)
fan (a ∷ []) z convex long inside = absurd (omega arith)
fan (a ∷ (b ∷ [])) z convex long inside = absurd (omega arith)
fan (a ∷ (b ∷ (c ∷ vs))) z convex long inside =
    let has = All-contains_itself (a ∷ (b ∷ (c ∷ vs))) in
    fan_from (Contains (a ∷ (b ∷ (c ∷ vs)))) z a (has 0 a (omega arith)) b c vs
    (λ k d within. has (suc k) d (omega arith))
    (λ k d within. convex.distinct 0 (suc k) d (omega arith) (omega arith))
    (λ k d within. convex.left (suc k) d (omega arith) 0 a (omega arith))
    (λ k d within. inside (suc k) d (omega arith))
    (inside 0 (segment a b) (omega arith))

-- ---- what a line, or any covector, says of the point
pub nonneg_at : (vs : List Vector) (z : Vector) → IsConvex vs → 3 ≤ length vs → Inside vs z → (l : Vector) → All (λ v. pos 0 ≤ℤ dot l v) vs → pos 0 ≤ℤ dot l z
nonneg_at vs z convex long inside l h =
    let t = fan vs z convex long inside in
    let at = λ (v : Vector) (has : Contains vs v). All-contains (λ v. pos 0 ≤ℤ dot l v) vs v h has in
    T.nonneg_at (T.among t.a t.b t.c z t.turns_left t.inside) l (at t.a t.a_has) (at t.b t.b_has) (at t.c t.c_has)

pub pos_at : (vs : List Vector) (z : Vector) → IsConvex vs → 3 ≤ length vs → IsPoint z → Inside vs z → (l : Vector) → All (λ v. pos 0 <ℤ dot l v) vs → pos 0 <ℤ dot l z
pos_at vs z convex long hz inside l h =
    let t = fan vs z convex long inside in
    let at = λ (v : Vector) (has : Contains vs v). All-contains (λ v. pos 0 <ℤ dot l v) vs v h has in
    T.pos_at hz (T.among t.a t.b t.c z t.turns_left t.inside) l (at t.a t.a_has) (at t.b t.b_has) (at t.c t.c_has)
