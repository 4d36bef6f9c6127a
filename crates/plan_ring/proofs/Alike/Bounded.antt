-- The placements at which two triangles have a common point: there is one, and in no direction they go on for ever.
use Rattle.std.proofs.Common.{◌≡◌, ◌⊎◌, inl, inr, ⊎_elim, ap, ℤ, pos, ◌+ℤ◌, ◌-ℤ◌, ◌*ℤ◌, neg_ℤ, ◌≤ℤ◌, ◌<ℤ◌, List, [], ◌∷◌, get_or, arith}
use Rattle.plan_exact.specs.Expr.{var, con, ◌⊕◌, ◌⊖◌, ◌⊗◌, neg}
use Rattle.plan_exact.specs.Formal as F
use Rattle.plan_exact.specs.Formal.{A, B, J, K, L}
use Rattle.plan_exact.specs.Sign.{is_negative, is_zero, is_positive}
use Rattle.plan_exact.specs.Vectors.{sum, scaled, dot, cross, env}
use Rattle.plan_exact.proofs.Certificates.{le_from}
use Rattle.plan_exact.proofs.Laws.{linear}
use Rattle.plan_exact.proofs.Ring.{ring}
use Rattle.plan_exact.proofs.Signs.{signs, sign_of, le_or_lt, le_of_lt, mul_nonneg, mul_pos, mul_of_zero, square_nonneg, square_pos}
use Rattle.plan_exact.proofs.Vectors.{dot_combination_right}
use Rattle.plan_spec.specs.Vector.{Vector, IsPoint, Same, minus, turn}
use Rattle.plan_spec.specs.Polygon.{Inside, edges}
use Rattle.plan_spec.specs.Sums.{Part, InDifference}
use Rattle.plan_spec.specs.Triangulation.{Triangle, corners}
use Rattle.plan_plane.proofs.Boundary.Position.{inside_same}
use Rattle.plan_plane.proofs.Polygon.Sides.{first_inside}
use Rattle.plan_plane.proofs.Polygon.Triangle.{among, nonneg_at}
use Rattle.plan_ring.specs.Alike.{IsTriangle, IsPair}

-- how far v is in the direction of i and j, times its weight
abbrev far : ℤ → ℤ → Vector → ℤ
far i j v = i *ℤ v.x +ℤ j *ℤ v.y

-- in each direction a number is as far as any point that has P
abbrev pub IsBounded : (Vector → Type 0) → Type 0
IsBounded P = (i j : ℤ) → (n : ℤ) × ((p : Vector) → IsPoint p → P p → (i *ℤ p.x +ℤ j *ℤ p.y) ≤ℤ (n *ℤ p.w))

-- ---- a triangle
record Bound (f w : ℤ) : Type 0 where
  n : ℤ
  nonneg : pos 0 ≤ℤ n
  upto : f ≤ℤ (n *ℤ w)

bound : (f w : ℤ) → pos 0 <ℤ w → Bound f w
bound f w hw = ⊎_elim below above (le_or_lt f (pos 0))
  where
    below : f ≤ℤ pos 0 → Bound f w
    below h = record { n = pos 0; nonneg = omega (arith, linear); upto = omega (arith, linear, h, ring (w ∷ []) (con (pos 0) ⊗ var 0) (con (pos 0)) tt) }

    above : pos 0 <ℤ f → Bound f w
    above h =
        let more : pos 0 ≤ℤ (w -ℤ pos 1) = omega (arith, linear) in
        record { n = f; nonneg = le_of_lt h; upto = le_from (f ∷ w ∷ []) (con (pos 1)) (var 0 ⊗ (var 1 ⊖ con (pos 1))) (var 0) (var 0 ⊗ var 1) tt (search signs) (search signs) }

-- one number for all corners
raised : (f w k m n : ℤ) → pos 0 <ℤ w → pos 0 ≤ℤ m → pos 0 ≤ℤ n → f ≤ℤ (k *ℤ w) → pos 0 ≤ℤ ((k +ℤ m +ℤ n) *ℤ w -ℤ f)
raised f w k m n hw hm hn h =
    let a = mul_nonneg hm (le_of_lt hw) in
    let b = mul_nonneg hn (le_of_lt hw) in
    omega (arith, linear, a, b, h, ring (k ∷ m ∷ n ∷ w ∷ []) ((var 0 ⊕ var 1 ⊕ var 2) ⊗ var 3) (var 0 ⊗ var 3 ⊕ var 1 ⊗ var 3 ⊕ var 2 ⊗ var 3) tt)

-- the covector of the direction and the number
abbrev limit : ℤ → ℤ → ℤ → Vector
limit i j n = record { x = neg_ℤ i; y = neg_ℤ j; w = n }

limit_is : (i j n : ℤ) (v : Vector) → dot (limit i j n) v ≡ n *ℤ v.w -ℤ (i *ℤ v.x +ℤ j *ℤ v.y)
limit_is i j n v = ring (env (i ∷ j ∷ n ∷ []) (v ∷ [])) (F.dot (record { x = neg J; y = neg K; w = L }) A) (L ⊗ A.w ⊖ (J ⊗ A.x ⊕ K ⊗ A.y)) tt

pub triangle_bounded : (t : Triangle) → IsTriangle t → IsBounded (Inside (corners t))
triangle_bounded t h i j = (n, upto)
  where
    ha : IsPoint t.a
    ha = h.points 0 t.a (omega arith)

    hb : IsPoint t.b
    hb = h.points 1 t.a (omega arith)

    hc : IsPoint t.c
    hc = h.points 2 t.a (omega arith)

    a : Bound (far i j t.a) t.a.w
    a = bound (far i j t.a) t.a.w ha

    b : Bound (far i j t.b) t.b.w
    b = bound (far i j t.b) t.b.w hb

    c : Bound (far i j t.c) t.c.w
    c = bound (far i j t.c) t.c.w hc

    n : ℤ
    n = a.n +ℤ b.n +ℤ c.n

    at_a : pos 0 ≤ℤ dot (limit i j n) t.a
    at_a = omega (arith, linear, limit_is i j n t.a, raised (far i j t.a) t.a.w a.n b.n c.n ha b.nonneg c.nonneg a.upto)

    at_b : pos 0 ≤ℤ dot (limit i j n) t.b
    at_b =
        let e = ring (a.n ∷ b.n ∷ c.n ∷ t.b.w ∷ []) ((var 0 ⊕ var 1 ⊕ var 2) ⊗ var 3) ((var 1 ⊕ var 0 ⊕ var 2) ⊗ var 3) tt in
        omega (arith, linear, limit_is i j n t.b, e, raised (far i j t.b) t.b.w b.n a.n c.n hb a.nonneg c.nonneg b.upto)

    at_c : pos 0 ≤ℤ dot (limit i j n) t.c
    at_c =
        let e = ring (a.n ∷ b.n ∷ c.n ∷ t.c.w ∷ []) ((var 0 ⊕ var 1 ⊕ var 2) ⊗ var 3) ((var 2 ⊕ var 0 ⊕ var 1) ⊗ var 3) tt in
        omega (arith, linear, limit_is i j n t.c, e, raised (far i j t.c) t.c.w c.n a.n b.n hc a.nonneg b.nonneg c.upto)

    upto : (p : Vector) → IsPoint p → Inside (corners t) p → (i *ℤ p.x +ℤ j *ℤ p.y) ≤ℤ (n *ℤ p.w)
    upto p hp inside = omega (arith, linear, limit_is i j n p, nonneg_at (among t.a t.b t.c p h.left inside) (limit i j n) at_a at_b at_c)

-- ---- the placements of a pair
moved : (i j m n : ℤ) (z p : Vector) → pos 0 <ℤ z.w → pos 0 <ℤ p.w → (i *ℤ z.x +ℤ j *ℤ z.y) ≤ℤ (m *ℤ z.w)
    → (neg_ℤ i *ℤ (z.x *ℤ p.w -ℤ p.x *ℤ z.w) +ℤ neg_ℤ j *ℤ (z.y *ℤ p.w -ℤ p.y *ℤ z.w)) ≤ℤ (n *ℤ (z.w *ℤ p.w)) → (i *ℤ p.x +ℤ j *ℤ p.y) ≤ℤ ((m +ℤ n) *ℤ p.w)
moved i j m n z p hz hp h k =
    le_from (i ∷ j ∷ m ∷ n ∷ z.x ∷ z.y ∷ z.w ∷ p.x ∷ p.y ∷ p.w ∷ []) (var 6)
    (var 9 ⊗ (var 2 ⊗ var 6 ⊖ (var 0 ⊗ var 4 ⊕ var 1 ⊗ var 5)) ⊕ (var 3 ⊗ (var 6 ⊗ var 9) ⊖ (neg (var 0) ⊗ (var 4 ⊗ var 9 ⊖ var 7 ⊗ var 6) ⊕ neg (var 1) ⊗ (var 5 ⊗ var 9 ⊖ var 8 ⊗ var 6))))
    (var 0 ⊗ var 7 ⊕ var 1 ⊗ var 8) ((var 2 ⊕ var 3) ⊗ var 9) tt hz (search signs)

pub difference_bounded : (t : Part) → IsPair t → IsBounded (InDifference (corners t.piece) (corners t.robot))
difference_bounded t h i j =
    let (m, one) = triangle_bounded t.piece h.piece i j in
    let (n, other) = triangle_bounded t.robot h.robot (neg_ℤ i) (neg_ℤ j) in
    (m +ℤ n, λ p hp (z, hz, a, b). moved i j m n z p hz hp (one z hz a) (other (minus z p) (mul_pos hz hp) b))

-- the first corner of the one, less that of the other
pub some_placement : (t : Part) → IsPair t → (p : Vector) × IsPoint p × InDifference (corners t.piece) (corners t.robot) p
some_placement t h =
    let a = t.piece.a in
    let b = t.robot.a in
    let ha : IsPoint a = h.piece.points 0 a (omega arith) in
    let hb : IsPoint b = h.robot.points 0 a (omega arith) in
    let p = minus a b in
    let hp : IsPoint p = mul_pos ha hb in (
      p,
      hp,
      (
        a,
        ha,
        first_inside a t.piece.b t.piece.c h.piece.left,
        inside_same (corners t.robot) b (minus a p) hb (mul_pos ha hp) (back a b) (first_inside b t.robot.b t.robot.c h.robot.left),
      ),
    )
  where
    back : (a b : Vector) → Same b (minus a (minus a b))
    back a b =
        let xs = env [] (a ∷ b ∷ []) in (
          ring xs (B.x ⊗ (F.minus A (F.minus A B)).w) ((F.minus A (F.minus A B)).x ⊗ B.w) tt,
          ring xs (B.y ⊗ (F.minus A (F.minus A B)).w) ((F.minus A (F.minus A B)).y ⊗ B.w) tt,
        )

-- ---- a direction in which a bounded polygon goes on for ever is none
onward : (vs : List Vector) (p u : Vector) (t : ℤ) → pos 0 ≤ℤ t → Inside vs p → Inside vs u → Inside vs (sum (scaled (pos 1) p) (scaled t u))
onward vs p u t ht hp hu k s within =
    let e = get_or (edges vs) k s in
    let one : pos 0 ≤ℤ turn e.a e.b p = hp k s within in
    let two = mul_nonneg ht (hu k s within) in
    omega (arith, linear, one, two, dot_combination_right (pos 1) t p u (cross e.a e.b), ring (turn e.a e.b p ∷ []) (con (pos 1) ⊗ var 0) (var 0) tt)

-- s t at most c for each t, so s is not positive
unbounded : (s c : ℤ) → pos 0 <ℤ s → ((t : ℤ) → pos 0 ≤ℤ t → (t *ℤ s) ≤ℤ c) → ⊥
unbounded s c hs h = ⊎_elim up down (le_or_lt (pos 0) c)
  where
    up : pos 0 ≤ℤ c → ⊥
    up hc =
        let t : pos 0 ≤ℤ (c +ℤ pos 1) = omega (arith, linear) in
        let more : pos 0 ≤ℤ (s -ℤ pos 1) = omega (arith, linear) in
        omega (arith, linear, h (c +ℤ pos 1) t, mul_nonneg t more, ring (s ∷ c ∷ []) ((var 1 ⊕ con (pos 1)) ⊗ (var 0 ⊖ con (pos 1))) ((var 1 ⊕ con (pos 1)) ⊗ var 0 ⊖ (var 1 ⊕ con (pos 1))) tt)

    down : c <ℤ pos 0 → ⊥
    down hc = omega (arith, linear, h (pos 0) (omega (arith, linear)), ring (s ∷ []) (con (pos 0) ⊗ var 0) (con (pos 0)) tt)

zero_or_not : (a : ℤ) → (a ≡ pos 0) ⊎ ¬ (a ≡ pos 0)
zero_or_not a = elim (sign_of a) [
  | is_zero e ↦ inl e
  | is_negative h ↦ inr (λ e. omega (arith, linear))
  | is_positive h ↦ inr (λ e. omega (arith, linear))
]

square_only : (x y : ℤ) → ¬ (pos 0 <ℤ (x *ℤ x +ℤ y *ℤ y)) → (x ≡ pos 0) × (y ≡ pos 0)
square_only x y h = (one, other)
  where
    one : x ≡ pos 0
    one = elim (zero_or_not x) [
      | inl e ↦ e
      | inr n ↦ absurd (h (omega (arith, linear, square_pos x n, square_nonneg y)))
    ]

    other : y ≡ pos 0
    other = elim (zero_or_not y) [
      | inl e ↦ e
      | inr n ↦ absurd (h (omega (arith, linear, square_pos y n, square_nonneg x)))
    ]

pub no_direction : (vs : List Vector) (p u : Vector) → IsBounded (Inside vs) → IsPoint p → Inside vs p → u.w ≡ pos 0 → Inside vs u → (u.x ≡ pos 0) × (u.y ≡ pos 0)
no_direction vs p u bounded hp inside level hu = square_only u.x u.y (λ h. unbounded (u.x *ℤ u.x +ℤ u.y *ℤ u.y) (n *ℤ p.w -ℤ far u.x u.y p) h upto)
  where
    n : ℤ
    n = (bounded u.x u.y).0

    upto : (t : ℤ) → pos 0 ≤ℤ t → (t *ℤ (u.x *ℤ u.x +ℤ u.y *ℤ u.y)) ≤ℤ (n *ℤ p.w -ℤ far u.x u.y p)
    upto t ht =
        let q = sum (scaled (pos 1) p) (scaled t u) in
        let e : t *ℤ u.w ≡ pos 0 = mul_of_zero t u.w level in
        let w : q.w ≡ p.w = omega (arith, linear, e, ring (p.w ∷ []) (con (pos 1) ⊗ var 0) (var 0) tt) in
        let hq : IsPoint q = omega (arith, linear, w, hp) in
        let b = (bounded u.x u.y).1 q hq (onward vs p u t ht inside hu) in
        omega (arith, linear, b, ap (λ z. n *ℤ z) w, ring (env (t ∷ []) (p ∷ u ∷ [])) (B.x ⊗ (con (pos 1) ⊗ A.x ⊕ J ⊗ B.x) ⊕ B.y ⊗ (con (pos 1) ⊗ A.y ⊕ J ⊗ B.y)) (J ⊗ (B.x ⊗ B.x ⊕ B.y ⊗ B.y) ⊕ (B.x ⊗ A.x ⊕ B.y ⊗ A.y)) tt)
