-- On which side of a line a point is depends on positions alone; the points of cells and walls do too.
use Rattle.std.proofs.Common.{◌≡◌, ◌⊎◌, inl, inr, ℤ, pos, ◌-ℤ◌, ◌*ℤ◌, ◌≤ℤ◌, ◌<ℤ◌, int_lt, [], ◌∷◌, sym, ap, ap₂, ◌∙◌, arith}
use Rattle.plan_exact.specs.Expr.{con, ◌⊕◌, ◌⊖◌, ◌⊗◌}
use Rattle.plan_exact.specs.Vectors.{scaled, env}
use Rattle.plan_exact.specs.Formal as F
use Rattle.plan_exact.specs.Formal.{A, B, C, J, K, L}
use Rattle.plan_exact.proofs.Certificates.{eq_from}
use Rattle.plan_exact.proofs.Laws.{linear, mul_comm}
use Rattle.plan_exact.proofs.Ring.{ring}
use Rattle.plan_exact.proofs.RingVectors.{ring_vectors, vector_path}
use Rattle.plan_exact.proofs.Signs.{zeros, le_or_lt, mul_pos, mul_pos_neg, pos_of_mul, neg_of_mul}
use Rattle.plan_exact.proofs.Tests.{lt_true, lt_false}
use Rattle.plan_spec.specs.Vector.{Vector, IsPoint, Same, turn}
use Rattle.plan_spec.specs.Segment.{Segment, segment, HasPoints}
use Rattle.plan_spec.specs.Regions.{foot, halfway, mediant, cell_spot}
use Rattle.plan_plane.proofs.Segment.Same.{Same-swapped}
use Rattle.plan_ring.specs.Alike.{AlikeSegment}

-- ---- triples of one position are multiples of one another
times_weights : (u v : Vector) → Same u v → scaled v.w u ≡ scaled u.w v
times_weights u v e = vector_path (omega (arith, linear, mul_comm v.w u.x, mul_comm u.w v.x, e.0)) (omega (arith, linear, mul_comm v.w u.y, mul_comm u.w v.y, e.1)) (mul_comm v.w u.w)

-- multiples of one another are of one position
same_from_multiples : (i j : ℤ) (u v : Vector) → pos 0 <ℤ i → scaled i u ≡ scaled j v → Same u v
same_from_multiples i j u v hi e = (by_x (ap (λ p. p.x) e) (ap (λ p. p.w) e), by_y (ap (λ p. p.y) e) (ap (λ p. p.w) e))
  where
    by_x : i *ℤ u.x ≡ j *ℤ v.x → i *ℤ u.w ≡ j *ℤ v.w → u.x *ℤ v.w ≡ v.x *ℤ u.w
    by_x f g =
        let f0 : i *ℤ u.x -ℤ j *ℤ v.x ≡ pos 0 = omega (arith, linear, f) in
        let g0 : j *ℤ v.w -ℤ i *ℤ u.w ≡ pos 0 = omega (arith, linear, g) in
        eq_from (env (i ∷ j ∷ []) (u ∷ v ∷ [])) J (B.w ⊗ (J ⊗ A.x ⊖ K ⊗ B.x) ⊕ B.x ⊗ (K ⊗ B.w ⊖ J ⊗ A.w)) (A.x ⊗ B.w) (B.x ⊗ A.w) tt hi (search zeros)

    by_y : i *ℤ u.y ≡ j *ℤ v.y → i *ℤ u.w ≡ j *ℤ v.w → u.y *ℤ v.w ≡ v.y *ℤ u.w
    by_y f g =
        let f0 : i *ℤ u.y -ℤ j *ℤ v.y ≡ pos 0 = omega (arith, linear, f) in
        let g0 : j *ℤ v.w -ℤ i *ℤ u.w ≡ pos 0 = omega (arith, linear, g) in
        eq_from (env (i ∷ j ∷ []) (u ∷ v ∷ [])) J (B.w ⊗ (J ⊗ A.y ⊖ K ⊗ B.y) ⊕ B.y ⊗ (K ⊗ B.w ⊖ J ⊗ A.w)) (A.y ⊗ B.w) (B.y ⊗ A.w) tt hi (search zeros)

-- ---- turns
turn_scaled : (i j k : ℤ) (a b c : Vector) → turn (scaled i a) (scaled j b) (scaled k c) ≡ (i *ℤ j *ℤ k) *ℤ turn a b c
turn_scaled i j k a b c = ring (env (i ∷ j ∷ k ∷ []) (a ∷ b ∷ c ∷ [])) (F.det (F.scaled J A) (F.scaled K B) (F.scaled L C)) ((J ⊗ K ⊗ L) ⊗ F.det A B C) tt

-- two triples of points, place by place of one position
pub record AlikeTurns (a b c u v z : Vector) : Type 0 where
  pub first : IsPoint a × IsPoint b × IsPoint c
  pub second : IsPoint u × IsPoint v × IsPoint z
  pub same : Same a u × Same b v × Same c z

pub swapped : {a b c u v z : Vector} → AlikeTurns a b c u v z → AlikeTurns u v z a b c
swapped {a} {b} {c} {u} {v} {z} h = record { first = h.second; second = h.first; same = (Same-swapped a u h.same.0, Same-swapped b v h.same.1, Same-swapped c z h.same.2) }

ratio : {a b c u v z : Vector} → AlikeTurns a b c u v z → (u.w *ℤ v.w *ℤ z.w) *ℤ turn a b c ≡ (a.w *ℤ b.w *ℤ c.w) *ℤ turn u v z
ratio {a} {b} {c} {u} {v} {z} h =
    sym (turn_scaled u.w v.w z.w a b c)
    ∙ (λ i. turn (times_weights a u h.same.0 i) (times_weights b v h.same.1 i) (times_weights c z h.same.2 i))
    ∙ turn_scaled a.w b.w c.w u v z

weight : {a b c u v z : Vector} → AlikeTurns a b c u v z → pos 0 <ℤ (a.w *ℤ b.w *ℤ c.w)
weight h = mul_pos (mul_pos h.first.0 h.first.1) h.first.2

pub turn_pos : {a b c u v z : Vector} → AlikeTurns a b c u v z → pos 0 <ℤ turn a b c → pos 0 <ℤ turn u v z
turn_pos h k = let p = mul_pos (weight (swapped h)) k in pos_of_mul (weight h) (omega (arith, linear, p, ratio h))

pub turn_neg : {a b c u v z : Vector} → AlikeTurns a b c u v z → turn a b c <ℤ pos 0 → turn u v z <ℤ pos 0
turn_neg h k = let p = mul_pos_neg (weight (swapped h)) k in neg_of_mul (weight h) (omega (arith, linear, p, ratio h))

pub turn_below : {a b c u v z : Vector} → AlikeTurns a b c u v z → int_lt (turn a b c) (pos 0) ≡ int_lt (turn u v z) (pos 0)
turn_below {a} {b} {c} {u} {v} {z} h = by (le_or_lt (pos 0) (turn a b c)) (le_or_lt (pos 0) (turn u v z))
  where
    by : (pos 0 ≤ℤ turn a b c) ⊎ (turn a b c <ℤ pos 0) → (pos 0 ≤ℤ turn u v z) ⊎ (turn u v z <ℤ pos 0) → int_lt (turn a b c) (pos 0) ≡ int_lt (turn u v z) (pos 0)
    by (inl p) (inl q) = lt_false p ∙ sym (lt_false q)
    by (inr p) q = lt_true p ∙ sym (lt_true (turn_neg h p))
    by (inl p) (inr q) = let f = turn_neg (swapped h) q in absurd (omega (arith, linear))

-- ---- the points of walls and cells
abbrev formal_halfway : F.Vec → F.Vec → F.Vec
formal_halfway u v = record { x = u.x ⊗ v.w ⊕ v.x ⊗ u.w; y = u.y ⊗ v.w ⊕ v.y ⊗ u.w; w = con (pos 2) ⊗ (u.w ⊗ v.w) }

abbrev formal_foot : F.Vec → F.Vec → F.Vec → F.Vec
formal_foot a b z = F.sum (F.scaled (b.x ⊗ z.w ⊖ z.x ⊗ b.w) a) (F.scaled (z.x ⊗ a.w ⊖ a.x ⊗ z.w) b)

halfway_scaled : (i j : ℤ) (u v : Vector) → halfway (scaled i u) (scaled j v) ≡ scaled (i *ℤ j) (halfway u v)
halfway_scaled i j u v = ring_vectors (env (i ∷ j ∷ []) (u ∷ v ∷ [])) (formal_halfway (F.scaled J A) (F.scaled K B)) (F.scaled (J ⊗ K) (formal_halfway A B)) tt

foot_scaled : (i j : ℤ) (a b z : Vector) → foot (segment (scaled i a) (scaled j b)) z ≡ scaled (i *ℤ j) (foot (segment a b) z)
foot_scaled i j a b z = ring_vectors (env (i ∷ j ∷ []) (a ∷ b ∷ z ∷ [])) (formal_foot (F.scaled J A) (F.scaled K B) C) (F.scaled (J ⊗ K) (formal_foot A B C)) tt

pub halfway_alike : (u v y z : Vector) → IsPoint y → IsPoint z → Same u y → Same v z → Same (halfway u v) (halfway y z)
halfway_alike u v y z hy hz e f =
    same_from_multiples (y.w *ℤ z.w) (u.w *ℤ v.w) (halfway u v) (halfway y z) (mul_pos hy hz)
    (sym (halfway_scaled y.w z.w u v) ∙ ap₂ halfway (times_weights u y e) (times_weights v z f) ∙ halfway_scaled u.w v.w y z)

-- the foot on a segment, times the weights of the other's ends
feet : (s t : Segment) (m : Vector) → AlikeSegment s t → scaled (t.a.w *ℤ t.b.w) (foot s m) ≡ scaled (s.a.w *ℤ s.b.w) (foot t m)
feet s t m e = sym (foot_scaled t.a.w t.b.w s.a s.b m) ∙ ap₂ (λ a b. foot (segment a b) m) (times_weights s.a t.a e.0) (times_weights s.b t.b e.1) ∙ foot_scaled s.a.w s.b.w t.a t.b m

pub cell_alike : (l r : Vector) (s t u v : Segment) → HasPoints u → HasPoints v → AlikeSegment s u → AlikeSegment t v → Same (cell_spot l r s t) (cell_spot l r u v)
cell_alike l r s t u v hu hv e f =
    let m = mediant l r in
    let i = u.a.w *ℤ u.b.w in
    let j = v.a.w *ℤ v.b.w in
    let k = s.a.w *ℤ s.b.w in
    let n = t.a.w *ℤ t.b.w in
    same_from_multiples (i *ℤ j) (k *ℤ n) (cell_spot l r s t) (cell_spot l r u v) (mul_pos (mul_pos hu.0 hu.1) (mul_pos hv.0 hv.1))
    (sym (halfway_scaled i j (foot s m) (foot t m)) ∙ ap₂ halfway (feet s u m e) (feet t v m f) ∙ halfway_scaled k n (foot u m) (foot v m))
