-- A point in the corner is even in each closed chain that is right of v, and whose segments are out of the corner or behind a line: from the point go straight towards v, and beside v out to the left.
use Rattle.std.proofs.Common.{◌≡◌, false, List, [], ◌∷◌, All, refl, ap₂, ℤ, pos, negsuc, ◌≤ℤ◌, ◌<ℤ◌, arith, inl, inr, get_or, ◌∙◌, ◌+ℤ◌, ◌-ℤ◌, ◌*ℤ◌}
use Rattle.std.proofs.lemmas.List.Elements.{All-head, All-tail}
use Rattle.plan_exact.specs.Expr.{con, ◌⊕◌, ◌⊖◌, ◌⊗◌, var}
use Rattle.plan_exact.specs.Formal.{A, B, J}
use Rattle.plan_exact.specs.Vectors.{env, dot}
use Rattle.plan_exact.proofs.Certificates.{lt_from}
use Rattle.plan_exact.proofs.Laws.{linear}
use Rattle.plan_exact.proofs.Signs.{signs, mul_nonneg, le_of_lt, square_nonneg, square_pos, mul_zero}
use Rattle.plan_spec.specs.Chain.{IsClosed}
use Rattle.plan_spec.specs.Parity.{parity, xor}
use Rattle.plan_spec.specs.Segment.{Segment, segment, Common, HasPoints, On}
use Rattle.plan_spec.specs.Vector.{Vector, LtX, IsPoint, LeX}
use Rattle.plan_plane.proofs.Segment.Apart.{From, beside_one, misses_by, from_chain, from_one, from_near, off_by}
use Rattle.plan_plane.proofs.Near.{step, step_point, step_value, along_zero}
use Rattle.plan_plane.proofs.Segment.Between.{between}
use Rattle.plan_cross.proofs.ParityLaw.Closed.{parity_constant}
use Rattle.plan_cross.proofs.ParityLaw.Tests.{over_before_both}
use Rattle.plan_tri.proofs.Corner.Corner.{InCorner, Corner, OutOfWay, corner_between, v_in_corner, towards_v, RightOf}

-- ---- left of all ends
pub left_of_all : (chain : List Segment) (z : Vector) → All (λ s. LtX z s.a × LtX z s.b) chain → parity chain z ≡ false
left_of_all [] z h = refl
left_of_all (s ∷ ss) z h =
    let k = All-head (λ s. LtX z s.a × LtX z s.b) s ss h in
    ap₂ xor (over_before_both s.a s.b z k.0 k.1) (left_of_all ss z (All-tail (λ s. LtX z s.a × LtX z s.b) s ss h))

-- the direction (-1, t, 0)
abbrev pub leftward : ℤ → Vector
leftward t = record { x = negsuc 0; y = t; w = pos 0 }

left_of : (v e : Vector) (n t : ℤ) → IsPoint e → pos 0 ≤ℤ n → LeX v e → LtX (step n v (leftward t)) e
left_of v e n t he hn h =
    lt_from (env (n ∷ []) (v ∷ e ∷ [])) (con (pos 1)) (J ⊗ (B.x ⊗ A.w ⊖ A.x ⊗ B.w) ⊕ B.w) ((J ⊗ A.x ⊕ con (negsuc 0)) ⊗ B.w) (B.x ⊗ (J ⊗ A.w ⊕ con (pos 0))) tt (search signs) (search signs)

-- ---- the way out of the corner
-- neither part of the way has a point of s
abbrev Free : Vector → Vector → ℤ → ℤ → Segment → Type 0
Free v z t n s = ¬ (Common (segment z (step n v z)) s) × ¬ (Common (segment (step n v z) (step n v (leftward t))) s)

record Out (v w u g l : Vector) (t : ℤ) (z : Vector) : Type 0 where
  corner : Corner v w u g
  at_v : pos 0 ≤ℤ dot l v
  beyond : From (λ n. pos 0 <ℤ dot l (step n v (leftward t)))
  point : IsPoint z
  inside : InCorner v w u g z
  at_z : pos 0 <ℤ dot l z

at_least_one : {m n : ℤ} → pos 0 <ℤ m → m ≤ℤ n → pos 1 ≤ℤ n
at_least_one h k = omega (arith, linear)

above_one : {n : ℤ} → pos 1 ≤ℤ n → pos 0 <ℤ n
above_one h = omega (arith, linear)

free : {v w u g l : Vector} {t : ℤ} {z : Vector} → Out v w u g l t z → (s : Segment) → HasPoints s × OutOfWay v w u g l s → From (λ n. Free v z t n s)
free {v} {w} {u} {g} {l} {t} {z} o s (hs, inl clean) =
    let hv = o.corner.point_v in
    let b = beside_one v z (leftward t) hv s (hs, λ on. clean v hv on (v_in_corner o.corner)) in
    record {
      least = b.least;
      positive = b.positive;
      on = λ n large.
          let one = at_least_one b.positive large in
          let d = b.on n large in
          let h1 = step_point v z n hv (le_of_lt o.point) (above_one one) in
          let h2 = step_point v (leftward t) n hv (omega (arith, linear)) (above_one one) in (
            λ c. clean c.0 c.1 c.3 (corner_between c.1 (between z (step n v z) c.0 o.point h1 c.1 c.2) o.inside (towards_v o.corner n one o.inside)),
            misses_by d.line (step n v z) (step n v (leftward t)) s h1 h2 hs d.at_b d.at_c d.first d.second,
          );
    }
free {v} {w} {u} {g} {l} {t} {z} o s (hs, inr behind) =
    let hv = o.corner.point_v in
    record {
      least = o.beyond.least;
      positive = o.beyond.positive;
      on = λ n large.
          let one = at_least_one o.beyond.positive large in
          let m : pos 0 ≤ℤ n = omega (arith, linear) in
          let h1 = step_point v z n hv (le_of_lt o.point) (above_one one) in
          let h2 = step_point v (leftward t) n hv (omega (arith, linear)) (above_one one) in
          let p : pos 0 <ℤ dot l (step n v z) = omega (arith, linear, step_value n v z l, mul_nonneg m o.at_v, o.at_z) in (
            misses_by l z (step n v z) s o.point h1 hs o.at_z p behind.first behind.second,
            misses_by l (step n v z) (step n v (leftward t)) s h1 h2 hs p (o.beyond.on n large) behind.first behind.second,
          );
    }

out : {v w u g l : Vector} {t : ℤ} {z : Vector} → Out v w u g l t z → (chain : List Segment) → All HasPoints chain → IsClosed chain → All (RightOf v) chain → All (OutOfWay v w u g l) chain → parity chain z ≡ false
out {v} {w} {u} {g} {l} {t} {z} o chain points closed rightward clear =
    let b = from_chain (λ n. Free v z t n) (λ s. HasPoints s × OutOfWay v w u g l s) (free o) chain (λ k d within. (points k d within, clear k d within)) in
    let n = b.least in
    let large : n ≤ℤ n = omega (arith, linear) in
    let one = at_least_one b.positive large in
    let m : pos 0 ≤ℤ n = omega (arith, linear) in
    let f = b.on n large in
    let hv = o.corner.point_v in
    let h1 = step_point v z n hv (le_of_lt o.point) (above_one one) in
    let h2 = step_point v (leftward t) n hv (omega (arith, linear)) (above_one one) in
    parity_constant chain z (step n v z) points closed o.point h1 (λ k d within. (f k d within).0)
    ∙ parity_constant chain (step n v z) (step n v (leftward t)) points closed h1 h2 (λ k d within. (f k d within).1)
    ∙ left_of_all chain (step n v (leftward t)) (λ k d within. (left_of v (get_or chain k d).a n t (points k d within).0 m (rightward k d within).0, left_of v (get_or chain k d).b n t (points k d within).1 m (rightward k d within).1))

-- ---- with a line through v that is not vertical
steep : (a c : ℤ) → ¬ (c ≡ pos 0) → pos 0 <ℤ (a *ℤ negsuc 0 +ℤ c *ℤ (c *ℤ (pos 1 +ℤ a *ℤ a)) +ℤ pos 0)
steep a c apart =
    let h : pos 0 ≤ℤ (c *ℤ c -ℤ pos 1) = omega (arith, linear, square_pos c apart) in
    let k : pos 0 ≤ℤ (pos 1 +ℤ a *ℤ a) = omega (arith, linear, square_nonneg a) in
    lt_from (a ∷ c ∷ []) (con (pos 4)) (con (pos 4) ⊗ ((var 1 ⊗ var 1 ⊖ con (pos 1)) ⊗ (con (pos 1) ⊕ var 0 ⊗ var 0)) ⊕ (con (pos 2) ⊗ var 0 ⊖ con (pos 1)) ⊗ (con (pos 2) ⊗ var 0 ⊖ con (pos 1)) ⊕ con (pos 3)) (con (pos 0)) (var 0 ⊗ con (negsuc 0) ⊕ var 1 ⊗ (var 1 ⊗ (con (pos 1) ⊕ var 0 ⊗ var 0)) ⊕ con (pos 0)) tt (search signs) (omega (arith, linear, mul_nonneg h k, square_nonneg (pos 2 *ℤ a -ℤ pos 1)))

leftward_value : (l : Vector) → ¬ (l.y ≡ pos 0) → pos 0 <ℤ dot l (leftward (l.y *ℤ (pos 1 +ℤ l.x *ℤ l.x)))
leftward_value l apart = omega (arith, linear, steep l.x l.y apart, mul_zero l.w)

pub beside : {v w u g : Vector} → Corner v w u g → (l : Vector) → dot l v ≡ pos 0 → ¬ (l.y ≡ pos 0) → (chain : List Segment) → All HasPoints chain → IsClosed chain → All (RightOf v) chain → All (OutOfWay v w u g l) chain → (z : Vector) → IsPoint z → InCorner v w u g z → pos 0 <ℤ dot l z → parity chain z ≡ false
beside {v} {w} {u} {g} k l zero apart chain points closed rightward clear z hz inside at_z =
    let t = l.y *ℤ (pos 1 +ℤ l.x *ℤ l.x) in
    let o : Out v w u g l t z = record {
      corner = k;
      at_v = omega (arith, linear);
      beyond = from_one (λ n large. omega (arith, linear, along_zero l v (leftward t) n zero, leftward_value l apart));
      point = hz;
      inside = inside;
      at_z = at_z;
    } in
    out o chain points closed rightward clear

-- ---- with a line that leaves v on its left
pub beside_ahead : {v w u g : Vector} → Corner v w u g → (l : Vector) → pos 0 <ℤ dot l v → (chain : List Segment) → All HasPoints chain → IsClosed chain → All (RightOf v) chain → All (OutOfWay v w u g l) chain → (z : Vector) → IsPoint z → InCorner v w u g z → pos 0 <ℤ dot l z → parity chain z ≡ false
beside_ahead {v} {w} {u} {g} k l at_v chain points closed rightward clear z hz inside at_z =
    let o : Out v w u g l (pos 0) z = record {
      corner = k;
      at_v = le_of_lt at_v;
      beyond = from_near l v (leftward (pos 0)) at_v;
      point = hz;
      inside = inside;
      at_z = at_z;
    } in
    out o chain points closed rightward clear

-- ---- off the chain, with no way at all
pub off_chain : {v w u g : Vector} (l : Vector) (chain : List Segment) → All HasPoints chain → All (OutOfWay v w u g l) chain → (z : Vector) → IsPoint z → InCorner v w u g z → pos 0 <ℤ dot l z → All (λ s. ¬ (On s z)) chain
off_chain {v} {w} {u} {g} l chain points clear z hz inside at_z k d within = by (clear k d within)
  where
    by : OutOfWay v w u g l (get_or chain k d) → ¬ (On (get_or chain k d) z)
    by (inl clean) = λ on. clean z hz on inside
    by (inr behind) = off_by l z (get_or chain k d) hz (points k d within) at_z behind.first behind.second
