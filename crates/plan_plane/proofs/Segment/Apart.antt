-- A segment is kept apart from a point that it does not have, and from all points near it, by a covector that is positive there and not at its ends.
use Rattle.std.proofs.Common.{ℤ, pos, ◌≤ℤ◌, ◌<ℤ◌, arith, ◌⊎◌, inl, inr, neg_ℤ, ◌+ℤ◌, List, [], ◌∷◌, All}
use Rattle.std.proofs.lemmas.List.Elements.{All-head, All-tail, All-nil, All-cons}
use Rattle.plan_exact.specs.Sign.{Sign, is_negative, is_zero, is_positive}
use Rattle.plan_exact.specs.Vectors.{dot, opposite, cross}
use Rattle.plan_exact.proofs.Laws.{linear}
use Rattle.plan_exact.proofs.Signs.{le_of_eq, le_or_lt, sign_of}
use Rattle.plan_exact.proofs.Vectors.{dot_opposite, cross_on_left, cross_on_right}
use Rattle.plan_spec.specs.Segment.{Segment, On, HasPoints, segment, Common}
use Rattle.plan_spec.specs.Vector.{Vector, IsPoint, Same, turn}
use Rattle.plan_plane.proofs.Segment.Facing.{facing, facing_from, facing_to}
use Rattle.plan_plane.proofs.Near.{step, near_pos}
use Rattle.plan_plane.proofs.Segment.Between.{Between, pos_at, between_same, on, swapped, between, nonneg_at}
use Rattle.plan_plane.proofs.Segment.Middle.{first, second, Middle, third, middle}
use Rattle.plan_plane.proofs.Segment.Same.{Same-swapped}

-- ---- a segment apart from a point
pub record Apart (s : Segment) (z : Vector) : Type 0 where
  pub line : Vector
  pub at : pos 0 <ℤ dot line z
  pub first : dot line s.a ≤ℤ pos 0
  pub second : dot line s.b ≤ℤ pos 0

-- a is between z and b, and is not z
beyond : (a b z : Vector) → IsPoint a → IsPoint z → ¬ (Same z a) → Between z b a → (pos 0 <ℤ dot (facing a z) z) × (dot (facing a z) a ≤ℤ pos 0) × (dot (facing a z) b ≤ℤ pos 0)
beyond a b z ha hz apart m = (here, le_of_eq (facing_from a z), by (le_or_lt (pos 0) (neg_ℤ (dot (facing a z) b))))
  where
    here : pos 0 <ℤ dot (facing a z) z
    here = facing_to a z (λ e. apart (Same-swapped a z e))

    by : (pos 0 ≤ℤ neg_ℤ (dot (facing a z) b)) ⊎ (neg_ℤ (dot (facing a z) b) <ℤ pos 0) → dot (facing a z) b ≤ℤ pos 0
    by (inl h) = omega (arith, linear)
    by (inr h) =
        let k : pos 0 <ℤ dot (facing a z) b = omega (arith, linear) in
        absurd (omega (arith, linear, facing_from a z, pos_at ha m (facing a z) here k))

pub separated : (s : Segment) (z : Vector) → HasPoints s → IsPoint z → ¬ (On s z) → Apart s z
separated s z hs hz off = by (sign_of (turn s.a s.b z))
  where
    not_first : ¬ (Same z s.a)
    not_first e = off (on (between_same s.a s.b z hs.0 hz (Same-swapped z s.a e)))

    not_second : ¬ (Same z s.b)
    not_second e = off (on (swapped (between_same s.b s.a z hs.1 hz (Same-swapped z s.b e))))

    in_line : Middle s.a s.b z → Apart s z
    in_line (first m) =
        let h = beyond s.a s.b z hs.0 hz not_first (swapped m) in
        record { line = facing s.a z; at = h.0; first = h.1; second = h.2 }
    in_line (second m) =
        let h = beyond s.b s.a z hs.1 hz not_second (swapped m) in
        record { line = facing s.b z; at = h.0; first = h.2; second = h.1 }
    in_line (third m) = absurd (off (on m))

    by : Sign (turn s.a s.b z) → Apart s z
    by (is_positive h) = record { line = cross s.a s.b; at = h; first = le_of_eq (cross_on_left s.a s.b); second = le_of_eq (cross_on_right s.a s.b) }
    by (is_zero e) = in_line (middle s.a s.b z hs.0 hs.1 hz e)
    by (is_negative h) =
        let l = cross s.a s.b in
        record {
          line = opposite l;
          at = omega (arith, linear, dot_opposite l z);
          first = omega (arith, linear, dot_opposite l s.a, cross_on_left s.a s.b);
          second = omega (arith, linear, dot_opposite l s.b, cross_on_right s.a s.b);
        }

-- a covector that is positive at two points, and not at the ends of s: their segment misses s
pub misses_by : (l u v : Vector) (s : Segment) → IsPoint u → IsPoint v → HasPoints s → pos 0 <ℤ dot l u → pos 0 <ℤ dot l v → dot l s.a ≤ℤ pos 0 → dot l s.b ≤ℤ pos 0 → ¬ (Common (segment u v) s)
misses_by l u v s hu hv hs pu pv na nb c =
    let p = pos_at c.1 (between u v c.0 hu hv c.1 c.2) l pu pv in
    let q = nonneg_at (between s.a s.b c.0 hs.0 hs.1 c.1 c.3) (opposite l) (omega (arith, linear, dot_opposite l s.a)) (omega (arith, linear, dot_opposite l s.b)) in
    omega (arith, linear, dot_opposite l c.0)

pub off_by : (l z : Vector) (s : Segment) → IsPoint z → HasPoints s → pos 0 <ℤ dot l z → dot l s.a ≤ℤ pos 0 → dot l s.b ≤ℤ pos 0 → ¬ (On s z)
off_by l z s hz hs p na nb o =
    let q = nonneg_at (between s.a s.b z hs.0 hs.1 hz o) (opposite l) (omega (arith, linear, dot_opposite l s.a)) (omega (arith, linear, dot_opposite l s.b)) in
    omega (arith, linear, dot_opposite l z)

-- ---- facts that hold from some number on, of each segment of a chain
pub record From (P : ℤ → Type 0) : Type 0 where
  pub least : ℤ
  pub positive : pos 0 <ℤ least
  pub on : (n : ℤ) → least ≤ℤ n → P n

pub from_both : {P Q : ℤ → Type 0} → From P → From Q → From (λ n. P n × Q n)
from_both f g = record {
  least = f.least +ℤ g.least;
  positive = let h = f.positive in let k = g.positive in omega (arith, linear);
  on = λ n large. let h = f.positive in let k = g.positive in (f.on n (omega (arith, linear)), g.on n (omega (arith, linear)));
}

pub from_one : {P : ℤ → Type 0} → ((n : ℤ) → pos 1 ≤ℤ n → P n) → From P
from_one h = record { least = pos 1; positive = omega (arith, linear); on = h }

-- positive at v, so positive near v
pub from_near : (l v p : Vector) → pos 0 <ℤ dot l v → From (λ n. pos 0 <ℤ dot l (step n v p))
from_near l v p h = let k = near_pos v p l (inl h) in record { least = k.least; positive = k.positive; on = k.beyond }

pub from_chain : (P : ℤ → Segment → Type 0) (Q : Segment → Type 0) → ((s : Segment) → Q s → From (λ n. P n s)) → (chain : List Segment) → All Q chain → From (λ n. All (P n) chain)
from_chain P Q f [] h = from_one (λ n k. All-nil (P n))
from_chain P Q f (s ∷ ss) h =
    let b = from_both (f s (All-head Q s ss h)) (from_chain P Q f ss (All-tail Q s ss h)) in
    record { least = b.least; positive = b.positive; on = λ n k. All-cons (P n) s ss (b.on n k).0 (b.on n k).1 }

-- ---- small steps from a point that is off the segments
-- a covector that is positive at three points, and not at the ends of s
pub record Beside (a b c : Vector) (s : Segment) : Type 0 where
  pub line : Vector
  pub at_a : pos 0 <ℤ dot line a
  pub at_b : pos 0 <ℤ dot line b
  pub at_c : pos 0 <ℤ dot line c
  pub first : dot line s.a ≤ℤ pos 0
  pub second : dot line s.b ≤ℤ pos 0

pub beside_one : (v p q : Vector) → IsPoint v → (s : Segment) → HasPoints s × ¬ (On s v) → From (λ n. Beside v (step n v p) (step n v q) s)
beside_one v p q hv s h =
    let a = separated s v h.0 hv h.1 in
    let b = from_both (from_near a.line v p a.at) (from_near a.line v q a.at) in
    record { least = b.least; positive = b.positive; on = λ n k. record { line = a.line; at_a = a.at; at_b = (b.on n k).0; at_c = (b.on n k).1; first = a.first; second = a.second } }

pub small_step : (chain : List Segment) → All HasPoints chain → (v p q : Vector) → IsPoint v → All (λ s. ¬ (On s v)) chain → From (λ n. All (Beside v (step n v p) (step n v q)) chain)
small_step chain h v p q hv off =
    from_chain (λ n. Beside v (step n v p) (step n v q)) (λ s. HasPoints s × ¬ (On s v)) (beside_one v p q hv) chain (λ k d within. (h k d within, off k d within))
