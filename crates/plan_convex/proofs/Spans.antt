-- What a covered part tells of the whole edge: a polygon that covers no point but perhaps the two ends covers none, since beside a covered end points are covered; and a part that is not empty has a point.
use Rattle.std.proofs.Common.{◌≡◌, ◌↔◌, ℕ, ◌*◌, ◌<◌, pos, ◌+ℤ◌, ◌-ℤ◌, ◌*ℤ◌, ◌<ℤ◌, List, [], ◌∷◌, Some, ap, arith}
use Rattle.std.proofs.lemmas.Int.{ints}
use Rattle.plan_exact.specs.Expr.{var, con, ◌⊕◌, ◌⊖◌, ◌⊗◌}
use Rattle.plan_exact.specs.Sign.{is_negative, is_zero, is_positive}
use Rattle.plan_exact.proofs.Certificates.{lt_from}
use Rattle.plan_exact.proofs.Laws.{linear, mul_comm}
use Rattle.plan_exact.proofs.Signs.{signs, sign_of, sub_nonneg, mul_le_mul, zero_of_mul_left, mul_nonneg, le_of_lt}
use Rattle.plan_spec.specs.Vector.{Vector, IsPoint}
use Rattle.plan_spec.specs.Boundary.{StrictlyInside}
use Rattle.plan_spec.specs.Weights.{Weights, IsWeights, IsInner, weighted}
use Rattle.plan_plane.proofs.Boundary.Beside.{near_first, near_last}
use Rattle.plan_plane.proofs.Boundary.Position.{strictly_same}
use Rattle.plan_plane.proofs.Segment.Combination.{on_combination}
use Rattle.plan_plane.proofs.Segment.Same.{Same-swapped}
use Rattle.plan_plane.proofs.Segment.Weights.{HasWeights, weights_on, weights_point, Where, inner, at_a, at_b, where_is, at_first, at_last}
use Rattle.plan_grid.specs.Fraction.{Fraction, SameValue}
use Rattle.plan_convex.specs.declared.part.Part.{Part}
use Rattle.plan_convex.specs.Parameter.{AtMost, Less, IsShare, fraction_at}
use Rattle.plan_convex.specs.Part.{InOpen}
use Rattle.plan_convex.specs.declared.clip.Span.{Span}
use Rattle.plan_convex.specs.Span.{start, finish, IsSpanOf, IsOutside, IsCovered}
use Rattle.plan_convex.proofs.Fractions.{IsFraction, at_most_less, less_at_most, not_both, weak}

-- none of the points other than the two ends
abbrev CoversNone : Vector → Vector → List Vector → Type 0
CoversNone a b vs = (z : Weights) → IsInner z → ¬ (StrictlyInside vs (weighted a b z))

pub outside : (a b : Vector) (vs : List Vector) → IsPoint a → IsPoint b → CoversNone a b vs → IsOutside a b vs
outside a b vs ha hb none z hz m inside = by (where_is w.at w.weights)
  where
    w : HasWeights a b z
    w = weights_on a b z ha hb hz m

    point : IsPoint (weighted a b w.at)
    point = weights_point a b w.at ha hb w.weights

    here : StrictlyInside vs (weighted a b w.at)
    here = strictly_same vs z (weighted a b w.at) hz point (Same-swapped (weighted a b w.at) z w.same) inside

    by : Where w.at → ⊥
    by (inner i) = none w.at i here
    by (at_a t) =
        let (least, positive, rest) = near_first vs a b (strictly_same vs (weighted a b w.at) a point ha (Same-swapped a (weighted a b w.at) (at_first a b w.at t)) here) in
        none (record { s = least; t = pos 1 }) (positive, omega (arith, linear)) (rest least (omega (arith, linear)))
    by (at_b s) =
        let (least, positive, rest) = near_last vs a b (strictly_same vs (weighted a b w.at) b point hb (Same-swapped b (weighted a b w.at) (at_last a b w.at s)) here) in
        none (record { s = pos 1; t = least }) (omega (arith, linear), positive) (rest least (omega (arith, linear)))

-- a part with nothing in it
pub outside_empty : (a b : Vector) (vs : List Vector) (p : Part) → IsPoint a → IsPoint b → IsShare p.from → IsShare p.to → AtMost p.to p.from → IsCovered a b vs (Some p) → IsOutside a b vs
outside_empty a b vs p ha hb hf ht le c = outside a b vs ha hb none
  where
    none : (z : Weights) → IsInner z → ¬ (StrictlyInside vs (weighted a b z))
    none z i inside =
        let m = (c z i).0 inside in
        let hz : IsFraction (fraction_at z) = omega (arith, linear, i.0, i.1) in
        not_both p.to p.from le (less_at_most p.from (fraction_at z) p.to hf.positive hz ht.positive m.0 (weak (fraction_at z) p.to m.1))

-- a place within an open part, the mediant of its ends
abbrev between : Part → Weights
between p = record { s = (p.from.den -ℤ p.from.num) +ℤ (p.to.den -ℤ p.to.num); t = p.from.num +ℤ p.to.num }

between_ends : (p : Part) → IsShare p.from → IsShare p.to → Less p.from p.to → IsInner (between p) × InOpen p (fraction_at (between p))
between_ends p hf ht less = (inside, open_part)
  where
    -- a fraction that is less than another is not 1, and one that is greater not 0
    up : p.from.num <ℤ p.from.den
    up = elim (sign_of (p.from.den -ℤ p.from.num)) [
      | is_positive k ↦ omega (arith, linear)
      | is_negative k ↦ absurd (omega (arith, linear, hf.upto))
      | is_zero e ↦
          let le = mul_nonneg (le_of_lt hf.positive) (sub_nonneg ht.upto) in
          let same : p.from.num ≡ p.from.den = omega (arith, linear) in
          absurd (omega (arith, linear, less, mul_le_mul p.from.den (le_of_lt hf.positive) ht.upto, mul_comm p.from.den p.to.den, ap (λ n. n *ℤ p.to.den) same))
    ]

    down : pos 0 <ℤ p.to.num
    down = elim (sign_of p.to.num) [
      | is_positive k ↦ k
      | is_negative k ↦ absurd (omega (arith, linear, ht.nonneg))
      | is_zero e ↦ absurd (omega (arith, linear, less, zero_of_mul_left p.to.num p.from.den e, mul_nonneg hf.nonneg (le_of_lt ht.positive)))
    ]

    inside : IsInner (between p)
    inside = (omega (arith, linear, up, ht.upto), omega (arith, linear, down, hf.nonneg))

    open_part : InOpen p (fraction_at (between p))
    open_part =
        let xs = p.from.num ∷ p.from.den ∷ p.to.num ∷ p.to.den ∷ [] in (
          lt_from xs (con (pos 1)) (var 2 ⊗ var 1 ⊖ var 0 ⊗ var 3) (var 0 ⊗ (((var 1 ⊖ var 0) ⊕ (var 3 ⊖ var 2)) ⊕ (var 0 ⊕ var 2))) ((var 0 ⊕ var 2) ⊗ var 1) tt (search signs) (search signs),
          lt_from xs (con (pos 1)) (var 2 ⊗ var 1 ⊖ var 0 ⊗ var 3) ((var 0 ⊕ var 2) ⊗ var 3) (var 2 ⊗ (((var 1 ⊖ var 0) ⊕ (var 3 ⊖ var 2)) ⊕ (var 0 ⊕ var 2))) tt (search signs) (search signs),
        )

pub not_outside : (a b : Vector) (vs : List Vector) (p : Part) → IsPoint a → IsPoint b → IsShare p.from → IsShare p.to → Less p.from p.to → IsCovered a b vs (Some p) → ¬ (IsOutside a b vs)
not_outside a b vs p ha hb hf ht less c none =
    let i = between_ends p hf ht less in
    let z = between p in
    let w : IsWeights (between p) = record { first = le_of_lt i.0.0; second = le_of_lt i.0.1; some = omega (arith, linear, i.0.0, i.0.1) } in
    none (weighted a b z) (weights_point a b z ha hb w) (on_combination z.s z.t a b w.first w.second) ((c z i.0).1 i.1)

-- ---- in other terms
same_at_most : (f g : Fraction) → SameValue f g → AtMost f g × AtMost g f
same_at_most f g e = (omega (arith, linear), omega (arith, linear))

pub less_same : (f g h : Fraction) → IsFraction f → IsFraction g → IsFraction h → SameValue f g → Less f h ↔ Less g h
less_same f g h hf hg hh e = let k = same_at_most f g e in (λ l. at_most_less g f h hg hf hh k.1 l, λ l. at_most_less f g h hf hg hh k.0 l)

pub same_less : (f g h : Fraction) → IsFraction f → IsFraction g → IsFraction h → SameValue f g → Less h f ↔ Less h g
same_less f g h hf hg hh e = let k = same_at_most f g e in (λ l. less_at_most h f g hh hf hg l k.0, λ l. less_at_most h g f hh hg hf l k.1)

-- the span is that of the part, in lowest terms
pub span_of : (a b : Vector) (vs : List Vector) (p : Part) (c : Span) → IsFraction p.from → IsFraction p.to → IsFraction (start c) → IsFraction (finish c) → SameValue (start c) p.from → SameValue (finish c) p.to → IsCovered a b vs (Some p) → IsSpanOf a b vs c
span_of a b vs p c hf ht hs he ef et h z i =
    let hz : IsFraction (fraction_at z) = omega (arith, linear, i.0, i.1) in
    let lo = less_same (start c) p.from (fraction_at z) hs hf hz ef in
    let hi = same_less (finish c) p.to (fraction_at z) he ht hz et in
    let m = h z i in
    (λ inside. let o = m.0 inside in (lo.1 o.0, hi.1 o.1), λ o. m.1 (lo.0 o.0, hi.0 o.1))

-- in unsigned numbers
pub positive_number : (d : ℕ) → 0 < d → pos 0 <ℤ pos d
positive_number d h = omega (arith, ints)

products_less : (a b c d : ℕ) → (pos a *ℤ pos d) <ℤ (pos b *ℤ pos c) → a * d < b * c
products_less a b c d h = omega (arith, ints, h)

pub less_numbers : (n0 d0 n1 d1 : ℕ) (p : Part) → 0 < d0 → 0 < d1 → IsFraction p.from → IsFraction p.to → SameValue (record { num = pos n0; den = pos d0 }) p.from → SameValue (record { num = pos n1; den = pos d1 }) p.to → Less p.from p.to → n0 * d1 < n1 * d0
less_numbers n0 d0 n1 d1 p hd he hf ht e f less =
    let s = positive_number d0 hd in
    let t = positive_number d1 he in
    let one = (less_same (record { num = pos n0; den = pos d0 }) p.from p.to s hf ht e).1 less in
    products_less n0 n1 d0 d1 ((same_less (record { num = pos n1; den = pos d1 }) p.to (record { num = pos n0; den = pos d0 }) t ht s f).1 one)
