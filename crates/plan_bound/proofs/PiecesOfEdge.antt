-- The gaps between the spans of an edge are its pieces: those that are one covered end of the edge go.
use Rattle.std.proofs.Common.{◌≡◌, ◌↔◌, inl, inr, ⊎_elim, ℕ, ◌<◌, ℤ, pos, ◌+ℤ◌, ◌-ℤ◌, ◌*ℤ◌, ◌≤ℤ◌, ◌<ℤ◌, Bool, true, false, ◌&&◌, not, List, [], ◌∷◌, length, All, Any, AllPairs, get_or, refl, sym, subst, arith}
use Rattle.std.specs.List.{filter}
use Rattle.std.proofs.lemmas.List.Elements.{All-map, All-weaker, All-filter}
use Rattle.std.proofs.lemmas.List.Kept.{AllPairs-filter}
use Rattle.plan_exact.specs.Expr.{Expr, var, con, ◌⊕◌, ◌⊖◌, ◌⊗◌}
use Rattle.plan_exact.specs.Vectors.{Vector}
use Rattle.plan_exact.proofs.Certificates.{le_from, lt_from, eq_from}
use Rattle.plan_exact.proofs.Laws.{linear, zero_mul, one_mul}
use Rattle.plan_exact.proofs.Signs.{signs, zeros}
use Rattle.plan_spec.specs.Vector.{IsPoint, Same, LtX, SameX, Before}
use Rattle.plan_spec.specs.Segment.{On, segment}
use Rattle.plan_spec.specs.Frame.{Frame}
use Rattle.plan_plane.proofs.Segment.Same.{on_same, Same-swapped}
use Rattle.plan_plane.proofs.Segment.Between.{flip}
use Rattle.plan_exact.proofs.Tests.{le_true}
use Rattle.std.proofs.lemmas.Bool.{and_parts, and_from}
use Rattle.plan_spec.specs.Weights.{Weights, IsWeights, weighted, IsInner}
use Rattle.plan_spec.specs.Boundary.{StrictlyInside, InRoom, IsUncovered}
use Rattle.plan_plane.proofs.Boundary.Blocks.{HasSpots}
use Rattle.plan_grid.specs.Fraction.{Fraction}
use Rattle.plan_convex.proofs.Fractions.{IsFraction, at_most_trans, not_both, at_most_or_less, at_most_true, share_from, share_upto}
use Rattle.plan_convex.specs.Parameter.{AtMost, Less, IsShare, fraction_at, along, at_most, zero, one}
use Rattle.plan_convex.specs.declared.part.Part.{Part}
use Rattle.plan_convex.specs.Part.{InOpen, InClosed}
use Rattle.plan_bound.specs.Gaps.{IsGap, AreGaps, gaps}
use Rattle.plan_plane.proofs.Segment.Weights.{HasWeights, weights_on, weights_point, at_first, at_last, Where, inner, at_a, at_b, where_is}
use Rattle.plan_spec.specs.Pieces.{ArePieces, IsPartOf}
use Rattle.plan_bound.specs.Edge.{Covered, Spans, stays, piece_of, pieces_on}
use Rattle.plan_plane.proofs.Lists.{any_with, any_weaker, any_filter, any_unfilter, any_to_map, any_map, all_pairs_map, none_of, no_one}
use Rattle.plan_plane.proofs.Rising.ByPoint.{different, before_once}
use Rattle.plan_plane.proofs.Boundary.Position.{strictly_same, uncovered_same}
use Rattle.plan_bound.proofs.GapsLeft.{gaps_are}
use Rattle.plan_bound.proofs.Parts.{on_part, share_point, share_on}
use Rattle.plan_plane.proofs.Boundary.Beside.{near_first, near_last}

-- ---- fractions from 0 to 1
zero_fraction : IsFraction zero
zero_fraction = omega (arith, linear)

one_fraction : IsFraction one
one_fraction = omega (arith, linear)

to_share : (f : Fraction) → IsFraction f → AtMost zero f → AtMost f one → IsShare f
to_share f hf h k = record { positive = hf; nonneg = omega (arith, linear, zero_mul f.den); upto = omega (arith, linear, one_mul f.den) }

covered_same : (sums : List (List Vector)) (z u : Vector) → IsPoint z → IsPoint u → Same z u → Covered sums z → Covered sums u
covered_same sums z u hz hu h c = any_weaker (λ vs. StrictlyInside vs z) (λ vs. StrictlyInside vs u) (λ vs k. strictly_same vs z u hz hu h k) sums c

-- ---- uncovered: in the room, and not covered
to_uncovered : (sums : List (List Vector)) (room : Frame) (z : Vector) → InRoom room z → ¬ (Covered sums z) → IsUncovered sums room z
to_uncovered sums room z h k = record { in_room = h; in_none = none_of (λ vs. StrictlyInside vs z) sums k }

not_covered : (sums : List (List Vector)) (room : Frame) (z : Vector) → IsUncovered sums room z → ¬ (Covered sums z)
not_covered sums room z h = no_one (λ vs. StrictlyInside vs z) sums h.in_none

-- ---- what is left of the part in the room, at weights
record Edge (sums : List (List Vector)) (room : Frame) (a b : Vector) (within : Part) (parts : List Part) (first last : Bool) : Type 0 where
  spans : Spans sums room a b within parts first last
  a_point : IsPoint a
  b_point : IsPoint b

-- the gaps of an edge
abbrev gaps_of : Part → List Part → List Part
gaps_of within parts = gaps within.from within.to parts

are_gaps : {sums : List (List Vector)} {room : Frame} {a b : Vector} {within : Part} {parts : List Part} {first last : Bool} → Edge sums room a b within parts first last → AreGaps within.from within.to parts (gaps_of within parts)
are_gaps {within = within} {parts = parts} e = gaps_are within.from within.to parts e.spans.in_room.from.positive e.spans.in_room.to.positive e.spans.covered.proper e.spans.sorted

-- an inner place in a gap is not covered
free_within : {sums : List (List Vector)} {room : Frame} {a b : Vector} {within : Part} {parts : List Part} {first last : Bool} (e : Edge sums room a b within parts first last) (z : Weights) → IsWeights z → IsInner z → Any (λ g. InClosed g (fraction_at z)) (gaps_of within parts) → ¬ (Covered sums (weighted a b z))
free_within {parts = parts} e z hz i some c = no_one (λ p. InOpen p (fraction_at z)) parts (((are_gaps e).exact (fraction_at z) hz.some).1 some).free ((e.spans.covered.exact z i).0 c)

step_weights : (m : ℤ) → pos 0 <ℤ m → IsWeights (record { s = m; t = pos 1 })
step_weights m h = record { first = omega (arith, linear); second = omega (arith, linear); some = omega (arith, linear) }

last_weights : (m : ℤ) → pos 0 <ℤ m → IsWeights (record { s = pos 1; t = m })
last_weights m h = record { first = omega (arith, linear); second = omega (arith, linear); some = omega (arith, linear) }

-- a place that is near enough to the first end is not beyond f, and one near enough to the last not before it
near_zero : (f : Fraction) (m : ℤ) → IsFraction f → Less zero f → f.den ≤ℤ m → AtMost (fraction_at (record { s = m; t = pos 1 })) f
near_zero f m hf h le =
    let n : pos 1 ≤ℤ f.num = omega (arith, linear, h, zero_mul f.den) in
    let p : pos 0 ≤ℤ (m +ℤ pos 1) = omega (arith, linear) in
    let q : pos 0 ≤ℤ (m -ℤ f.den +ℤ pos 1) = omega (arith, linear) in
    le_from (f.num ∷ f.den ∷ m ∷ []) (con (pos 1)) ((var 0 ⊖ con (pos 1)) ⊗ (var 2 ⊕ con (pos 1)) ⊕ ((var 2 ⊖ var 1) ⊕ con (pos 1))) (con (pos 1) ⊗ var 1) (var 0 ⊗ (var 2 ⊕ con (pos 1))) tt (search signs) (search signs)

near_one : (f : Fraction) (m : ℤ) → IsFraction f → Less f one → f.den ≤ℤ m → AtMost f (fraction_at (record { s = pos 1; t = m }))
near_one f m hf h le =
    let n : (f.num +ℤ pos 1) ≤ℤ f.den = omega (arith, linear, h, one_mul f.den) in
    let l : f.num ≤ℤ m = omega (arith, linear) in
    let p : pos 0 ≤ℤ m = omega (arith, linear) in
    le_from (f.num ∷ f.den ∷ m ∷ []) (con (pos 1)) (var 2 ⊗ (var 1 ⊖ (var 0 ⊕ con (pos 1))) ⊕ (var 2 ⊖ var 0)) (var 0 ⊗ (con (pos 1) ⊕ var 2)) (var 2 ⊗ var 1) tt (search signs) (search signs)

-- a gap at a covered first end is that end alone
first_gap : {sums : List (List Vector)} {room : Frame} {a b : Vector} {within : Part} {parts : List Part} {first last : Bool} (e : Edge sums room a b within parts first last) (g : Part) → IsGap within.from within.to g → Any (λ h. h ≡ g) (gaps_of within parts) → AtMost g.from zero → Covered sums a → AtMost g.to zero
first_gap {sums = sums} {a = a} {b = b} {within = within} {parts = parts} e g hg has begin (k, vs, below, is, inside) = ⊎_elim (λ h. h) beyond (at_most_or_less g.to zero)
  where
    beyond : Less zero g.to → AtMost g.to zero
    beyond h =
        let (least, positive, rest) = near_first vs a b inside in
        let m = least +ℤ g.to.den in
        let hd = hg.to in
        let w = step_weights m (omega (arith, linear)) in
        let low : AtMost zero (fraction_at (record { s = m; t = pos 1 })) = omega (arith, linear, zero_mul (m +ℤ pos 1)) in
        let at : InClosed g (fraction_at (record { s = m; t = pos 1 })) = (at_most_trans g.from zero (fraction_at (record { s = m; t = pos 1 })) hg.from zero_fraction w.some begin low, near_zero g.to m hg.to h (omega (arith, linear))) in
        absurd (free_within e (record { s = m; t = pos 1 }) w (omega (arith, linear), omega (arith, linear)) (any_weaker (λ h. h ≡ g) (λ h. InClosed h (fraction_at (record { s = m; t = pos 1 }))) (λ h f. subst (λ h. InClosed h (fraction_at (record { s = m; t = pos 1 }))) (sym f) at) (gaps_of within parts) has)
        (k, vs, below, is, rest m (omega (arith, linear))))

last_gap : {sums : List (List Vector)} {room : Frame} {a b : Vector} {within : Part} {parts : List Part} {first last : Bool} (e : Edge sums room a b within parts first last) (g : Part) → IsGap within.from within.to g → Any (λ h. h ≡ g) (gaps_of within parts) → AtMost one g.to → Covered sums b → AtMost one g.from
last_gap {sums = sums} {a = a} {b = b} {within = within} {parts = parts} e g hg has end (k, vs, below, is, inside) = ⊎_elim (λ h. h) before (at_most_or_less one g.from)
  where
    before : Less g.from one → AtMost one g.from
    before h =
        let (least, positive, rest) = near_last vs a b inside in
        let m = least +ℤ g.from.den in
        let hd = hg.from in
        let w = last_weights m (omega (arith, linear)) in
        let high : AtMost (fraction_at (record { s = pos 1; t = m })) one = omega (arith, linear, one_mul (pos 1 +ℤ m)) in
        let at : InClosed g (fraction_at (record { s = pos 1; t = m })) = (near_one g.from m hg.from h (omega (arith, linear)), at_most_trans (fraction_at (record { s = pos 1; t = m })) one g.to w.some one_fraction hg.to high end) in
        absurd (free_within e (record { s = pos 1; t = m }) w (omega (arith, linear), omega (arith, linear)) (any_weaker (λ h. h ≡ g) (λ h. InClosed h (fraction_at (record { s = pos 1; t = m }))) (λ h f. subst (λ h. InClosed h (fraction_at (record { s = pos 1; t = m }))) (sym f) at) (gaps_of within parts) has)
        (k, vs, below, is, rest m (omega (arith, linear))))

-- ---- the test
nand : (p x : Bool) → (p ≡ true → x ≡ true → ⊥) → not (p && x) ≡ true
nand true true h = absurd (h refl refl)
nand true false h = refl
nand false x h = refl

of_nand : (p x : Bool) → not (p && x) ≡ true → p ≡ true → x ≡ true → ⊥
of_nand true true e f g = absurd (cc)
of_nand true false e f g = absurd (cc)
of_nand false x e f g = absurd (cc)

before_zero : (z : Weights) → IsWeights z → AtMost (fraction_at z) zero → z.t ≡ pos 0
before_zero z hz h = omega (arith, linear, hz.second, zero_mul (z.s +ℤ z.t))

beyond_one : (z : Weights) → IsWeights z → AtMost one (fraction_at z) → z.s ≡ pos 0
beyond_one z hz h = omega (arith, linear, hz.first, one_mul (z.s +ℤ z.t))

at_zero : (z : Weights) → z.t ≡ pos 0 → AtMost (fraction_at z) zero
at_zero z e = omega (arith, linear, zero_mul (z.s +ℤ z.t))

at_one : (z : Weights) → z.s ≡ pos 0 → AtMost one (fraction_at z)
at_one z e = omega (arith, linear, one_mul (z.s +ℤ z.t))

-- ---- exactly the uncovered points, at weights
abbrev InGaps : Part → List Part → Bool → Bool → Fraction → Type 0
InGaps within parts first last f = Any (λ g. InClosed g f) (filter (stays first last) (gaps_of within parts))

free_of : {sums : List (List Vector)} {room : Frame} {a b : Vector} {within : Part} {parts : List Part} {first last : Bool} (e : Edge sums room a b within parts first last) (z : Weights) → IsWeights z → ¬ (Covered sums (weighted a b z)) → Where z → All (λ p. ¬ (InOpen p (fraction_at z))) parts
free_of {parts = parts} e z hz off (inner i) = none_of (λ p. InOpen p (fraction_at z)) parts (λ some. off ((e.spans.covered.exact z i).1 some))
free_of {parts = parts} e z hz off (at_a t) = λ k d within i. let p = get_or parts k d in let h = e.spans.covered.shares k d within in
    not_both (fraction_at z) p.from (at_most_trans (fraction_at z) zero p.from hz.some zero_fraction h.0.positive (at_zero z t) (share_from p.from h.0)) i.0
free_of {parts = parts} e z hz off (at_b s) = λ k d within i. let p = get_or parts k d in let h = e.spans.covered.shares k d within in
    not_both p.to (fraction_at z) (at_most_trans p.to one (fraction_at z) h.1.positive one_fraction hz.some (share_upto p.to h.1) (at_one z s)) i.1

into_gaps : {sums : List (List Vector)} {room : Frame} {a b : Vector} {within : Part} {parts : List Part} {first last : Bool} (e : Edge sums room a b within parts first last) (z : Weights) → IsWeights z → IsUncovered sums room (weighted a b z) → InGaps within parts first last (fraction_at z)
into_gaps {sums = sums} {room = room} {a = a} {b = b} {within = within} {parts = parts} {first = first} {last = last} e z hz u =
    any_filter (λ g. InClosed g (fraction_at z)) (stays first last) (gaps_of within parts)
    (any_with (IsGap within.from within.to) (λ g. InClosed g (fraction_at z)) (λ g. (stays first last g ≡ true) × InClosed g (fraction_at z)) (λ g hg i. (and_from _ _ (nand first (at_most g.to zero) (low g hg i)) (nand last (at_most one g.from) (high g hg i)), i)) (gaps_of within parts) (are_gaps e).proper some)
  where
    off : ¬ (Covered sums (weighted a b z))
    off = not_covered sums room (weighted a b z) u

    point : IsPoint (weighted a b z)
    point = weights_point a b z e.a_point e.b_point hz

    some : Any (λ g. InClosed g (fraction_at z)) (gaps_of within parts)
    some = let i = (e.spans.in_room.exact z hz).0 u.in_room in ((are_gaps e).exact (fraction_at z) hz.some).0 (record { from = i.0; upto = i.1; free = free_of e z hz off (where_is z hz) })

    low : (g : Part) → IsGap within.from within.to g → InClosed g (fraction_at z) → first ≡ true → at_most g.to zero ≡ true → ⊥
    low g hg i f t = off (covered_same sums a (weighted a b z) e.a_point point (at_first a b z (before_zero z hz (at_most_trans (fraction_at z) g.to zero hz.some hg.to zero_fraction i.1 (at_most_true g.to zero t)))) (e.spans.first_covered.0 f))

    high : (g : Part) → IsGap within.from within.to g → InClosed g (fraction_at z) → last ≡ true → at_most one g.from ≡ true → ⊥
    high g hg i f t = off (covered_same sums b (weighted a b z) e.b_point point (at_last a b z (beyond_one z hz (at_most_trans one g.from (fraction_at z) one_fraction hg.from hz.some (at_most_true one g.from t) i.0))) (e.spans.last_covered.0 f))

out_of_gaps : {sums : List (List Vector)} {room : Frame} {a b : Vector} {within : Part} {parts : List Part} {first last : Bool} (e : Edge sums room a b within parts first last) (z : Weights) → IsWeights z → InGaps within parts first last (fraction_at z) → IsUncovered sums room (weighted a b z)
out_of_gaps {sums = sums} {room = room} {a = a} {b = b} {within = within} {parts = parts} {first = first} {last = last} e z hz found = to_uncovered sums room (weighted a b z) inside (by (where_is z hz))
  where
    some : Any (λ g. (stays first last g ≡ true) × InClosed g (fraction_at z)) (gaps_of within parts)
    some = any_unfilter (λ g. InClosed g (fraction_at z)) (stays first last) (gaps_of within parts) found

    any : Any (λ g. InClosed g (fraction_at z)) (gaps_of within parts)
    any = any_weaker (λ g. (stays first last g ≡ true) × InClosed g (fraction_at z)) (λ g. InClosed g (fraction_at z)) (λ g h. h.1) (gaps_of within parts) some

    inside : InRoom room (weighted a b z)
    inside = let l = ((are_gaps e).exact (fraction_at z) hz.some).1 any in (e.spans.in_room.exact z hz).1 (l.from, l.upto)

    point : IsPoint (weighted a b z)
    point = weights_point a b z e.a_point e.b_point hz

    gap : (k : ℕ) (g : Part) → k < length (gaps_of within parts) → get_or (gaps_of within parts) k g ≡ g → IsGap within.from within.to g
    gap k g below is = subst (IsGap within.from within.to) is ((are_gaps e).proper k g below)

    by : Where z → ¬ (Covered sums (weighted a b z))
    by (inner i) c = free_within e z hz i any c
    by (at_a t) c =
        let (k, g, below, is, (st, i)) = some in
        let hg = gap k g below is in
        let ca = covered_same sums (weighted a b z) a point e.a_point (Same-swapped a (weighted a b z) (at_first a b z t)) c in
        let h = first_gap e g hg (k, g, below, is, refl) (at_most_trans g.from (fraction_at z) zero hg.from hz.some zero_fraction i.0 (at_zero z t)) ca in
        of_nand first (at_most g.to zero) (and_parts _ _ st).0 (e.spans.first_covered.1 ca) (le_true h)
    by (at_b s) c =
        let (k, g, below, is, (st, i)) = some in
        let hg = gap k g below is in
        let cb = covered_same sums (weighted a b z) b point e.b_point (Same-swapped b (weighted a b z) (at_last a b z s)) c in
        let h = last_gap e g hg (k, g, below, is, refl) (at_most_trans one (fraction_at z) g.to one_fraction hz.some hg.to (at_one z s) i.1) cb in
        of_nand last (at_most one g.from) (and_parts _ _ st).1 (e.spans.last_covered.1 cb) (le_true h)

-- ---- along the edge
-- the variables of two fractions and two points' coordinates
abbrev terms : Fraction → Fraction → ℤ → ℤ → ℤ → ℤ → List ℤ
terms f g c v d w = f.num ∷ f.den ∷ g.num ∷ g.den ∷ c ∷ v ∷ d ∷ w ∷ []

abbrev coordinate : Expr → Expr → Expr → Expr → Expr
coordinate n d p q = (d ⊖ n) ⊗ p ⊕ n ⊗ q

less_x : (a b : Vector) (f g : Fraction) → Less f g → LtX a b → LtX (along a b f) (along a b g)
less_x a b f g h k =
    lt_from (terms f g a.x a.w b.x b.w) (con (pos 1)) ((var 2 ⊗ var 1 ⊖ var 0 ⊗ var 3) ⊗ (var 6 ⊗ var 5 ⊖ var 4 ⊗ var 7))
    (coordinate (var 0) (var 1) (var 4) (var 6) ⊗ coordinate (var 2) (var 3) (var 5) (var 7))
    (coordinate (var 2) (var 3) (var 4) (var 6) ⊗ coordinate (var 0) (var 1) (var 5) (var 7)) tt (search signs) (search signs)

same_x : (a b : Vector) (f g : Fraction) → SameX a b → SameX (along a b f) (along a b g)
same_x a b f g e =
    let d : b.x *ℤ a.w -ℤ a.x *ℤ b.w ≡ pos 0 = omega (arith, linear, e) in
    eq_from (terms f g a.x a.w b.x b.w) (con (pos 1)) ((var 0 ⊗ var 3 ⊖ var 2 ⊗ var 1) ⊗ (var 6 ⊗ var 5 ⊖ var 4 ⊗ var 7))
    (coordinate (var 0) (var 1) (var 4) (var 6) ⊗ coordinate (var 2) (var 3) (var 5) (var 7))
    (coordinate (var 2) (var 3) (var 4) (var 6) ⊗ coordinate (var 0) (var 1) (var 5) (var 7)) tt (search signs) (search zeros)

level_x : (a b : Vector) (f g : Fraction) → AtMost f g → AtMost g f → SameX (along a b f) (along a b g)
level_x a b f g h k =
    let d : f.num *ℤ g.den -ℤ g.num *ℤ f.den ≡ pos 0 = omega (arith, linear) in
    eq_from (terms f g a.x a.w b.x b.w) (con (pos 1)) ((var 0 ⊗ var 3 ⊖ var 2 ⊗ var 1) ⊗ (var 6 ⊗ var 5 ⊖ var 4 ⊗ var 7))
    (coordinate (var 0) (var 1) (var 4) (var 6) ⊗ coordinate (var 2) (var 3) (var 5) (var 7))
    (coordinate (var 2) (var 3) (var 4) (var 6) ⊗ coordinate (var 0) (var 1) (var 5) (var 7)) tt (search signs) (search zeros)

pub before_at : (a b : Vector) (f g : Fraction) → Before a b → Less f g → Before (along a b f) (along a b g)
before_at a b f g (inl k) h = inl (less_x a b f g h k)
before_at a b f g (inr (e, k)) h = inr (same_x a b f g e, less_x (flip a) (flip b) f g h k)

pub not_before_at : (a b : Vector) (f g : Fraction) → Before a b → AtMost f g → ¬ (Before (along a b g) (along a b f))
not_before_at a b f g k h = ⊎_elim (λ i. level (level_x a b f g h i) (level_x (flip a) (flip b) f g h i)) (λ i. before_once (along a b f) (along a b g) (before_at a b f g k i)) (at_most_or_less g f)
  where
    level : SameX (along a b f) (along a b g) → SameX (along (flip a) (flip b) f) (along (flip a) (flip b) g) → Before (along a b g) (along a b f) → ⊥
    level e i (inl m) = omega (arith, linear, e)
    level e i (inr m) = omega (arith, linear, i, m.1)

-- ---- the pieces
gap_shares : (within g : Part) → IsShare within.from → IsShare within.to → IsGap within.from within.to g → IsShare g.from × IsShare g.to
gap_shares within g hf ht h = (to_share g.from h.from low (at_most_trans g.from g.to one h.from h.to one_fraction h.onward high), to_share g.to h.to (at_most_trans zero g.from g.to zero_fraction h.from h.to low h.onward) high)
  where
    low : AtMost zero g.from
    low = at_most_trans zero within.from g.from zero_fraction hf.positive h.from (share_from within.from hf) h.after

    high : AtMost g.to one
    high = at_most_trans g.to within.to one h.to ht.positive one_fraction h.upto (share_upto within.to ht)

pub edge_pieces : (sums : List (List Vector)) (room : Frame) (a b : Vector) (within : Part) (parts : List Part) (first last : Bool) → HasSpots room → IsPoint a → IsPoint b → Before a b → Spans sums room a b within parts first last
    → ArePieces sums room (segment a b) (pieces_on a b within parts first last)
edge_pieces sums room a b within parts first last spots ha hb onward spans = record {
  along = All-map (IsPartOf (segment a b)) (piece_of a b) gs (All-weaker (IsGap within.from within.to) (λ g. IsPartOf (segment a b) (piece_of a b g))
      (λ g h. let s = gap_shares within g spans.in_room.from spans.in_room.to h in record {
        points = (share_point a b g.from ha hb s.0, share_point a b g.to ha hb s.1);
        from = share_on a b g.from s.0;
        to = share_on a b g.to s.1;
        onward = not_before_at a b g.from g.to onward h.onward;
      }) gs proper);
  apart = all_pairs_map (λ p q. Before p.b q.a) (piece_of a b) gs (λ i j d less below. before_at a b (get_or (filter (stays first last) (gaps within.from within.to parts)) i d).to (get_or (filter (stays first last) (gaps within.from within.to parts)) j d).from onward (alone i j d less below));
  exact = λ z hz on_z. let w = weights_on a b z ha hb hz on_z in (into z hz w, out z hz w);
}
  where
    edge : Edge sums room a b within parts first last
    edge = record { spans = spans; a_point = ha; b_point = hb }

    gs : List Part
    gs = filter (stays first last) (gaps within.from within.to parts)

    proper : All (IsGap within.from within.to) (filter (stays first last) (gaps within.from within.to parts))
    proper = All-filter (stays first last) (IsGap within.from within.to) (gaps within.from within.to parts) (are_gaps edge).proper

    alone : AllPairs (λ g h. Less g.to h.from) (filter (stays first last) (gaps within.from within.to parts))
    alone = AllPairs-filter (λ g h. Less g.to h.from) (stays first last) (gaps within.from within.to parts) (are_gaps edge).apart

    onto : (z : Vector) → IsPoint z → (w : HasWeights a b z) → (g : Part) → IsGap within.from within.to g → On (piece_of a b g) z ↔ InClosed g (fraction_at w.at)
    onto z hz w g h =
        let s = gap_shares within g spans.in_room.from spans.in_room.to h in
        let p = share_point a b g.from ha hb s.0 in
        let q = share_point a b g.to ha hb s.1 in
        let u = weights_point a b w.at ha hb w.weights in
        let o = on_part a b g.from g.to w.at ha hb (different a b onward) s.0 s.1 h.onward w.weights in (
          λ m. o.0 (on_same (along a b g.from) (along a b g.to) z (weighted a b w.at) p q hz u (Same-swapped (weighted a b w.at) z w.same) m),
          λ i. on_same (along a b g.from) (along a b g.to) (weighted a b w.at) z p q u hz w.same (o.1 i),
        )

    into : (z : Vector) → IsPoint z → HasWeights a b z → IsUncovered sums room z → Any (λ p. On p z) (pieces_on a b within parts first last)
    into z hz w u =
        let free = uncovered_same sums room z (weighted a b w.at) spots hz (weights_point a b w.at ha hb w.weights) (Same-swapped (weighted a b w.at) z w.same) u in
        any_to_map (λ p. On p z) (piece_of a b) (filter (stays first last) (gaps within.from within.to parts))
        (any_with (IsGap within.from within.to) (λ g. InClosed g (fraction_at w.at)) (λ g. On (piece_of a b g) z) (λ g h i. (onto z hz w g h).1 i) (filter (stays first last) (gaps within.from within.to parts)) proper (into_gaps edge w.at w.weights free))

    out : (z : Vector) → IsPoint z → HasWeights a b z → Any (λ p. On p z) (pieces_on a b within parts first last) → IsUncovered sums room z
    out z hz w some =
        uncovered_same sums room (weighted a b w.at) z spots (weights_point a b w.at ha hb w.weights) hz w.same
        (out_of_gaps edge w.at w.weights
        (any_with (IsGap within.from within.to) (λ g. On (piece_of a b g) z) (λ g. InClosed g (fraction_at w.at)) (λ g h m. (onto z hz w g h).0 m) (filter (stays first last) (gaps within.from within.to parts)) proper
        (any_map (λ p. On p z) (piece_of a b) (filter (stays first last) (gaps within.from within.to parts)) some)))
