-- Lines, marks and spans as they are kept, by number, and what searches in them find.
use Rattle.std.proofs.Common.{◌≡◌, ℕ, suc, ◌+◌, ◌<◌, ℤ, pos, ◌-ℤ◌, ◌*ℤ◌, ◌<ℤ◌, List, [], ◌∷◌, map, length, get_or, All, Option, Result, MatchOption, int_cmp, Ordering, refl, sym, ap, ◌∙◌, subst, arith}
use Rattle.std.specs.List.Sorted.{IsBinarySearchResult, IsSearchInRange}
use Rattle.std.proofs.lemmas.Cmp.{int_ranked}
use Rattle.std.proofs.lemmas.List.{get_or-map}
use Rattle.plan_exact.specs.Expr.{var, con, ◌⊖◌, ◌⊗◌, neg}
use Rattle.plan_exact.proofs.Certificates.{eq_from}
use Rattle.plan_exact.proofs.Laws.{linear}
use Rattle.plan_exact.proofs.Signs.{zeros, signs, mul_pos}
use Rattle.plan_spec.specs.Vector.{Vector, IsPoint, turn}
use Rattle.plan_spec.specs.Slabs.{InSlab, nowhere, nothing, line_at, spans_of, marks_of}
use Rattle.plan_grid.specs.Fraction.{Fraction, fraction_cmp, point_at, IsRatio}
use Rattle.plan_grid.specs.FractionOrder.{fraction_cmp_ranked}
use Rattle.plan_grid.specs.Order.{IsOrder}
use Rattle.plan_grid.specs.Spot.{spot_seen}
use Rattle.plan_grid.specs.declared.spot.Spot.{Spot}
use Rattle.plan_slab.specs.declared.strand.Strand.{Strand}
use Rattle.plan_slab.specs.Decomposition.{AreInOrder, IsPlaced}
use Rattle.plan_slab.specs.EventLines.{IsLine, IsXOf}
use Rattle.plan_slab.specs.Heights.{IsHeightOn}
use Rattle.plan_slab.specs.LineMarks.{IsYOf}
use Rattle.plan_slab.specs.Seen.{line_seen, marks_seen, strand_seen}
use Rattle.plan_slab.specs.Subdivision.{Subdivision, slabs_of}
use Rattle.plan_slab.proofs.Counts.{line_count, spans_are, span_count, marks_are, mark_count}
use Rattle.plan_slab.proofs.Regions.Rows.{right_of, above_mark, above_span}
use Rattle.plan_map.specs.Located.{IsBetween, IsMarkBelow, IsSpanBelow}
use Rattle.plan_map.proofs.Location.Sinking.{falls_sinks, IsRowOf, IsFound, row_found, drop_found, order_scaled}
use Rattle.plan_map.proofs.Location.Rows.{lines_fall, marks_sink, spans_sink}

pub spot_point : (s : Spot) → IsPoint (spot_seen s)
spot_point s = omega (arith, linear)

-- ---- orders
-- a / p to x / q, where the latter is the coordinate c / w of a point
scaled_line : (a p x q c w : ℤ) → x *ℤ w ≡ c *ℤ q → q *ℤ (c *ℤ p -ℤ a *ℤ w) ≡ w *ℤ (x *ℤ p -ℤ a *ℤ q)
scaled_line a p x q c w is =
    let e : x *ℤ w -ℤ c *ℤ q ≡ pos 0 = omega (arith, linear, is) in
    eq_from (a ∷ p ∷ x ∷ q ∷ c ∷ w ∷ []) (con (pos 1)) (neg (var 1) ⊗ (var 2 ⊗ var 5 ⊖ var 4 ⊗ var 3)) (var 3 ⊗ (var 4 ⊗ var 1 ⊖ var 0 ⊗ var 5)) (var 5 ⊗ (var 2 ⊗ var 1 ⊖ var 0 ⊗ var 3)) tt (search signs) (search zeros)

scaled_mark : (a p y q c w l : ℤ) → y *ℤ w ≡ c *ℤ q → q *ℤ (c *ℤ (l *ℤ p) -ℤ a *ℤ l *ℤ w) ≡ (l *ℤ w) *ℤ (y *ℤ p -ℤ a *ℤ q)
scaled_mark a p y q c w l is =
    let e : y *ℤ w -ℤ c *ℤ q ≡ pos 0 = omega (arith, linear, is) in
    eq_from (a ∷ p ∷ y ∷ q ∷ c ∷ w ∷ l ∷ []) (con (pos 1)) (neg (var 6 ⊗ var 1) ⊗ (var 2 ⊗ var 5 ⊖ var 4 ⊗ var 3)) (var 3 ⊗ (var 4 ⊗ (var 6 ⊗ var 1) ⊖ var 0 ⊗ var 6 ⊗ var 5)) ((var 6 ⊗ var 5) ⊗ (var 2 ⊗ var 1 ⊖ var 0 ⊗ var 3)) tt (search signs) (search zeros)

-- of a line to the x of z, and of a mark of the line l to the y of z
line_order : (f x : Fraction) (z : Vector) → IsRatio f → IsRatio x → z.w ≡ pos 1 → IsXOf z x → IsOrder (fraction_cmp f x) (pos 0) (z.x *ℤ f.den -ℤ f.num *ℤ z.w)
line_order f x z hf hx one is =
    let f_positive = hf.positive in
    let x_positive = hx.positive in
    order_scaled (fraction_cmp f x) (f.num *ℤ x.den) (x.num *ℤ f.den) (x.den) (z.w) (z.x *ℤ f.den -ℤ f.num *ℤ z.w) (fraction_cmp_ranked f x f_positive x_positive) (omega (arith, linear)) (omega (arith, linear)) (scaled_line f.num f.den x.num x.den z.x z.w is)

mark_order : (l f y : Fraction) (z : Vector) → pos 0 <ℤ l.den → IsRatio f → IsRatio y → z.w ≡ pos 1 → IsYOf z y → IsOrder (fraction_cmp f y) (pos 0) (z.y *ℤ (point_at l f).w -ℤ (point_at l f).y *ℤ z.w)
mark_order l f y z hl hf hy one is =
    let f_positive = hf.positive in
    let y_positive = hy.positive in
    order_scaled (fraction_cmp f y) (f.num *ℤ y.den) (y.num *ℤ f.den) (y.den) (l.den *ℤ z.w) (z.y *ℤ (l.den *ℤ f.den) -ℤ f.num *ℤ l.den *ℤ z.w) (fraction_cmp_ranked f y f_positive y_positive) (omega (arith, linear)) (mul_pos hl (omega (arith, linear))) (scaled_mark f.num f.den y.num y.den z.y z.w l.den is)

lines_row : (lines : List Fraction) (x : Fraction) (z : Vector) → All IsLine lines → IsRatio x → z.w ≡ pos 1 → IsXOf z x → IsRowOf (λ f. fraction_cmp f x) lines (right_of (map line_seen lines) z)
lines_row lines x z all hx one is k d within =
    subst (λ m. IsOrder (fraction_cmp (get_or lines k d) x) (pos 0) (z.x *ℤ m.w -ℤ m.x *ℤ z.w)) (sym (get_or-map line_seen lines k d nowhere within)) (line_order (get_or lines k d) x z (all k d within).ratio hx one is)

marks_row : (l : Fraction) (marks : List Fraction) (y : Fraction) (z : Vector) → pos 0 <ℤ l.den → All (IsHeightOn l) marks → IsRatio y → z.w ≡ pos 1 → IsYOf z y → IsRowOf (λ f. fraction_cmp f y) marks (above_mark (marks_seen l marks) z)
marks_row l marks y z hl all hy one is k d within =
    subst (λ m. IsOrder (fraction_cmp (get_or marks k d) y) (pos 0) (z.y *ℤ m.w -ℤ m.y *ℤ z.w)) (sym (get_or-map (point_at l) marks k d nowhere within)) (mark_order l (get_or marks k d) y z hl (all k d within).height.ratio hy one is)

-- of a strand to z, by heights
abbrev pub strand_order : Vector → Strand → Ordering
strand_order z s = int_cmp (pos 0) (turn (strand_seen s).a (strand_seen s).b z)

spans_row : (spans : List Strand) (z : Vector) → IsRowOf (strand_order z) spans (above_span (map strand_seen spans) z)
spans_row spans z k d within =
    subst (λ e. IsOrder (strand_order z (get_or spans k d)) (pos 0) (turn e.a e.b z)) (sym (get_or-map strand_seen spans k d nothing within)) (int_ranked (pos 0) (turn (strand_seen (get_or spans k d)).a (strand_seen (get_or spans k d)).b z) (strand_order z (get_or spans k d)) refl)

-- ---- what the searches find
zero_strand : Strand
zero_strand = record { a = record { x = pos 0; y = pos 0 }; b = record { x = pos 0; y = pos 0 } }

zero_fraction : Fraction
zero_fraction = record { num = pos 0; den = pos 0 }

module _ (s : Subdivision) (z : Vector) (one : z.w ≡ pos 1) where
  at_point : IsPoint z
  at_point = omega (arith, linear)

  pub line_found : (lines : List Fraction) (x : Fraction) (found : Result ℕ ℕ) → lines ≡ s.lines → All IsLine lines → IsRatio x → IsXOf z x → IsSearchInRange found (length lines) → IsBinarySearchResult (λ f. fraction_cmp f x) lines found
      → IsPlaced (slabs_of s) → IsFound (length (slabs_of s).lines) (right_of (slabs_of s).lines z) found
  line_found lines x found are all hx is range result placed =
      let v = right_of (slabs_of s).lines z in
      let n : length (slabs_of s).lines ≡ length lines = line_count s ∙ sym (ap length are) in
      let sinks = falls_sinks (length (slabs_of s).lines) v (lines_fall placed z at_point) in
      row_found (λ f. fraction_cmp f x) lines v zero_fraction (length (slabs_of s).lines) n (subst (λ ls. IsRowOf (λ f. fraction_cmp f x) lines (right_of (map line_seen ls) z)) are (lines_row lines x z all hx one is)) sinks found range result

  pub mark_found : (k : ℕ) (marks : List Fraction) (y : Fraction) (found : Result ℕ ℕ) (at : Option ℕ) → k < length s.lines → marks ≡ get_or s.marks k [] → ((d : Fraction) → All (IsHeightOn (get_or s.lines k d)) marks) → IsRatio y → IsYOf z y → IsSearchInRange found (length marks) → IsBinarySearchResult (λ f. fraction_cmp f y) marks found
      → MatchOption at ((j : ℕ) → ¬ (IsBetween (length marks) found j)) (IsBetween (length marks) found) → IsPlaced (slabs_of s)
      → IsMarkBelow (slabs_of s) k z at
  mark_found k marks y found at hk are all hy is range result between placed =
      let ms = marks_of (slabs_of s) k in
      let v = above_mark ms z in
      let l = get_or s.lines k zero_fraction in
      let e : ms ≡ marks_seen l marks = marks_are s k zero_fraction hk ∙ sym (ap (marks_seen l) are) in
      let n : length ms ≡ length marks = mark_count s k hk ∙ sym (ap length are) in
      let hs : k < length (slabs_of s).lines = omega (arith, hk, line_count s) in
      let hl : pos 0 <ℤ l.den = subst (λ m. pos 0 <ℤ m.w) (get_or-map line_seen s.lines k zero_fraction nowhere hk) (placed.line_points k hs) in
      let sinks = marks_sink placed z at_point k hs in
      let row = subst (λ ms. IsRowOf (λ f. fraction_cmp f y) marks (above_mark ms z)) (sym e) (marks_row l marks y z hl (all zero_fraction) hy one is) in
      drop_found (length ms) v found at sinks (row_found (λ f. fraction_cmp f y) marks v zero_fraction (length ms) n row sinks found range result) (subst (λ count. MatchOption at ((j : ℕ) → ¬ (IsBetween count found j)) (IsBetween count found)) (sym n) between)

  pub span_found : (k : ℕ) (spans : List Strand) (found : Result ℕ ℕ) (at : Option ℕ) → k + 1 < length s.lines → spans ≡ get_or s.spans k [] → IsSearchInRange found (length spans) → IsBinarySearchResult (strand_order z) spans found
      → MatchOption at ((j : ℕ) → ¬ (IsBetween (length spans) found j)) (IsBetween (length spans) found) → IsPlaced (slabs_of s) → AreInOrder (slabs_of s) → InSlab (line_at (slabs_of s) k) (line_at (slabs_of s) (suc k)) z
      → IsSpanBelow (slabs_of s) k z at
  span_found k spans found at hk are range result between placed order inside =
      let ss = spans_of (slabs_of s) k in
      let v = above_span ss z in
      let e : ss ≡ map strand_seen spans = spans_are s k ∙ sym (ap (map strand_seen) are) in
      let n : length ss ≡ length spans = span_count s k ∙ sym (ap length are) in
      let sinks = spans_sink placed order k (omega (arith, hk, line_count s)) z at_point inside in
      let row = subst (λ ss. IsRowOf (strand_order z) spans (above_span ss z)) (sym e) (spans_row spans z) in
      drop_found (length ss) v found at sinks (row_found (strand_order z) spans v zero_strand (length ss) n row sinks found range result) (subst (λ count. MatchOption at ((j : ℕ) → ¬ (IsBetween count found j)) (IsBetween count found)) (sym n) between)
