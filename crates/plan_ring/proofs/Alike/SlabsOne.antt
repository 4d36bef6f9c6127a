-- Slabs of pieces that are alike, with lines in lowest terms, are alike; so they have one size.
use Rattle.std.proofs.Common.{◌≡◌, inl, inr, ℕ, suc, ◌<◌, List, [], length, get_or, All, sym, ap, ◌∙◌, subst, arith}
use Rattle.std.specs.List.{AllZip}
use Rattle.std.proofs.lemmas.Bool.{cases_lt}
use Rattle.std.proofs.lemmas.List.{get_or_past}
use Rattle.std.proofs.lemmas.List.Elements.{All-nil}
use Rattle.plan_exact.proofs.Laws.{linear}
use Rattle.plan_exact.proofs.Signs.{zero_of_mul_left}
use Rattle.plan_spec.specs.Vector.{Vector, IsPoint, SameX, SameY, Same}
use Rattle.plan_spec.specs.Segment.{Segment, HasPoints}
use Rattle.plan_spec.specs.Frame.{Frame}
use Rattle.plan_spec.specs.Maps.{IsLowestLine}
use Rattle.plan_spec.specs.Pieces.{Piece}
use Rattle.plan_spec.specs.Slabs.{nowhere, Slabs, AreSlabs, AreSpans, AreMarks, line_at, spans_of, marks_of, size}
use Rattle.plan_grid.proofs.Unique.{equal_from_same}
use Rattle.plan_slab.proofs.Order.Across.{IsSlab}
use Rattle.plan_ring.specs.Alike.{AlikeSegment}
use Rattle.plan_ring.proofs.Alike.Slabs.{AlikeSlabs, spans_long, marks_long}
use Rattle.plan_ring.proofs.Alike.SlabsLists.{equal_lists, rows_long}
use Rattle.plan_ring.proofs.Alike.SlabsGround.{AlikeGround}
use Rattle.plan_ring.proofs.Alike.SlabsRows.{lines_alike, spans_alike, spans_points, marks_alike}

-- ---- lines in lowest terms
equal_line : (l n : Vector) → IsPoint l → IsPoint n → IsLowestLine l → IsLowestLine n → SameX l n → l ≡ n
equal_line l n hl hn low other e =
    equal_from_same l n (omega (arith, linear)) (omega (arith, linear)) (λ d x y w. low.lowest d x w) (λ d x y w. other.lowest d x w) (e, level)
  where
    level : SameY l n
    level = zero_of_mul_left l.y n.w low.on_axis ∙ sym (zero_of_mul_left n.y l.w other.on_axis)

equal_lines : (ls ns : List Vector) → All IsPoint ls → All IsPoint ns → All IsLowestLine ls → All IsLowestLine ns → AllZip SameX ls ns → ls ≡ ns
equal_lines ls ns hl hn low other e =
    equal_lists SameX (λ l. IsPoint l × IsLowestLine l) (λ l n h k f. equal_line l n h.0 k.0 h.1 k.1 f) ls ns (λ k d within. (hl k d within, low k d within)) (λ k d within. (hn k d within, other k d within)) e

module _ {vs ws : List (List Vector)} {room : Frame} {ps qs : List Piece} (g : AlikeGround vs ws room ps qs) {σ τ : Slabs} (are : AreSlabs vs room ps σ) (are2 : AreSlabs ws room qs τ) (low : All IsLowestLine σ.lines) (low2 : All IsLowestLine τ.lines) where
  same : σ.lines ≡ τ.lines
  same = equal_lines σ.lines τ.lines are.lines.points are2.lines.points low low2 (lines_alike g σ.lines τ.lines are.lines are2.lines)

  slabs_long : length σ.spans ≡ length τ.spans
  slabs_long = omega (arith, are.slab_count, are2.slab_count, ap length same)

  marks_long_too : length σ.marks ≡ length τ.marks
  marks_long_too = omega (arith, are.line_count, are2.line_count, ap length same)

  slab_at : (k : ℕ) → k < length σ.spans → IsSlab (line_at σ k) (line_at σ (suc k))
  slab_at k within =
      let below : suc k < length σ.lines = omega (arith, are.slab_count) in
      record { left_point = are.lines.points k nowhere (omega arith); right_point = are.lines.points (suc k) nowhere below; wide = are.lines.rising k (suc k) nowhere (omega arith) below }

  -- those of the other between the same lines
  spans_there : (k : ℕ) → k < length σ.spans → AreSpans ws room qs (line_at σ k) (line_at σ (suc k)) (spans_of τ k)
  spans_there k within = subst (λ ls. AreSpans ws room qs (get_or ls k nowhere) (get_or ls (suc k) nowhere) (spans_of τ k)) (sym same) (are2.spans k (omega (arith, slabs_long)))

  marks_there : (k : ℕ) → k < length σ.marks → AreMarks qs (line_at σ k) (marks_of τ k)
  marks_there k within = subst (λ ls. AreMarks qs (get_or ls k nowhere) (marks_of τ k)) (sym same) (are2.marks k (omega (arith, marks_long_too)))

  spans : (k : ℕ) → AllZip AlikeSegment (spans_of σ k) (spans_of τ k) × All HasPoints (spans_of σ k) × All HasPoints (spans_of τ k)
  spans k = elim (cases_lt k (length σ.spans)) [
    | inl less ↦
        let slab = slab_at k less in
        let l = line_at σ k in
        let r = line_at σ (suc k) in
        (spans_alike g l r slab (spans_of σ k) (spans_of τ k) (are.spans k less) (spans_there k less), spans_points g.first l r slab (spans_of σ k) (are.spans k less), spans_points g.second l r slab (spans_of τ k) (spans_there k less))
    | inr past ↦ none (spans_of σ k) (spans_of τ k) (get_or_past σ.spans k [] past) (get_or_past τ.spans k [] (omega (arith, slabs_long)))
  ]
    where
      none : (ss ts : List Segment) → ss ≡ [] → ts ≡ [] → AllZip AlikeSegment ss ts × All HasPoints ss × All HasPoints ts
      none ss ts e f = subst (λ ss. AllZip AlikeSegment ss ts × All HasPoints ss × All HasPoints ts) (sym e) (subst (λ ts. AllZip AlikeSegment [] ts × All HasPoints [] × All HasPoints ts) (sym f) (tt, All-nil HasPoints, All-nil HasPoints))

  marks : (k : ℕ) → AllZip Same (marks_of σ k) (marks_of τ k) × All IsPoint (marks_of σ k) × All IsPoint (marks_of τ k)
  marks k = elim (cases_lt k (length σ.marks)) [
    | inl less ↦ (marks_alike g (line_at σ k) (marks_of σ k) (marks_of τ k) (are.lines.points k nowhere (omega (arith, are.line_count))) (are.marks k less) (marks_there k less), (are.marks k less).points, (marks_there k less).points)
    | inr past ↦ none (marks_of σ k) (marks_of τ k) (get_or_past σ.marks k [] past) (get_or_past τ.marks k [] (omega (arith, marks_long_too)))
  ]
    where
      none : (ms ns : List Vector) → ms ≡ [] → ns ≡ [] → AllZip Same ms ns × All IsPoint ms × All IsPoint ns
      none ms ns e f = subst (λ ms. AllZip Same ms ns × All IsPoint ms × All IsPoint ns) (sym e) (subst (λ ns. AllZip Same [] ns × All IsPoint [] × All IsPoint ns) (sym f) (tt, All-nil IsPoint, All-nil IsPoint))

  pub alike_slabs : AlikeSlabs σ τ
  alike_slabs = record {
    lines = same;
    slab_count = slabs_long;
    line_count = marks_long_too;
    spans = λ k. (spans k).0;
    marks = λ k. (marks k).0;
    span_points = λ k. ((spans k).1, (spans k).2);
    mark_points = λ k. ((marks k).1, (marks k).2);
  }

pub alike_size : {σ τ : Slabs} → AlikeSlabs σ τ → size σ ≡ size τ
alike_size {σ} {τ} a = omega (arith, rows_long σ.spans τ.spans a.slab_count (spans_long a), rows_long σ.marks τ.marks a.line_count (marks_long a))
