-- Slabs that are alike by position: the same lines, and spans and marks with the same positions place by place; by number, beyond the ends of lists too.
use Rattle.std.proofs.Common.{◌≡◌, ℕ, length, get_or, All, refl, ap, arith}
use Rattle.std.specs.List.{AllZip}
use Rattle.std.proofs.lemmas.List.Elements.{length_all_zip}
use Rattle.plan_exact.proofs.Laws.{linear}
use Rattle.plan_spec.specs.Vector.{IsPoint, Same}
use Rattle.plan_spec.specs.Segment.{HasPoints}
use Rattle.plan_spec.specs.Slabs.{nowhere, nothing, Slabs, line_at, spans_of, span_at, marks_of, mark_at}
use Rattle.plan_ring.specs.Alike.{AlikeSegment}
use Rattle.plan_ring.proofs.Alike.SlabsLists.{zip_at, all_at}

pub record AlikeSlabs (σ τ : Slabs) : Type 0 where
  pub lines : σ.lines ≡ τ.lines
  pub slab_count : length σ.spans ≡ length τ.spans
  pub line_count : length σ.marks ≡ length τ.marks
  pub spans : (k : ℕ) → AllZip AlikeSegment (spans_of σ k) (spans_of τ k)
  pub marks : (k : ℕ) → AllZip Same (marks_of σ k) (marks_of τ k)
  pub span_points : (k : ℕ) → All HasPoints (spans_of σ k) × All HasPoints (spans_of τ k)
  pub mark_points : (k : ℕ) → All IsPoint (marks_of σ k) × All IsPoint (marks_of τ k)

module _ {σ τ : Slabs} (a : AlikeSlabs σ τ) where
  pub line_same : (k : ℕ) → line_at σ k ≡ line_at τ k
  line_same k = ap (λ ls. get_or ls k nowhere) a.lines

  pub span_alike : (k i : ℕ) → AlikeSegment (span_at σ k i) (span_at τ k i)
  span_alike k i = zip_at AlikeSegment (spans_of σ k) (spans_of τ k) nothing nothing ((refl, refl), (refl, refl)) (a.spans k) i

  pub mark_alike : (k j : ℕ) → Same (mark_at σ k j) (mark_at τ k j)
  mark_alike k j = zip_at Same (marks_of σ k) (marks_of τ k) nowhere nowhere (refl, refl) (a.marks k) j

  pub span_ends : (k i : ℕ) → HasPoints (span_at σ k i) × HasPoints (span_at τ k i)
  span_ends k i = (all_at HasPoints (spans_of σ k) nothing (omega (arith, linear), omega (arith, linear)) (a.span_points k).0 i, all_at HasPoints (spans_of τ k) nothing (omega (arith, linear), omega (arith, linear)) (a.span_points k).1 i)

  pub mark_ends : (k j : ℕ) → IsPoint (mark_at σ k j) × IsPoint (mark_at τ k j)
  mark_ends k j = (all_at IsPoint (marks_of σ k) nowhere (omega (arith, linear)) (a.mark_points k).0 j, all_at IsPoint (marks_of τ k) nowhere (omega (arith, linear)) (a.mark_points k).1 j)

  pub spans_long : (k : ℕ) → length (spans_of σ k) ≡ length (spans_of τ k)
  spans_long k = length_all_zip AlikeSegment (spans_of σ k) (spans_of τ k) (a.spans k)

  pub marks_long : (k : ℕ) → length (marks_of σ k) ≡ length (marks_of τ k)
  marks_long k = length_all_zip Same (marks_of σ k) (marks_of τ k) (a.marks k)
