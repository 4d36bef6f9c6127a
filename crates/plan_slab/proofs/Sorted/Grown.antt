-- A sweep adds a row at a time: what it has found stays the first slabs, and at the end it is all of them; where it is more than a limit, so are all.
use Rattle.std.proofs.Common.{◌≡◌, inl, inr, ℕ, suc, ◌-◌, ◌<◌, List, [], ◌∷◌, ◌++◌, length, length-append, get_or, sym, subst, arith}
use Rattle.std.proofs.lemmas.Bool.{cases_order}
use Rattle.std.proofs.lemmas.List.{get_or_push, get_or_append_left}
use Rattle.plan_spec.specs.Vector.{Vector}
use Rattle.plan_spec.specs.Segment.{Segment}
use Rattle.plan_spec.specs.Frame.{Frame}
use Rattle.plan_spec.specs.Pieces.{Piece}
use Rattle.plan_spec.specs.Slabs.{nowhere, AreLines, AreSpans, AreMarks, Slabs, AreSlabs, size}
use Rattle.plan_slab.specs.FirstSlabs.{AreFirst}
use Rattle.plan_slab.proofs.Pieces.{HasPieces}
use Rattle.plan_slab.proofs.Sorted.Size.{first_at_most}

-- what all rows have, and one more
one_more : {X : Type 0} (R : ℕ → List X → Type 0) (rows : List (List X)) (row : List X) → ((k : ℕ) → k < length rows → R k (get_or rows k [])) → R (length rows) row → (k : ℕ) → k < length (rows ++ row ∷ []) → R k (get_or (rows ++ row ∷ []) k [])
one_more R rows row each last k within = elim (cases_order k (length rows)) [
  | inl e ↦ subst (R k) (sym (get_or_push rows row [] k (sym e))) (subst (λ k. R k row) (sym e) last)
  | inr t ↦ elim t [
    | inl less ↦ subst (R k) (sym (get_or_append_left rows (row ∷ []) [] k less)) (each k less)
    | inr more ↦ absurd (omega (arith, length-append rows (row ∷ [])))
  ]
]

module _ {sums : List (List Vector)} {room : Frame} {pieces : List Piece} (lines : List Vector) (spans : List (List Segment)) (marks : List (List Vector)) where
  pub none_yet : AreLines pieces lines → AreFirst sums room pieces (record { lines = lines; spans = []; marks = [] })
  none_yet are = record { lines = are; slab_count = omega arith; spans = λ k within. absurd (omega arith); line_count = omega arith; marks = λ k within. absurd (omega arith) }

  pub add_spans : AreFirst sums room pieces (record { lines = lines; spans = spans; marks = marks }) → (ss : List Segment) → suc (length spans) < length lines → AreSpans sums room pieces (get_or lines (length spans) nowhere) (get_or lines (suc (length spans)) nowhere) ss
      → AreFirst sums room pieces (record { lines = lines; spans = spans ++ ss ∷ []; marks = marks })
  add_spans first ss within are = record {
    lines = first.lines;
    slab_count = omega (arith, length-append spans (ss ∷ []));
    spans = one_more (λ k row. AreSpans sums room pieces (get_or lines k nowhere) (get_or lines (suc k) nowhere) row) spans ss first.spans are;
    line_count = first.line_count;
    marks = first.marks;
  }

  pub add_marks : AreFirst sums room pieces (record { lines = lines; spans = spans; marks = marks }) → (ms : List Vector) → length marks < length lines → AreMarks pieces (get_or lines (length marks) nowhere) ms
      → AreFirst sums room pieces (record { lines = lines; spans = spans; marks = marks ++ ms ∷ [] })
  add_marks first ms within are = record {
    lines = first.lines;
    slab_count = first.slab_count;
    spans = first.spans;
    line_count = omega (arith, length-append marks (ms ∷ []));
    marks = one_more (λ k row. AreMarks pieces (get_or lines k nowhere) row) marks ms first.marks are;
  }

pub all_found : {sums : List (List Vector)} {room : Frame} {pieces : List Piece} (σ : Slabs) → AreFirst sums room pieces σ → length σ.spans ≡ length σ.lines - 1 → length σ.marks ≡ length σ.lines → AreSlabs sums room pieces σ
all_found σ first spans marks = record { lines = first.lines; slab_count = spans; spans = first.spans; line_count = marks; marks = first.marks }

pub too_many : {sums : List (List Vector)} {room : Frame} {pieces : List Piece} (limit : ℕ) (σ : Slabs) → HasPieces sums room pieces → AreFirst sums room pieces σ → limit < size σ → (τ : Slabs) → AreSlabs sums room pieces τ → limit < size τ
too_many limit σ known first more τ are = omega (arith, more, first_at_most known σ τ first are)
