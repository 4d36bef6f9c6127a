-- What a sweep has found up to a line, and what the row of a line and the row of a slab add to it.
use Rattle.std.proofs.Common.{◌≡◌, ℕ, suc, ◌+◌, ◌<◌, ◌≤◌, refl, sym, subst, ap, ◌∙◌, List, [], ◌∷◌, ◌++◌, get_or, length, map, sum_by, All, arith}
use Rattle.std.proofs.lemmas.List.{get_or-map, map-append, length-map}
use Rattle.std.proofs.lemmas.List.Elements.{All-nil}
use Rattle.std.proofs.lemmas.List.Sums.{sum_by_push}
use Rattle.plan_spec.specs.Vector.{Vector, IsPoint, LeX}
use Rattle.plan_spec.specs.Frame.{Frame}
use Rattle.plan_spec.specs.Pieces.{Piece}
use Rattle.plan_spec.specs.Slabs.{nowhere, AreLines, AreSpans, AreMarks, size}
use Rattle.plan_grid.specs.Fraction.{Fraction, point_at}
use Rattle.plan_slab.specs.declared.bar.Bar.{Bar}
use Rattle.plan_slab.specs.declared.strand.Strand.{Strand}
use Rattle.plan_slab.specs.FirstSlabs.{AreFirst}
use Rattle.plan_slab.specs.Heights.{IsHeight}
use Rattle.plan_slab.specs.Seen.{line_seen, marks_seen, strand_seen}
use Rattle.plan_slab.specs.SlabsSeen.{rows_seen, slabs_seen}
use Rattle.plan_slab.specs.Sweeps.{BeginsBy, AreActive}
use Rattle.plan_slab.proofs.ActiveLines.{HaveBegun}
use Rattle.plan_slab.proofs.Sorted.Grown.{none_yet, add_spans, add_marks}

-- before the bars of a line are taken up
pub record IsHeld (bars : List Bar) (n : ℕ) (l : Fraction) (active : List Bar) : Type 0 where
  pub before : Fraction
  pub point : IsPoint (line_seen before)
  pub onward : LeX (line_seen before) (line_seen l)
  pub across : AreActive bars n before l active
  pub begun : HaveBegun bars n before

-- at a line, when its bars were taken up
pub record IsAtLine (bars : List Bar) (n : ℕ) (l : Fraction) (active : List Bar) : Type 0 where
  pub point : IsPoint (line_seen l)
  pub across : AreActive bars n l l active
  pub begun : HaveBegun bars n l
  pub later : (k : ℕ) (d : Bar) → n ≤ k → k < length bars → ¬ (BeginsBy l (get_or bars k d))

-- the rows of k slabs and m lines, and how many spans and marks there are
pub record AreSwept (sums : List (List Vector)) (room : Frame) (pieces : List Piece) (lines : List Fraction) (spans : List (List Strand)) (marks : List (List Fraction)) (k m n : ℕ) : Type 0 where
  pub first : AreFirst sums room pieces (slabs_seen lines spans marks)
  pub slabs : length spans ≡ k
  pub lines_done : length marks ≡ m
  pub is_size : n ≡ size (slabs_seen lines spans marks)
  pub few : n ≤ 131072
  pub heights : All (All IsHeight) marks

pub rows_none : (ls : List Fraction) → rows_seen ls [] ≡ []
rows_none [] = refl
rows_none (l ∷ ls) = refl

pub none_swept : {sums : List (List Vector)} {room : Frame} {pieces : List Piece} (lines : List Fraction) → AreLines pieces (map line_seen lines) → AreSwept sums room pieces lines [] [] 0 0 0
none_swept {sums} {room} {pieces} lines are = record {
  first = subst (λ rows. AreFirst sums room pieces (record { lines = map line_seen lines; spans = []; marks = rows })) (sym (rows_none lines)) (none_yet (map line_seen lines) [] [] are);
  slabs = refl;
  lines_done = refl;
  is_size = omega (arith, ap (sum_by length) (rows_none lines));
  few = omega arith;
  heights = All-nil (All IsHeight);
}

-- ---- a row more
rows_push : (ls : List Fraction) (rows : List (List Fraction)) (ms : List Fraction) (d : Fraction) → length rows < length ls → rows_seen ls (rows ++ ms ∷ []) ≡ rows_seen ls rows ++ marks_seen (get_or ls (length rows) d) ms ∷ []
rows_push [] rows ms d less = absurd (omega (arith, less))
rows_push (l ∷ []) [] ms d less = refl
rows_push (l ∷ l2 ∷ ls) [] ms d less = refl
rows_push (l ∷ ls) (r ∷ rows) ms d less = ap (λ ys. marks_seen l r ∷ ys) (rows_push ls rows ms d (omega (arith, less)))

pub rows_count : (ls : List Fraction) (rows : List (List Fraction)) → length rows ≤ length ls → length (rows_seen ls rows) ≡ length rows
rows_count [] [] le = refl
rows_count [] (r ∷ rows) le = absurd (omega (arith, le))
rows_count (l ∷ ls) [] le = refl
rows_count (l ∷ ls) (r ∷ rows) le = ap suc (rows_count ls rows (omega (arith, le)))

module _ {sums : List (List Vector)} {room : Frame} {pieces : List Piece} (lines : List Fraction) (spans : List (List Strand)) (marks : List (List Fraction)) where
  pub marks_added : (l : Fraction) (ms : List Fraction) → length marks < length lines → l ≡ get_or lines (length marks) l → AreFirst sums room pieces (slabs_seen lines spans marks) → AreMarks pieces (line_seen l) (marks_seen l ms) → AreFirst sums room pieces (slabs_seen lines spans (marks ++ ms ∷ []))
  marks_added l ms within is first are =
      let count = rows_count lines marks (omega (arith, within)) in
      let e : rows_seen lines (marks ++ ms ∷ []) ≡ rows_seen lines marks ++ marks_seen l ms ∷ [] = rows_push lines marks ms l within ∙ ap (λ x. rows_seen lines marks ++ marks_seen x ms ∷ []) (sym is) in
      let at : line_seen l ≡ get_or (map line_seen lines) (length (rows_seen lines marks)) nowhere = ap line_seen is ∙ sym (get_or-map line_seen lines (length marks) l nowhere within) ∙ ap (λ k. get_or (map line_seen lines) k nowhere) (sym count) in
      subst (λ rows. AreFirst sums room pieces (record { lines = map line_seen lines; spans = map (map strand_seen) spans; marks = rows })) (sym e)
      (add_marks (map line_seen lines) (map (map strand_seen) spans) (rows_seen lines marks) first (marks_seen l ms) (omega (arith, count, within, length-map lines line_seen)) (subst (λ x. AreMarks pieces x (marks_seen l ms)) at are))

  pub spans_added : (l r : Fraction) (ss : List Strand) → suc (length spans) < length lines → l ≡ get_or lines (length spans) l → r ≡ get_or lines (suc (length spans)) r → AreFirst sums room pieces (slabs_seen lines spans marks) → AreSpans sums room pieces (line_seen l) (line_seen r) (map strand_seen ss) → AreFirst sums room pieces (slabs_seen lines (spans ++ ss ∷ []) marks)
  spans_added l r ss within is_l is_r first are =
      let count = length-map spans (map strand_seen) in
      let e : map (map strand_seen) (spans ++ ss ∷ []) ≡ map (map strand_seen) spans ++ map strand_seen ss ∷ [] = map-append (map strand_seen) spans (ss ∷ []) in
      let at_l : line_seen l ≡ get_or (map line_seen lines) (length (map (map strand_seen) spans)) nowhere = ap line_seen is_l ∙ sym (get_or-map line_seen lines (length spans) l nowhere (omega (arith, within))) ∙ ap (λ k. get_or (map line_seen lines) k nowhere) (sym count) in
      let at_r : line_seen r ≡ get_or (map line_seen lines) (suc (length (map (map strand_seen) spans))) nowhere = ap line_seen is_r ∙ sym (get_or-map line_seen lines (suc (length spans)) r nowhere within) ∙ ap (λ k. get_or (map line_seen lines) (suc k) nowhere) (sym count) in
      subst (λ rows. AreFirst sums room pieces (record { lines = map line_seen lines; spans = rows; marks = rows_seen lines marks })) (sym e)
      (add_spans (map line_seen lines) (map (map strand_seen) spans) (rows_seen lines marks) first (map strand_seen ss) (omega (arith, count, within, length-map lines line_seen)) (subst (λ y. AreSpans sums room pieces (get_or (map line_seen lines) (length (map (map strand_seen) spans)) nowhere) y (map strand_seen ss)) at_r (subst (λ x. AreSpans sums room pieces x (line_seen r) (map strand_seen ss)) at_l are)))

pub size_marks : (lines : List Fraction) (spans : List (List Strand)) (marks : List (List Fraction)) (ms : List Fraction) (d : Fraction) → length marks < length lines → size (slabs_seen lines spans (marks ++ ms ∷ [])) ≡ size (slabs_seen lines spans marks) + length ms
size_marks lines spans marks ms d within = omega (arith, ap (sum_by length) (rows_push lines marks ms d within), sum_by_push length (rows_seen lines marks) (marks_seen (get_or lines (length marks) d) ms), length-map ms (point_at (get_or lines (length marks) d)))

pub size_spans : (lines : List Fraction) (spans : List (List Strand)) (marks : List (List Fraction)) (ss : List Strand) → size (slabs_seen lines (spans ++ ss ∷ []) marks) ≡ size (slabs_seen lines spans marks) + length ss
size_spans lines spans marks ss = omega (arith, ap (sum_by length) (map-append (map strand_seen) spans (ss ∷ [])), sum_by_push length (map (map strand_seen) spans) (map strand_seen ss), length-map ss strand_seen)
