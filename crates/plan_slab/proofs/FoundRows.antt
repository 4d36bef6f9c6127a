-- The rows of a whole sweep are what the tests of lots ask for: few of each, marks in lowest terms, and spans that go across their slabs.
use Rattle.std.proofs.Common.{◌≡◌, ℕ, suc, ◌+◌, ◌-◌, ◌<◌, ◌≤◌, pos, refl, sym, subst, ap, ◌∙◌, List, [], ◌∷◌, get_or, length, map, sum_by, All, arith}
use Rattle.std.proofs.lemmas.List.{get_or_default, length-map}
use Rattle.std.proofs.lemmas.List.Elements.{All-nil, All-cons, All-weaker}
use Rattle.std.proofs.lemmas.List.Sums.{sum_by-cons}
use Rattle.plan_spec.specs.Vector.{Vector, LeX}
use Rattle.plan_spec.specs.Segment.{HasPoints}
use Rattle.plan_spec.specs.Frame.{Frame}
use Rattle.plan_spec.specs.Pieces.{Piece, piece}
use Rattle.plan_spec.specs.Regions.{mediant}
use Rattle.plan_spec.specs.Slabs.{nowhere, nothing, piece_at, line_at, IsSpan, AreSlabs, size}
use Rattle.plan_plane.proofs.Lists.{all_map}
use Rattle.plan_grid.specs.Fraction.{Fraction, point_at}
use Rattle.plan_slab.specs.declared.bar.Bar.{Bar}
use Rattle.plan_slab.specs.declared.strand.Strand.{Strand}
use Rattle.plan_slab.specs.Bars.{IsBar, AreBars}
use Rattle.plan_slab.specs.EventLines.{AreEventLines}
use Rattle.plan_slab.specs.FreeLots.{AreRows}
use Rattle.plan_slab.specs.Heights.{IsHeight, IsOver}
use Rattle.plan_slab.specs.Levels.{strand}
use Rattle.plan_slab.specs.Seen.{line_seen, marks_seen, strand_seen}
use Rattle.plan_slab.specs.SlabsSeen.{rows_seen, slabs_seen}
use Rattle.plan_slab.proofs.BarRanges.{bar_over}
use Rattle.plan_slab.proofs.LinesSeen.{is_slab, some_mark}
use Rattle.plan_slab.proofs.Order.Across.{IsSlab}
use Rattle.plan_slab.proofs.Pieces.{IsPiece, HasPieces}
use Rattle.plan_slab.proofs.SlabsSeen.{line_seen_at, mediant_seen_at, spans_seen_at}

-- ---- sums of rows
pub rows_sum : (ls : List Fraction) (rows : List (List Fraction)) → length rows ≤ length ls → sum_by length (rows_seen ls rows) ≡ sum_by length rows
rows_sum [] [] le = refl
rows_sum [] (r ∷ rows) le = absurd (omega (arith, le))
rows_sum (l ∷ ls) [] le = refl
rows_sum (l ∷ ls) (r ∷ rows) le = omega (arith, rows_sum ls rows (omega (arith, le)), length-map r (point_at l), sum_by-cons length (marks_seen l r) (rows_seen ls rows), sum_by-cons length r rows)

spans_sum : (rows : List (List Strand)) → sum_by length (map (map strand_seen) rows) ≡ sum_by length rows
spans_sum [] = refl
spans_sum (r ∷ rows) = omega (arith, spans_sum rows, length-map r strand_seen, sum_by-cons length (map strand_seen r) (map (map strand_seen) rows), sum_by-cons length r rows)

each_few : {X : Type 0} (rows : List (List X)) (most : ℕ) → sum_by length rows ≤ most → All (λ row. length row ≤ most) rows
each_few [] most le = All-nil (λ row. length row ≤ most)
each_few (row ∷ rows) most le = All-cons (λ row. length row ≤ most) row rows (omega (arith, le, sum_by-cons length row rows)) (each_few rows most (omega (arith, le, sum_by-cons length row rows)))

rows_few : {X : Type 0} (rows : List (List X)) → ((k : ℕ) → k < length rows → 1 ≤ length (get_or rows k [])) → length rows ≤ sum_by length rows
rows_few [] some = omega arith
rows_few (row ∷ rows) some = omega (arith, sum_by-cons length row rows, some 0 (omega arith), rows_few rows (λ k within. some (suc k) (omega (arith, within))))

-- ---- a span goes across its slab
same_strand : (s t : Strand) → strand_seen s ≡ strand_seen t → s ≡ t
same_strand s t e = λ i. record { a = record { x = (e i).a.x; y = (e i).a.y }; b = record { x = (e i).b.x; y = (e i).b.y } }

module _ {sums : List (List Vector)} {room : Frame} {pieces : List Piece} (known : HasPieces sums room pieces) (bars : List Bar) (are : AreBars sums room pieces bars) where
  span_over : (l r : Fraction) (s : Strand) → IsSlab (line_seen l) (line_seen r) → IsSpan sums room pieces (line_seen l) (line_seen r) (strand_seen s) → IsOver s (mediant (line_seen l) (line_seen r))
  span_over l r s slab span =
      let (k, b, within, is, e) = are.all span.number span.within in
      let bar : IsBar sums room pieces b = subst (IsBar sums room pieces) is (are.each k b within) in
      let at : piece_at pieces span.number ≡ b.piece = ap (piece_at pieces) (sym e) ∙ sym bar.is in
      let is_piece : IsPiece sums room b.piece = subst (IsPiece sums room) at (known.each span.number (piece 0 nothing) span.within) in
      let same : b.strand ≡ s = same_strand b.strand s (bar.on_edge.edge ∙ ap (strand sums room) (sym at) ∙ sym span.is) in
      subst (λ s. IsOver s (mediant (line_seen l) (line_seen r))) same (bar_over b bar is_piece l r slab (subst (λ p. LeX p.part.a (line_seen l)) at span.reaches.0) (subst (λ p. LeX (line_seen r) p.part.b) at span.reaches.1))

  module _ (lines : List Fraction) (event : AreEventLines pieces lines) (spans : List (List Strand)) (marks : List (List Fraction)) (slabs : AreSlabs sums room pieces (slabs_seen lines spans marks)) where
    row_across : (k : ℕ) → k < length spans → All (λ s. IsOver s (mediant (line_at (slabs_seen lines spans marks) k) (line_at (slabs_seen lines spans marks) (suc k)))) (get_or spans k [])
    row_across k within j d below =
        let here : Fraction = record { num = pos 0; den = pos 1 } in
        let l = get_or lines k here in
        let r = get_or lines (k + 1) here in
        let count : k + 1 < length lines = omega (arith, within, slabs.slab_count, length-map spans (map strand_seen), length-map lines line_seen) in
        let is_l : l ≡ get_or lines k l = get_or_default lines k here l (omega (arith, count)) in
        let is_r : r ≡ get_or lines (k + 1) r = get_or_default lines (k + 1) here r count in
        let slab = is_slab pieces lines event k l r count is_l is_r in
        let at_l = line_seen_at lines spans marks k l (omega (arith, count)) is_l in
        let at_r : line_seen r ≡ line_at (slabs_seen lines spans marks) (suc k) = line_seen_at lines spans marks (k + 1) r count is_r ∙ (let f : k + 1 ≡ suc k = omega arith in ap (line_at (slabs_seen lines spans marks)) f) in
        let found = slabs.spans k (omega (arith, within, length-map spans (map strand_seen))) in
        let each : All (IsSpan sums room pieces (line_at (slabs_seen lines spans marks) k) (line_at (slabs_seen lines spans marks) (suc k))) (map strand_seen (get_or spans k [])) = subst (All (IsSpan sums room pieces (line_at (slabs_seen lines spans marks) k) (line_at (slabs_seen lines spans marks) (suc k)))) (sym (spans_seen_at lines spans marks k (get_or spans k []) within refl)) found.each in
        let s = get_or (get_or spans k []) j d in
        let span : IsSpan sums room pieces (line_seen l) (line_seen r) (strand_seen s) = subst (λ x. IsSpan sums room pieces x (line_seen r) (strand_seen s)) (sym at_l) (subst (λ y. IsSpan sums room pieces (line_at (slabs_seen lines spans marks) k) y (strand_seen s)) (sym at_r) (all_map (IsSpan sums room pieces (line_at (slabs_seen lines spans marks) k) (line_at (slabs_seen lines spans marks) (suc k))) strand_seen (get_or spans k []) each j d below)) in
        subst (λ z. IsOver s z) (mediant_seen_at lines spans marks k l r (mediant (line_seen l) (line_seen r)) count is_l is_r refl) (span_over l r s slab span)

    pub rows_found : length spans ≡ length lines - 1 → length marks ≡ length lines → size (slabs_seen lines spans marks) ≤ 131072 → All (All IsHeight) marks → AreRows lines spans marks
    rows_found spans_done marks_done few heights =
        let of_marks = rows_sum lines marks (omega (arith, marks_done)) in
        let of_spans = spans_sum spans in
        record {
          each_line = event.lines;
          few_lines = omega (arith, few, slabs.line_count, length-map lines line_seen, rows_few (rows_seen lines marks) (λ k within. some_mark pieces (line_at (slabs_seen lines spans marks) k) (get_or (rows_seen lines marks) k []) (All-weaker (IsPiece sums room) (λ p. HasPoints p.part) (λ p h. h.part.points) pieces known.each) (slabs.lines.each k nowhere (omega (arith, within, slabs.line_count))) (slabs.marks k within)));
          slab_count = spans_done;
          line_count = marks_done;
          few_spans = each_few spans 131072 (omega (arith, few, of_spans));
          few_marks = each_few marks 131072 (omega (arith, few, of_marks));
          heights = heights;
          across = row_across;
        }
