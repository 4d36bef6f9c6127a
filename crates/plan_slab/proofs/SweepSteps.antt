-- The steps of a sweep: a line, a slab, the end, and a row too many.
use Rattle.std.proofs.Common.{◌≡◌, ℕ, suc, ◌+◌, ◌-◌, ◌<◌, ◌≤◌, sym, subst, ap, ◌∙◌, List, [], ◌∷◌, ◌++◌, get_or, length, map, length-append, All, arith}
use Rattle.std.proofs.lemmas.List.{length-map}
use Rattle.std.proofs.lemmas.List.Elements.{All-push}
use Rattle.plan_exact.proofs.Laws.{linear}
use Rattle.plan_spec.specs.Vector.{Vector, IsPoint}
use Rattle.plan_spec.specs.Frame.{Frame}
use Rattle.plan_spec.specs.Pieces.{Piece}
use Rattle.plan_spec.specs.Regions.{mediant}
use Rattle.plan_spec.specs.Slabs.{AreSpans, AreMarks, AreSlabs}
use Rattle.plan_grid.specs.Fraction.{Fraction}
use Rattle.plan_slab.specs.declared.bar.Bar.{Bar}
use Rattle.plan_slab.specs.declared.strand.Strand.{Strand}
use Rattle.plan_slab.specs.Bars.{AreBars}
use Rattle.plan_slab.specs.EventLines.{AreEventLines}
use Rattle.plan_slab.specs.Heights.{IsHeight, IsOver}
use Rattle.plan_slab.specs.LineMarks.{Meets}
use Rattle.plan_slab.specs.Seen.{line_seen, marks_seen, strand_seen}
use Rattle.plan_slab.specs.SlabsSeen.{slabs_seen}
use Rattle.plan_slab.specs.Sweeps.{BeginsBy, AreActive, AreEntered, AreKept, AreAcross, AreTooMany}
use Rattle.plan_slab.proofs.ActiveLines.{none_active, none_begun, is_bar, entered_active, entered_begun, none_later, kept_active, active_across}
use Rattle.plan_slab.proofs.BarRanges.{bar_meets, bar_over}
use Rattle.plan_slab.proofs.LinesSeen.{is_line}
use Rattle.plan_slab.proofs.Order.Across.{IsSlab}
use Rattle.plan_slab.proofs.Pieces.{HasPieces, bar_piece}
use Rattle.plan_slab.proofs.Sorted.Grown.{all_found, too_many}
use Rattle.plan_slab.proofs.SweptRows.{IsHeld, IsAtLine, AreSwept, marks_added, spans_added, size_marks, size_spans, rows_count}
use Rattle.plan_slab.proofs.XValues.{line_point}

pub first_held : (bars : List Bar) (l : Fraction) → IsPoint (line_seen l) → IsHeld bars 0 l []
first_held bars l hl = record { before = l; point = hl; onward = omega (arith, linear); across = none_active bars l l; begun = none_begun bars l }

module _ {sums : List (List Vector)} {room : Frame} {pieces : List Piece} (known : HasPieces sums room pieces) (bars : List Bar) (are : AreBars sums room pieces bars) where
  -- ---- at a line
  pub at_line : (m n : ℕ) (l : Fraction) (xs ys zs : List Bar) → IsPoint (line_seen l) → IsHeld bars m l xs → AreEntered bars m n l xs ys → AreKept l ys zs → ((d : Bar) → n < length bars → ¬ (BeginsBy l (get_or bars n d))) → IsAtLine bars n l zs
  at_line m n l xs ys zs hl held entered kept off = record {
    point = hl;
    across = entered_active known bars are m n held.before l held.point hl held.onward xs ys held.across held.begun entered zs kept;
    begun = entered_begun known bars are m n held.before l held.point hl held.onward xs ys held.across held.begun entered;
    later = none_later known bars are n l hl off;
  }

  pub taken_up : (lines : List Fraction) (event : AreEventLines pieces lines) (k m n : ℕ) (l : Fraction) (xs zs others : List Bar) → k < length lines → l ≡ get_or lines k l → ((d : Fraction) → k < length lines → IsHeld bars m (get_or lines k d) xs) → others ≡ bars
      → ((ys : List Bar) × AreEntered others m n l xs ys × AreKept l ys zs) → ((d : Bar) → n < length others → ¬ (BeginsBy l (get_or others n d))) → IsAtLine bars n l zs
  taken_up lines event k m n l xs zs others within is held e (ys, entered, kept) off = at_line m n l xs ys zs (line_point l (is_line pieces lines event k l within is).ratio) (subst (λ x. IsHeld bars m x xs) (sym is) (held l within)) (subst (λ bs. AreEntered bs m n l xs ys) e entered) kept (subst (λ bs. (d : Bar) → n < length bs → ¬ (BeginsBy l (get_or bs n d))) e off)

  pub all_meet : (n : ℕ) (l : Fraction) (active : List Bar) → IsAtLine bars n l active → All (Meets l) active
  all_meet n l active h k d within =
      let a = h.across.each k d within in
      let bar = is_bar known bars are (get_or active k d) a.0 in
      bar_meets (get_or active k d) bar (bar_piece known (get_or active k d) bar) l h.point a.1 a.2

  pub across_line : (n : ℕ) (l : Fraction) (active : List Bar) → IsAtLine bars n l active → AreAcross sums room pieces l l active
  across_line n l active h = active_across known bars are n l l active h.across h.later

  -- ---- in the slab on its right
  module _ (n : ℕ) (l r : Fraction) (xs ys : List Bar) (slab : IsSlab (line_seen l) (line_seen r)) (h : IsAtLine bars n l xs) (kept : AreKept r xs ys) where
    active : AreActive bars n l r ys
    active = kept_active known bars are n l l r xs ys slab.left_point slab.right_point (omega (arith, linear, slab.wide)) h.across kept

    pub all_over : All (λ b. IsOver b.strand (mediant (line_seen l) (line_seen r))) ys
    all_over k d within =
        let a = active.each k d within in
        let bar = is_bar known bars are (get_or ys k d) a.0 in
        bar_over (get_or ys k d) bar (bar_piece known (get_or ys k d) bar) l r slab a.1 a.2

    pub across_slab : AreAcross sums room pieces l r ys
    across_slab = active_across known bars are n l r ys active h.later

    pub held_next : IsHeld bars n r ys
    held_next = record { before = l; point = slab.left_point; onward = omega (arith, linear, slab.wide); across = active; begun = h.begun }

module _ {sums : List (List Vector)} {room : Frame} {pieces : List Piece} {lines : List Fraction} {spans : List (List Strand)} {marks : List (List Fraction)} {k m n : ℕ} (h : AreSwept sums room pieces lines spans marks k m n) where
  pub swept_marks : (l : Fraction) (ms : List Fraction) (spans2 : List (List Strand)) (marks2 : List (List Fraction)) (more : ℕ) → m < length lines → l ≡ get_or lines m l → AreMarks pieces (line_seen l) (marks_seen l ms) → All IsHeight ms → spans2 ≡ spans → marks2 ≡ marks ++ ms ∷ [] → more ≡ n + length ms → more ≤ 131072 → AreSwept sums room pieces lines spans2 marks2 k (m + 1) more
  swept_marks l ms spans2 marks2 more within is found high same pushed e few = subst (λ rows. AreSwept sums room pieces lines rows marks2 k (m + 1) more) (sym same) (subst (λ rows. AreSwept sums room pieces lines spans rows k (m + 1) more) (sym pushed) (record {
    first = marks_added lines spans marks l ms (omega (arith, within, h.lines_done)) (is ∙ ap (λ i. get_or lines i l) (sym h.lines_done)) h.first found;
    slabs = h.slabs;
    lines_done = omega (arith, length-append marks (ms ∷ []), h.lines_done);
    is_size = omega (arith, e, h.is_size, size_marks lines spans marks ms l (omega (arith, within, h.lines_done)));
    few = few;
    heights = All-push (All IsHeight) marks ms h.heights high;
  }))

  pub swept_spans : (l r : Fraction) (ss : List Strand) (spans2 : List (List Strand)) (marks2 : List (List Fraction)) (more : ℕ) → k + 1 < length lines → l ≡ get_or lines k l → r ≡ get_or lines (k + 1) r → AreSpans sums room pieces (line_seen l) (line_seen r) (map strand_seen ss) → spans2 ≡ spans ++ ss ∷ [] → marks2 ≡ marks → more ≡ n + length ss → more ≤ 131072 → AreSwept sums room pieces lines spans2 marks2 (k + 1) m more
  swept_spans l r ss spans2 marks2 more within is_l is_r found pushed same e few =
      let next : k + 1 ≡ suc (length spans) = omega (arith, h.slabs) in
      subst (λ rows. AreSwept sums room pieces lines spans2 rows (k + 1) m more) (sym same) (subst (λ rows. AreSwept sums room pieces lines rows marks (k + 1) m more) (sym pushed) (record {
        first = spans_added lines spans marks l r ss (omega (arith, within, h.slabs)) (is_l ∙ ap (λ i. get_or lines i l) (sym h.slabs)) (is_r ∙ ap (λ i. get_or lines i r) next) h.first found;
        slabs = omega (arith, length-append spans (ss ∷ []), h.slabs);
        lines_done = h.lines_done;
        is_size = omega (arith, e, h.is_size, size_spans lines spans marks ss);
        few = few;
        heights = h.heights;
      }))

  pub many_marks : HasPieces sums room pieces → (l : Fraction) (ms : List Fraction) → m < length lines → l ≡ get_or lines m l → AreMarks pieces (line_seen l) (marks_seen l ms) → 131072 < n + length ms → AreTooMany sums room pieces
  many_marks known l ms within is found more = too_many 131072 (slabs_seen lines spans (marks ++ ms ∷ [])) known (marks_added lines spans marks l ms (omega (arith, within, h.lines_done)) (is ∙ ap (λ i. get_or lines i l) (sym h.lines_done)) h.first found)
      (omega (arith, more, h.is_size, size_marks lines spans marks ms l (omega (arith, within, h.lines_done))))

  pub many_spans : HasPieces sums room pieces → (l r : Fraction) (ss : List Strand) → k + 1 < length lines → l ≡ get_or lines k l → r ≡ get_or lines (k + 1) r → AreSpans sums room pieces (line_seen l) (line_seen r) (map strand_seen ss) → 131072 < n + length ss → AreTooMany sums room pieces
  many_spans known l r ss within is_l is_r found more =
      let next : k + 1 ≡ suc (length spans) = omega (arith, h.slabs) in
      too_many 131072 (slabs_seen lines (spans ++ ss ∷ []) marks) known (spans_added lines spans marks l r ss (omega (arith, within, h.slabs)) (is_l ∙ ap (λ i. get_or lines i l) (sym h.slabs)) (is_r ∙ ap (λ i. get_or lines i r) next) h.first found)
      (omega (arith, more, h.is_size, size_spans lines spans marks ss))

  pub swept_all : k ≡ length lines - 1 → m ≡ length lines → AreSlabs sums room pieces (slabs_seen lines spans marks)
  swept_all slabs done = all_found (slabs_seen lines spans marks) h.first (omega (arith, slabs, h.slabs, length-map spans (map strand_seen), length-map lines line_seen)) (omega (arith, done, h.lines_done, rows_count lines marks (omega (arith, done, h.lines_done)), length-map lines line_seen))
