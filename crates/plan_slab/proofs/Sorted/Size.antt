-- The slabs of a list of pieces have one size, and what a sweep has found so far is no more than that: each row has as many spans, or marks, in any two lists of slabs.
use Rattle.std.proofs.Common.{◌≡◌, ℕ, suc, ◌<◌, ◌≤◌, List, [], ◌∷◌, length, get_or, sum_by, All, AllPairs, Any, sym, arith}
use Rattle.std.specs.List.{AllZip}
use Rattle.std.proofs.lemmas.List.Elements.{All-weaker, All-contains, AllZip-get_or, length_all_zip}
use Rattle.std.proofs.lemmas.List.Sums.{sum_by-cons}
use Rattle.std.proofs.Math.Nat.{le_antisymm}
use Rattle.plan_exact.proofs.Laws.{linear}
use Rattle.plan_spec.specs.Vector.{Vector, IsPoint, LeX, SameX, turn}
use Rattle.plan_spec.specs.Segment.{Segment, HasPoints}
use Rattle.plan_spec.specs.Frame.{Frame}
use Rattle.plan_spec.specs.Pieces.{Piece}
use Rattle.plan_spec.specs.Regions.{foot, mediant}
use Rattle.plan_spec.specs.Slabs.{nowhere, InSlab, Reaches, LiesOn, Below, AreLines, AreSpans, AreMarks, Slabs, AreSlabs, line_at, spans_of, marks_of, size}
use Rattle.plan_plane.proofs.Lists.{any_weaker}
use Rattle.plan_plane.proofs.Rising.ByCoordinate.{order_x}
use Rattle.plan_plane.proofs.Rising.Lists.{one_rising, same_length, same_rising}
use Rattle.plan_plane.proofs.Segment.ByX.{leX_trans, leX_ltX, ltX_leX}
use Rattle.plan_slab.specs.FirstSlabs.{AreFirst}
use Rattle.plan_slab.specs.Levels.{Lower, Level, heights}
use Rattle.plan_slab.proofs.Order.Across.{IsSlab}
use Rattle.plan_slab.proofs.Order.Feet.{Runs, by_height, foot_point, foot_in_line, foot_level, mediant_inside, mediant_point}
use Rattle.plan_slab.proofs.Order.OneOrder.{run_pos, foot_inside, lies_level}
use Rattle.plan_slab.proofs.Pieces.{IsPiece, HasPieces}
use Rattle.plan_slab.proofs.Regions.SpanLines.{has_piece}
use Rattle.plan_slab.proofs.Sorted.Lines.{end_points, lines_to}
use Rattle.plan_slab.proofs.Sorted.Marks.{on_line, mark_points, marks_to, of_pieces, each_piece}

-- ---- the spans of one slab
-- below throughout, so lower at each point
pub below_lower : {l r : Vector} (s t : Segment) (m : Vector) → IsSlab l r → Runs t → IsPoint m → InSlab l r m → Below l r s t → Lower m s t
below_lower {l} {r} s t m slab ht hm im below =
    let on : turn t.a t.b (foot t m) ≡ _ = foot_in_line t m in
    let g = below (foot t m) (foot_point t m ht hm) (foot_inside l r t m slab ht hm im) (omega (arith, linear, on)) in
    omega (arith, linear, g, foot_level t s m)

module _ {sums : List (List Vector)} {room : Frame} {pieces : List Piece} (known : HasPieces sums room pieces) where
  spans_run : (l r : Vector) (ss : List Segment) → IsSlab l r → AreSpans sums room pieces l r ss → All Runs ss
  spans_run l r ss slab are k d within = run_pos (has_piece l r (get_or ss k d) known slab (are.each k d within)).strand

  spans_rise : (l r : Vector) (ss : List Segment) → IsSlab l r → AreSpans sums room pieces l r ss → (m : Vector) → IsPoint m → InSlab l r m → AllPairs (Lower m) ss
  spans_rise l r ss slab are m hm im i j d less within = below_lower (get_or ss i d) (get_or ss j d) m slab (spans_run l r ss slab are j d within) hm im (are.order i j d less within)

  -- each span is level with one of the other list
  spans_match : (l r l2 r2 : Vector) (ss ts : List Segment) → IsSlab l r → IsSlab l2 r2 → SameX l l2 → SameX r r2 → AreSpans sums room pieces l r ss → AreSpans sums room pieces l2 r2 ts → (m : Vector) → All (λ s. Any (Level m s) ts) ss
  spans_match l r l2 r2 ss ts slab slab2 el er are are2 m k d within =
      let s = get_or ss k d in
      let h = has_piece l r s known slab (are.each k d within) in
      let p = h.piece in
      let a = h.strand in
      let ll : LeX l l2 = omega (arith, linear) in
      let rr : LeX r2 r = omega (arith, linear) in
      let reach : Reaches l2 r2 p = (leX_trans p.part.a l l2 a.points.0 slab.left_point slab2.left_point a.reaches.0 ll, leX_trans r2 r p.part.b slab2.right_point slab.right_point a.points.1 rr a.reaches.1) in
      any_weaker (λ t. LiesOn t p) (Level m s) (λ t lies. sym (lies_level t slab a lies m)) ts (All-contains (λ p. Reaches l2 r2 p → Any (λ s. LiesOn s p) ts) pieces p are2.all h.has reach)

  pub same_spans : (l r l2 r2 : Vector) (ss ts : List Segment) → IsSlab l r → IsSlab l2 r2 → SameX l l2 → SameX r r2 → AreSpans sums room pieces l r ss → AreSpans sums room pieces l2 r2 ts → length ss ≡ length ts
  same_spans l r l2 r2 ss ts slab slab2 el er are are2 =
      let m = mediant l r in
      let hm = mediant_point l r slab.left_point slab.right_point in
      let im = mediant_inside l r slab.wide in
      let ll : LeX l2 l = omega (arith, linear) in
      let rr : LeX r r2 = omega (arith, linear) in
      let im2 : InSlab l2 r2 m = (leX_ltX l2 l m slab2.left_point slab.left_point hm ll im.0, ltX_leX m r r2 hm slab.right_point slab2.right_point im.1 rr) in
      length_all_zip (Level m) ss ts (same_rising (by_height m) ss ts (spans_run l r ss slab are) (spans_run l2 r2 ts slab2 are2) (spans_rise l r ss slab are m hm im) (spans_rise l2 r2 ts slab2 are2 m hm im2) (spans_match l r l2 r2 ss ts slab slab2 el er are are2 m) (spans_match l2 r2 l r ts ss slab2 slab (sym el) (sym er) are2 are m))

  -- ---- the marks of one line
  -- the line by another point of it
  same_line : (l l2 : Vector) (ms : List Vector) → IsPoint l → IsPoint l2 → SameX l l2 → AreMarks pieces l2 ms → AreMarks pieces l ms
  same_line l l2 ms hl hl2 e are = record {
    points = are.points;
    on_line = λ k d within. order_x.trans l l2 (get_or ms k d) hl hl2 (are.points k d within) e (are.on_line k d within);
    rising = are.rising;
    exact = λ z hz f. are.exact z hz (order_x.trans l2 l z hl2 hl hz (sym e) f);
  }

  pub same_marks : (l l2 : Vector) (ms ns : List Vector) → IsPoint l → IsPoint l2 → SameX l l2 → AreMarks pieces l ms → AreMarks pieces l2 ns → length ms ≡ length ns
  same_marks l l2 ms ns hl hl2 e are are2 =
      let all = of_pieces known l hl in
      let each = each_piece known l hl in
      same_length (on_line l hl) _ ms ns (mark_points pieces l hl (λ p. p) (heights l) pieces all each) (marks_to pieces l hl (λ p. p) (heights l) pieces all each ms are) (marks_to pieces l hl (λ p. p) (heights l) pieces all each ns (same_line l l2 ns hl hl2 e are2))

  -- ---- lines
  piece_points : All (λ p. HasPoints p.part) pieces
  piece_points = All-weaker (IsPiece sums room) (λ p. HasPoints p.part) (λ p h. h.part.points) pieces known.each

  pub same_lines : (ls ns : List Vector) → AreLines pieces ls → AreLines pieces ns → AllZip SameX ls ns
  same_lines ls ns are are2 = one_rising order_x _ ls ns (end_points pieces piece_points) (lines_to pieces ls are) (lines_to pieces ns are2)

-- ---- sums of rows
rows_at_most : {X : Type 0} (xs ys : List (List X)) → length xs ≤ length ys → ((k : ℕ) → k < length xs → length (get_or xs k []) ≡ length (get_or ys k [])) → sum_by length xs ≤ sum_by length ys
rows_at_most [] ys few h = omega arith
rows_at_most (x ∷ xs) [] few h = absurd (omega arith)
rows_at_most (x ∷ xs) (y ∷ ys) few h = omega (arith, sum_by-cons length x xs, sum_by-cons length y ys, h 0 (omega arith), rows_at_most xs ys (omega arith) (λ k within. h (suc k) (omega arith)))

module _ {sums : List (List Vector)} {room : Frame} {pieces : List Piece} (known : HasPieces sums room pieces) (σ τ : Slabs) (first : AreFirst sums room pieces σ) (are : AreSlabs sums room pieces τ) where
  zipped : AllZip SameX σ.lines τ.lines
  zipped = same_lines known σ.lines τ.lines first.lines are.lines

  as_many : length σ.lines ≡ length τ.lines
  as_many = length_all_zip SameX σ.lines τ.lines zipped

  same : (k : ℕ) → k < length σ.lines → SameX (line_at σ k) (line_at τ k)
  same k within = AllZip-get_or SameX σ.lines τ.lines k nowhere nowhere zipped within

  slab_of : (k : ℕ) (ls : List Vector) → AreLines pieces ls → suc k < length ls → IsSlab (get_or ls k nowhere) (get_or ls (suc k) nowhere)
  slab_of k ls lines within = record { left_point = lines.points k nowhere (omega arith); right_point = lines.points (suc k) nowhere within; wide = lines.rising k (suc k) nowhere (omega arith) within }

  few_slabs : length σ.spans ≤ length τ.spans
  few_slabs = omega (arith, first.slab_count, are.slab_count, as_many)

  few_lines : length σ.marks ≤ length τ.marks
  few_lines = omega (arith, first.line_count, are.line_count, as_many)

  spans_same : (k : ℕ) → k < length σ.spans → length (spans_of σ k) ≡ length (spans_of τ k)
  spans_same k within =
      let below : suc k < length σ.lines = omega (arith, first.slab_count) in
      same_spans known (line_at σ k) (line_at σ (suc k)) (line_at τ k) (line_at τ (suc k)) (spans_of σ k) (spans_of τ k) (slab_of k σ.lines first.lines below) (slab_of k τ.lines are.lines (omega (arith, as_many)))
      (same k (omega arith)) (same (suc k) below) (first.spans k within) (are.spans k (omega (arith, few_slabs)))

  marks_same : (k : ℕ) → k < length σ.marks → length (marks_of σ k) ≡ length (marks_of τ k)
  marks_same k within =
      let below : k < length σ.lines = omega (arith, first.line_count) in
      same_marks known (line_at σ k) (line_at τ k) (marks_of σ k) (marks_of τ k) (first.lines.points k nowhere below) (are.lines.points k nowhere (omega (arith, as_many))) (same k below) (first.marks k within) (are.marks k (omega (arith, few_lines)))

  pub first_at_most : size σ ≤ size τ
  first_at_most = omega (arith, rows_at_most σ.spans τ.spans few_slabs spans_same, rows_at_most σ.marks τ.marks few_lines marks_same)

all_first : {sums : List (List Vector)} {room : Frame} {pieces : List Piece} (σ : Slabs) → AreSlabs sums room pieces σ → AreFirst sums room pieces σ
all_first σ are = record { lines = are.lines; slab_count = omega (arith, are.slab_count); spans = are.spans; line_count = omega (arith, are.line_count); marks = are.marks }

pub one_size : {sums : List (List Vector)} {room : Frame} {pieces : List Piece} → HasPieces sums room pieces → (σ τ : Slabs) → AreSlabs sums room pieces σ → AreSlabs sums room pieces τ → size σ ≡ size τ
one_size known σ τ are are2 = le_antisymm (first_at_most known σ τ (all_first σ are) are2) (first_at_most known τ σ (all_first τ are2) are)
