-- The heights of the bars that meet a line give its marks.
use Rattle.std.proofs.Common.{◌≡◌, ◌⊎◌, inl, inr, ⊎_elim, ℕ, suc, ◌<◌, ℤ, pos, ◌+ℤ◌, ◌-ℤ◌, neg_ℤ, ◌*ℤ◌, ◌<ℤ◌, refl, sym, subst, ap, ◌∙◌, List, [], ◌∷◌, ◌++◌, get_or, length, All, Any, Contains, arith}
use Rattle.std.specs.List.{AllZip, flat_map}
use Rattle.std.proofs.lemmas.List.{get_or_default, map-append}
use Rattle.std.proofs.lemmas.List.Elements.{All-nil, All-cons, All-map, All-head, All-tail, Contains-get_or}
use Rattle.plan_exact.specs.Expr.{◌⊗◌}
use Rattle.plan_exact.specs.Formal.{A, B}
use Rattle.plan_exact.specs.Vectors.{env}
use Rattle.plan_exact.proofs.Ring.{ring}
use Rattle.plan_exact.proofs.Laws.{linear, mul_comm, mul_assoc, add_mul, neg_mul}
use Rattle.plan_exact.proofs.Signs.{mul_pos, le_or_lt}
use Rattle.plan_spec.specs.Vector.{Vector, IsPoint, LeX, LtX, LtY, Same, turn}
use Rattle.plan_spec.specs.Frame.{Frame}
use Rattle.plan_spec.specs.Pieces.{Piece, piece}
use Rattle.plan_spec.specs.Slabs.{piece_at, nothing, AreMarks}
use Rattle.plan_plane.proofs.Lists.{any_with, any_weaker, any_here, any_there, any_none, any_cases, any_to_map, all_pairs_map}
use Rattle.plan_plane.proofs.Rising.Lists as R
use Rattle.plan_grid.specs.Fraction.{Fraction, SameValue, IsRatio, point_at}
use Rattle.plan_convex.specs.Parameter.{Less}
use Rattle.plan_slab.specs.declared.bar.Bar.{Bar}
use Rattle.plan_slab.specs.Bars.{IsBar}
use Rattle.plan_slab.specs.EventLines.{IsLine}
use Rattle.plan_slab.specs.Heights.{IsHeight}
use Rattle.plan_slab.specs.LineMarks.{IsUpright, AreHeightsOf, both, one, AreHeightsAt}
use Rattle.plan_slab.specs.Seen.{line_seen, marks_seen}
use Rattle.plan_slab.specs.Sweeps.{BeginsBy, LastsTo}
use Rattle.plan_slab.proofs.Pieces.{IsPiece, HasPieces, bar_piece}
use Rattle.plan_slab.proofs.Sorted.Heights.{OnLine, PieceMarks, upright, outside}
use Rattle.plan_slab.proofs.Sorted.Marks.{marks_from, on_edge}

-- a bar and the heights at which it meets the line
pub record Found : Type 0 where
  pub bar : Bar
  pub heights : List Fraction

abbrev paired : List Bar → List (List Fraction) → List Found
paired [] fss = []
paired (b ∷ bs) [] = []
paired (b ∷ bs) (fs ∷ fss) = record { bar = b; heights = fs } ∷ paired bs fss

abbrev points : Fraction → Found → List Vector
points l x = marks_seen l x.heights

paired_all : (l : Fraction) (P : Found → Type 0) (bs : List Bar) (fss : List (List Fraction)) → AllZip (AreHeightsOf l) bs fss → All (All IsHeight) fss → ((k : ℕ) (d : Bar) (fs : List Fraction) → k < length bs → All IsHeight fs → AreHeightsOf l (get_or bs k d) fs → P (record { bar = get_or bs k d; heights = fs })) → All P (paired bs fss)
paired_all l P [] [] h hf step = All-nil P
paired_all l P [] (fs ∷ fss) h hf step = absurd h
paired_all l P (b ∷ bs) [] h hf step = absurd h
paired_all l P (b ∷ bs) (fs ∷ fss) h hf step = All-cons P (record { bar = b; heights = fs }) (paired bs fss) (step 0 b fs (omega arith) (All-head (All IsHeight) fs fss hf) h.0)
    (paired_all l P bs fss h.1 (All-tail (All IsHeight) fs fss hf) (λ k d gs within hg are. step (suc k) d gs (omega (arith, within)) hg are))

paired_any : (l : Fraction) (Q : Bar → Type 0) (bs : List Bar) (fss : List (List Fraction)) → AllZip (AreHeightsOf l) bs fss → Any Q bs → Any (λ x. Q x.bar) (paired bs fss)
paired_any l Q [] [] h some = absurd (any_none Q some)
paired_any l Q [] (fs ∷ fss) h some = absurd h
paired_any l Q (b ∷ bs) [] h some = absurd h
paired_any l Q (b ∷ bs) (fs ∷ fss) h some = ⊎_elim (any_here (λ x. Q x.bar) (record { bar = b; heights = fs }) (paired bs fss)) (λ rest. any_there (λ x. Q x.bar) (record { bar = b; heights = fs }) (paired bs fss) (paired_any l Q bs fss h.1 rest)) (any_cases Q b bs some)

paired_points : (l : Fraction) (bs : List Bar) (fss : List (List Fraction)) → AllZip (AreHeightsOf l) bs fss → flat_map (points l) (paired bs fss) ≡ marks_seen l (flat_map (λ fs. fs) fss)
paired_points l [] [] h = refl
paired_points l [] (fs ∷ fss) h = absurd h
paired_points l (b ∷ bs) [] h = absurd h
paired_points l (b ∷ bs) (fs ∷ fss) h = ap (λ ys. marks_seen l fs ++ ys) (paired_points l bs fss h.1) ∙ sym (map-append (point_at l) fs (flat_map (λ fs. fs) fss))

-- ---- points of the line
on_line_point : (l f : Fraction) → IsLine l → IsRatio f → OnLine (line_seen l) (point_at l f)
on_line_point l f hl hf = (mul_pos {a = l.den} {b = f.den} (omega (arith, linear, hl.ratio.positive)) (omega (arith, linear, hf.positive)), ap (λ z. l.num *ℤ z) (mul_comm l.den f.den) ∙ sym (mul_assoc l.num f.den l.den))

-- both sides times the square of the denominator of the line
squared : (f g : Fraction) (d : ℤ) → (f.num *ℤ d) *ℤ (d *ℤ g.den) ≡ (f.num *ℤ g.den) *ℤ (d *ℤ d)
squared f g d = ring (env [] (record { x = f.num; y = g.den; w = d } ∷ [])) ((A.x ⊗ A.w) ⊗ (A.w ⊗ A.y)) ((A.x ⊗ A.y) ⊗ (A.w ⊗ A.w)) tt

point_less : (l f g : Fraction) → IsLine l → Less f g → LtY (point_at l f) (point_at l g)
point_less l f g hl h =
    let d = l.den in
    let hd : pos 0 <ℤ l.den = omega (arith, linear, hl.ratio.positive) in
    let more : pos 0 <ℤ ((g.num *ℤ f.den) -ℤ (f.num *ℤ g.den)) = omega (arith, linear, h) in
    let k : pos 0 <ℤ (((g.num *ℤ f.den) -ℤ (f.num *ℤ g.den)) *ℤ (d *ℤ d)) = mul_pos {a = (g.num *ℤ f.den) -ℤ (f.num *ℤ g.den)} {b = d *ℤ d} more (mul_pos {a = d} {b = d} hd hd) in
    let e : ((g.num *ℤ f.den) -ℤ (f.num *ℤ g.den)) *ℤ (d *ℤ d) ≡ (g.num *ℤ f.den) *ℤ (d *ℤ d) +ℤ neg_ℤ (f.num *ℤ g.den) *ℤ (d *ℤ d) = add_mul (g.num *ℤ f.den) (neg_ℤ (f.num *ℤ g.den)) (d *ℤ d) in
    omega (arith, linear, k, e, neg_mul (f.num *ℤ g.den) (d *ℤ d), squared f g d, squared g f d)

point_same : (l f g : Fraction) → SameValue f g → Same (point_at l f) (point_at l g)
point_same l f g h = (
  ring (env [] (record { x = f.den; y = g.den; w = l.den } ∷ record { x = l.num; y = l.num; w = l.num } ∷ [])) ((B.x ⊗ A.x) ⊗ (A.w ⊗ A.y)) ((B.x ⊗ A.y) ⊗ (A.w ⊗ A.x)) tt,
  squared f g l.den ∙ ap (λ z. z *ℤ (l.den *ℤ l.den)) h ∙ sym (squared g f l.den),
)

module _ {sums : List (List Vector)} {room : Frame} {pieces : List Piece} (known : HasPieces sums room pieces) (l : Fraction) (hl : IsLine l) (bars : List Bar)
    (meets : All (λ b. IsBar sums room pieces b × BeginsBy l b × LastsTo l b) bars)
    (every : (n : ℕ) → n < length pieces → LeX (piece_at pieces n).part.a (line_seen l) → LeX (line_seen l) (piece_at pieces n).part.b → Any (λ b. b.number ≡ n) bars) where
  line_point : IsPoint (line_seen l)
  line_point = omega (arith, linear, hl.ratio.positive)

  -- the marks of one bar
  of_bar : (b : Bar) (fs : List Fraction) → All IsHeight fs → IsBar sums room pieces b × BeginsBy l b × LastsTo l b → AreHeightsOf l b fs → PieceMarks (line_seen l) b.piece (marks_seen l fs)
  of_bar b fs hf (bar, begins, lasts) are = by are hf
    where
      p : IsPiece sums room b.piece
      p = bar_piece known b bar

      rises : ¬ (IsUpright b) → LtX b.piece.part.a b.piece.part.b
      rises off = ⊎_elim (λ le. absurd (not_left le)) (λ lt. lt) (le_or_lt (b.piece.part.b.x *ℤ b.piece.part.a.w) (b.piece.part.a.x *ℤ b.piece.part.b.w))
        where
          not_left : LeX b.piece.part.b b.piece.part.a → ⊥
          not_left le = ⊎_elim (λ up. off (omega (arith, linear, le, up))) (λ lt. p.part.onward (inl lt)) (le_or_lt (b.piece.part.a.x *ℤ b.piece.part.b.w) (b.piece.part.b.x *ℤ b.piece.part.a.w))

      by : {fs : List Fraction} → AreHeightsOf l b fs → All IsHeight fs → PieceMarks (line_seen l) b.piece (marks_seen l fs)
      by (both f g up at_a at_b) hf = upright (line_seen l) b.piece line_point p.part.points p.part.onward up (point_at l f) (point_at l g) (on_line_point l f hl (hf 0 f (omega arith)).ratio) (on_line_point l g hl (hf 1 f (omega arith)).ratio) at_a at_b
      by (one f off in_line) hf = on_edge (line_seen l) (point_at l f) p line_point (rises off) begins lasts (on_line_point l f hl (hf 0 f (omega arith)).ratio) (subst (λ s. turn s.a s.b (point_at l f) ≡ pos 0) bar.on_edge.edge in_line)

  pub marks_of_line : (ms : List Fraction) → AreHeightsAt l bars ms → AreMarks pieces (line_seen l) (marks_seen l ms)
  marks_of_line ms h = marks_from pieces (line_seen l) line_point (λ x. x.bar.piece) (points l) (paired bars h.found) are all (marks_seen l ms) (subst (λ us. R.IsRisingOf (OnLine (line_seen l)) LtY Same us (marks_seen l ms)) (sym (paired_points l bars h.found h.each)) rises)
    where
      are : All (λ x. Contains pieces x.bar.piece × PieceMarks (line_seen l) x.bar.piece (points l x)) (paired bars h.found)
      are = paired_all l (λ x. Contains pieces x.bar.piece × PieceMarks (line_seen l) x.bar.piece (points l x)) bars h.found h.each h.bounded
          (λ k d fs within hf found.
          let m = meets k d within in
          let b = get_or bars k d in
          ((b.number, m.0.within, get_or_default pieces b.number b.piece (piece 0 nothing) m.0.within ∙ sym m.0.is), of_bar b fs hf m found))

      all : All (λ p. Any (λ x. x.bar.piece ≡ p) (paired bars h.found) ⊎ PieceMarks (line_seen l) p []) pieces
      all k d within =
          let p = get_or pieces k d in
          let e : piece_at pieces k ≡ p = get_or_default pieces k (piece 0 nothing) d within in
          let q = known.each k d within in
          ⊎_elim
          (λ begins. ⊎_elim
          (λ lasts. inl (paired_any l (λ b. b.piece ≡ p) bars h.found h.each (any_with (λ b. IsBar sums room pieces b × BeginsBy l b × LastsTo l b) (λ b. b.number ≡ k) (λ b. b.piece ≡ p) (λ b m n. m.0.is ∙ ap (piece_at pieces) n ∙ e) bars meets (every k within (subst (λ p. LeX p.part.a (line_seen l)) (sym e) begins) (subst (λ p. LeX (line_seen l) p.part.b) (sym e) lasts)))))
          (λ off. inr (outside (line_seen l) p line_point q.part.points q.part.onward (λ h. omega (arith, linear, h.1, off))))
          (le_or_lt (l.num *ℤ p.part.b.w) (p.part.b.x *ℤ l.den)))
          (λ off. inr (outside (line_seen l) p line_point q.part.points q.part.onward (λ h. omega (arith, linear, h.0, off))))
          (le_or_lt (p.part.a.x *ℤ l.den) (l.num *ℤ p.part.a.w))

      rises : R.IsRisingOf (OnLine (line_seen l)) LtY Same (marks_seen l (flat_map (λ fs. fs) h.found)) (marks_seen l ms)
      rises = record {
        points = All-map (OnLine (line_seen l)) (point_at l) ms (λ k d within. on_line_point l (get_or ms k d) hl (h.heights k d within).ratio);
        rising = all_pairs_map LtY (point_at l) ms (λ i j d less within. point_less l (get_or ms i d) (get_or ms j d) hl (h.rising.rising i j d less within));
        each = All-map (λ z. Any (Same z) (marks_seen l (flat_map (λ fs. fs) h.found))) (point_at l) ms (λ k d within.
            let (j, below, is) = h.rising.each (get_or ms k d) (Contains-get_or ms k d within) in
            any_to_map (Same (point_at l (get_or ms k d))) (point_at l) (flat_map (λ fs. fs) h.found) (j, get_or ms k d, below, is, (refl, refl)));
        all = All-map (λ x. Any (Same x) (marks_seen l ms)) (point_at l) (flat_map (λ fs. fs) h.found) (λ k d within.
            any_to_map (Same (point_at l (get_or (flat_map (λ fs. fs) h.found) k d))) (point_at l) ms (any_weaker (SameValue (get_or (flat_map (λ fs. fs) h.found) k d)) (λ g. Same (point_at l (get_or (flat_map (λ fs. fs) h.found) k d)) (point_at l g)) (λ g e. point_same l (get_or (flat_map (λ fs. fs) h.found) k d) g e) ms (h.rising.all k d within)));
      }
