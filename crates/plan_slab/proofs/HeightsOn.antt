-- A mark is an end of a piece, or where an edge between spots meets the line: so its denominator divides that of the line times a small factor.
use Rattle.std.proofs.Common.{◌≡◌, inl, inr, ℕ, zero, suc, ◌*◌, ◌/◌, ◌<◌, ◌≤◌, ◌^◌, ℤ, pos, ◌-ℤ◌, ◌*ℤ◌, ◌<ℤ◌, List, [], ◌∷◌, length, get_or, All, Any, refl, sym, ap, subst, unsigned_abs, arith}
use Rattle.std.specs.Int.{◌∣◌}
use Rattle.std.specs.List.{flat_map}
use Rattle.std.proofs.Math.Nat.{div-mul_cancel}
use Rattle.std.proofs.lemmas.Int.{ints, unsigned_abs-mul}
use Rattle.std.proofs.lemmas.List.{get_or-map, length-map}
use Rattle.std.proofs.lemmas.List.Elements.{All-nil, All-cons, All-head, All-tail, All-append, All-map, All-contains}
use Rattle.plan_exact.specs.Expr.{con, ◌⊕◌, ◌⊖◌, ◌⊗◌}
use Rattle.plan_exact.specs.Formal as F
use Rattle.plan_exact.specs.Formal.{A, B, C, D}
use Rattle.plan_exact.specs.Vectors.{env}
use Rattle.plan_exact.proofs.Certificates.{eq_from}
use Rattle.plan_exact.proofs.Laws.{linear}
use Rattle.plan_exact.proofs.Signs.{mul_pos}
use Rattle.plan_spec.specs.Vector.{Vector, IsPoint, LtX, SameX, Same, turn}
use Rattle.plan_spec.specs.Segment.{Segment, HasPoints, On}
use Rattle.plan_spec.specs.Polygon.{edges, edges_to}
use Rattle.plan_spec.specs.Boundary.{boundary, sides}
use Rattle.plan_spec.specs.Frame as spec
use Rattle.plan_spec.specs.Pieces.{Piece}
use Rattle.plan_spec.specs.Slabs.{nowhere, edge_of, IsMark, AreMarks, line_at}
use Rattle.plan_plane.proofs.Lists.{all_flat}
use Rattle.plan_plane.proofs.Rising.ByCoordinate.{order_x}
use Rattle.plan_plane.proofs.Segment.ByX.{between_one}
use Rattle.plan_plane.proofs.Segment.Part.{on_part_of}
use Rattle.plan_grid.specs.Fraction.{Fraction, SameValue, point_at, height_of}
use Rattle.plan_grid.specs.Frame.{frame_seen}
use Rattle.plan_grid.specs.Spot.{spot_seen, spots_seen, edge_seen, IsWithin}
use Rattle.plan_grid.specs.declared.bounds.TheConstants.{MOST_COORDINATE}
use Rattle.plan_grid.specs.declared.frame.Frame.{Frame}
use Rattle.plan_grid.specs.declared.spot.Spot.{Spot}
use Rattle.plan_grid.proofs.Unique.{den_divides}
use Rattle.plan_convex.specs.Piece.{IsPieceInRange, sums_seen}
use Rattle.plan_convex.proofs.Distances.{run_bounded}
use Rattle.plan_slab.specs.declared.strand.Strand.{Strand}
use Rattle.plan_slab.specs.EventLines.{IsLine}
use Rattle.plan_slab.specs.FreeLots.{AreRows}
use Rattle.plan_slab.specs.Heights.{IsHeight, IsHeightOn}
use Rattle.plan_slab.specs.Laws.{AreSlabsOf}
use Rattle.plan_slab.specs.Seen.{line_seen, marks_seen}
use Rattle.plan_slab.specs.SlabsSeen.{slabs_seen}
use Rattle.plan_slab.proofs.FreeLots.{mark_same_x}
use Rattle.plan_slab.proofs.Pieces.{IsPiece, has_pieces}
use Rattle.plan_slab.proofs.SlabsSeen.{rows_at}
use Rattle.plan_slab.proofs.SweptRows.{rows_count}

-- ---- the boundary's edges are between spots
record IsShort (e : Segment) : Type 0 where
  a : Spot
  b : Spot
  is : e ≡ edge_seen a b
  a_bounded : IsWithin MOST_COORDINATE a
  b_bounded : IsWithin MOST_COORDINATE b

short : (a b : Spot) → IsWithin MOST_COORDINATE a → IsWithin MOST_COORDINATE b → IsShort (edge_seen a b)
short a b ha hb = record { a = a; b = b; is = refl; a_bounded = ha; b_bounded = hb }

edges_short : (f : Spot) (vs : List Spot) → IsWithin MOST_COORDINATE f → All (IsWithin MOST_COORDINATE) vs → All IsShort (edges_to (spot_seen f) (spots_seen vs))
edges_short f [] hf h = All-nil IsShort
edges_short f (a ∷ []) hf h = All-cons IsShort (edge_seen a f) [] (short a f (All-head (IsWithin MOST_COORDINATE) a [] h) hf) (All-nil IsShort)
edges_short f (a ∷ (b ∷ vs)) hf h =
    let rest = All-tail (IsWithin MOST_COORDINATE) a (b ∷ vs) h in
    All-cons IsShort (edge_seen a b) (edges_to (spot_seen f) (spots_seen (b ∷ vs))) (short a b (All-head (IsWithin MOST_COORDINATE) a (b ∷ vs) h) (All-head (IsWithin MOST_COORDINATE) b vs rest)) (edges_short f (b ∷ vs) hf rest)

polygon_short : (vs : List Spot) → All (IsWithin MOST_COORDINATE) vs → All IsShort (edges (spots_seen vs))
polygon_short [] h = All-nil IsShort
polygon_short (v ∷ vs) h = edges_short v (v ∷ vs) (All-head (IsWithin MOST_COORDINATE) v vs h) h

sides_short : (room : Frame) → IsWithin MOST_COORDINATE room.low → IsWithin MOST_COORDINATE room.high → All IsShort (sides (frame_seen room))
sides_short room low high zero d within = short room.low (record { x = room.high.x; y = room.low.y }) low (record { x = high.x; y = low.y })
sides_short room low high (suc zero) d within = short (record { x = room.high.x; y = room.low.y }) room.high (record { x = high.x; y = low.y }) high
sides_short room low high (suc (suc zero)) d within = short (record { x = room.low.x; y = room.high.y }) room.high (record { x = low.x; y = high.y }) high
sides_short room low high (suc (suc (suc zero))) d within = short room.low (record { x = room.low.x; y = room.high.y }) low (record { x = low.x; y = high.y })
sides_short room low high (suc (suc (suc (suc k)))) d within = absurd (omega arith)

boundary_short : (sums : List (List Spot)) (room : Frame) → All (All (IsWithin MOST_COORDINATE)) sums → IsWithin MOST_COORDINATE room.low → IsWithin MOST_COORDINATE room.high → All IsShort (boundary (sums_seen sums) (frame_seen room))
boundary_short sums room h low high =
    All-append IsShort (flat_map edges (sums_seen sums)) (sides (frame_seen room)) (all_flat IsShort edges (sums_seen sums) (All-map (λ vs. All IsShort (edges vs)) spots_seen sums (λ k d within. polygon_short (get_or sums k d) (h k d within)))) (sides_short room low high)

-- ---- at the end of a piece
positive_quotient : (q d w : ℕ) → q * d ≡ w → 0 < w → 1 ≤ q
positive_quotient zero d w e h = absurd (omega (arith, e, h))
positive_quotient (suc q) d w e h = omega arith

module _ (l m : Fraction) (hl : IsLine l) (hm : IsHeight m) where
  at_end : (p : Vector) → IsPoint p → p.w <ℤ pos (2 ^ 25) → Same (point_at l m) p → IsHeightOn l m
  at_end p hp light same = record {
    height = hm;
    factor = unsigned_abs p.w / unsigned_abs l.den;
    positive = positive_quotient (unsigned_abs p.w / unsigned_abs l.den) (unsigned_abs l.den) (unsigned_abs p.w) whole (omega (arith, ints));
    divides = subst (λ n. unsigned_abs m.den ∣ n) (sym whole) (den_divides m (record { num = p.y; den = p.w }) hm.ratio y);
    small = inr (omega (arith, whole, below));
  }
    where
      numbers : List ℤ
      numbers = env [] (record { x = l.num; y = pos 0; w = l.den } ∷ record { x = m.num; y = pos 0; w = m.den } ∷ p ∷ [])

      x : l.num *ℤ p.w ≡ p.x *ℤ l.den
      x =
          let z : (l.num *ℤ m.den) *ℤ p.w -ℤ p.x *ℤ (l.den *ℤ m.den) ≡ pos 0 = omega (arith, linear, same.0) in
          eq_from numbers B.w ((A.x ⊗ B.w) ⊗ C.w ⊖ C.x ⊗ (A.w ⊗ B.w)) (A.x ⊗ C.w) (C.x ⊗ A.w) tt (omega (arith, linear, hm.ratio.positive)) z

      y : m.num *ℤ p.w ≡ p.y *ℤ m.den
      y =
          let z : (m.num *ℤ l.den) *ℤ p.w -ℤ p.y *ℤ (l.den *ℤ m.den) ≡ pos 0 = omega (arith, linear, same.1) in
          eq_from numbers A.w ((B.x ⊗ A.w) ⊗ C.w ⊖ C.y ⊗ (A.w ⊗ B.w)) (B.x ⊗ C.w) (C.y ⊗ B.w) tt (omega (arith, linear, hl.ratio.positive)) z

      whole : unsigned_abs p.w / unsigned_abs l.den * unsigned_abs l.den ≡ unsigned_abs p.w
      whole = div-mul_cancel (unsigned_abs l.den) (den_divides l (record { num = p.x; den = p.w }) hl.ratio x)

      below : unsigned_abs p.w < 2 ^ 25
      below = omega (arith, ints)

  -- ---- on an edge that is not upright
  on_run : (a b : Spot) → IsWithin MOST_COORDINATE a → IsWithin MOST_COORDINATE b → ¬ (a.x ≡ b.x) → turn (spot_seen a) (spot_seen b) (point_at l m) ≡ pos 0 → IsHeightOn l m
  on_run a b ha hb differ on = record {
    height = hm;
    factor = unsigned_abs (b.x -ℤ a.x);
    positive = run_positive;
    divides = subst (λ n. unsigned_abs m.den ∣ n) (unsigned_abs-mul (b.x -ℤ a.x) l.den) (den_divides m (height_of (spot_seen a) (spot_seen b) l) hm.ratio value);
    small = inl (run_bounded a.x b.x ha.x hb.x);
  }
    where
      zero_run : (p q : ℤ) → unsigned_abs (q -ℤ p) ≡ 0 → p ≡ q
      zero_run p q e = omega (arith, ints)

      run_positive : 1 ≤ unsigned_abs (b.x -ℤ a.x)
      run_positive = by (unsigned_abs (b.x -ℤ a.x)) (λ e. differ (zero_run a.x b.x e))
        where
          by : (n : ℕ) → ¬ (n ≡ 0) → 1 ≤ n
          by zero h = absurd (h refl)
          by (suc n) h = omega arith

      value : SameValue m (height_of (spot_seen a) (spot_seen b) l)
      value =
          eq_from (env [] (record { x = l.num; y = pos 0; w = l.den } ∷ record { x = m.num; y = pos 0; w = m.den } ∷ spot_seen a ∷ spot_seen b ∷ [])) (con (pos 1))
          (F.det (record { x = C.x; y = C.y; w = con (pos 1) }) (record { x = D.x; y = D.y; w = con (pos 1) }) (record { x = A.x ⊗ B.w; y = B.x ⊗ A.w; w = A.w ⊗ B.w }))
          (B.x ⊗ ((D.x ⊖ C.x) ⊗ A.w)) ((C.y ⊗ (D.x ⊗ A.w ⊖ A.x) ⊕ D.y ⊗ (A.x ⊖ C.x ⊗ A.w)) ⊗ B.w) tt (omega (arith, linear)) on

-- an edge with points of two x is not upright
leans : (e p : Segment) → HasPoints e → HasPoints p → On e p.a → On e p.b → LtX p.a p.b → ¬ (SameX e.a e.b)
leans e p he hp from to lt upright =
    let u : SameX e.a p.a = between_one e.a e.b p.a he.0 he.1 hp.0 upright from.within_x in
    let v : SameX e.a p.b = between_one e.a e.b p.b he.0 he.1 hp.1 upright to.within_x in
    let w : SameX p.a p.b = order_x.trans p.a e.a p.b hp.0 he.0 hp.1 (sym u) v in
    omega (arith, linear, w, lt)

-- ---- the marks of a piece
mark_height : (sums : List (List Vector)) (room : spec.Frame) (l m : Fraction) (p : Piece) → IsLine l → IsHeight m → IsPiece sums room p → IsPieceInRange p → IsShort (edge_of sums room p) → IsPoint (point_at l m) → IsMark (point_at l m) p → IsHeightOn l m
mark_height sums room l m p hl hm piece range short hz (inl same) = at_end l m hl hm p.part.a piece.part.points.0 range.from_bounded same
mark_height sums room l m p hl hm piece range short hz (inr (inl same)) = at_end l m hl hm p.part.b piece.part.points.1 range.to_bounded same
mark_height sums room l m p hl hm piece range short hz (inr (inr (lt, on))) =
    let e = edge_of sums room p in
    let on_edge = on_part_of e p.part (point_at l m) piece.edge_points piece.part.points hz piece.part.from piece.part.to on in
    let sloped = leans e p.part piece.edge_points piece.part.points piece.part.from piece.part.to lt in
    on_run l m hl hm short.a short.b short.a_bounded short.b_bounded (λ same. sloped (subst (λ e. SameX e.a e.b) (sym short.is) (ap (λ x. x *ℤ pos 1) same)))
    (subst (λ e. turn e.a e.b (point_at l m) ≡ pos 0) short.is on_edge.in_line)

mark_point : (l m : Fraction) → IsLine l → IsHeight m → IsPoint (point_at l m)
mark_point l m hl hm = mul_pos {a = l.den} {b = m.den} (omega (arith, linear, hl.ratio.positive)) (omega (arith, linear, hm.ratio.positive))

-- ---- all marks
pub heights_on : (sums : List (List Spot)) (room : Frame) (pieces : List Piece) (lines : List Fraction) (spans : List (List Strand)) (marks : List (List Fraction))
    → AreSlabsOf (sums_seen sums) (frame_seen room) pieces (slabs_seen lines spans marks) → AreRows lines spans marks → All IsPieceInRange pieces → All (All (IsWithin MOST_COORDINATE)) sums → IsWithin MOST_COORDINATE room.low → IsWithin MOST_COORDINATE room.high
    → (k : ℕ) (d : Fraction) → k < length marks → All (IsHeightOn (get_or lines k d)) (get_or marks k [])
heights_on sums room pieces lines spans marks are rows ranges within low high k d here = each
  where
    there : k < length lines
    there = omega (arith, here, rows.line_count)

    l : Fraction
    l = get_or lines k d

    ms : List Fraction
    ms = get_or marks k []

    hl : IsLine (get_or lines k d)
    hl = rows.each_line k d there

    heights : All IsHeight (get_or marks k [])
    heights = rows.heights k [] here

    marked : AreMarks pieces (line_seen (get_or lines k d)) (marks_seen (get_or lines k d) (get_or marks k []))
    marked =
        let h = are.slabs.marks k (omega (arith, here, rows_count lines marks (omega (arith, rows.line_count)))) in
        subst (λ x. AreMarks pieces x (marks_seen (get_or lines k d) (get_or marks k []))) (get_or-map line_seen lines k d nowhere there)
        (subst (AreMarks pieces (line_at (slabs_seen lines spans marks) k)) (rows_at lines marks k d there here) h)

    -- a mark of some piece
    of_piece : (m : Fraction) → IsHeight m → IsPoint (point_at l m) → Any (IsMark (point_at l m)) pieces → IsHeightOn l m
    of_piece m hm hz (n, p, below, is, mark) =
        let piece : IsPiece (sums_seen sums) (frame_seen room) p = subst (IsPiece (sums_seen sums) (frame_seen room)) is ((has_pieces are.floor are.bound).each n p below) in
        let range : IsPieceInRange p = subst IsPieceInRange is (ranges n p below) in
        mark_height (sums_seen sums) (frame_seen room) l m p hl hm piece range (All-contains IsShort (boundary (sums_seen sums) (frame_seen room)) (edge_of (sums_seen sums) (frame_seen room) p) (boundary_short sums room within low high) piece.is_edge) hz mark

    each : All (IsHeightOn (get_or lines k d)) (get_or marks k [])
    each j c less =
        let m = get_or ms j c in
        let z = point_at l m in
        let hm : IsHeight m = heights j c less in
        let hz : IsPoint (point_at l m) = mark_point l m hl hm in
        of_piece m hm hz ((marked.exact z hz (mark_same_x l m)).1 (j, z, omega (arith, less, length-map ms (point_at l)), get_or-map (point_at l) ms j c z less, (refl, refl)))
