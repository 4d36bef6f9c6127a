-- What slabs keep, put together: regions are lots in their order, no more than spans and marks, and spans meet lines in their order.
use Rattle.std.proofs.Common.{◌≡◌, inl, inr, ℕ, suc, ◌+◌, ◌-◌, ◌<◌, ◌≤◌, pos, List, [], ◌∷◌, ◌++◌, length, map, get_or, sum_by, All, AllPairs, take, refl, sym, ap, ap₂, ◌∙◌, subst, arith}
use Rattle.std.specs.List.{AllZip, flat_map, range_with_len}
use Rattle.std.proofs.lemmas.Bool.{cases_lt}
use Rattle.std.proofs.lemmas.List.{get_or-map, get_or_default, get_or_past, length-map, length-append, map-append, take_more, flat_map_more}
use Rattle.std.proofs.lemmas.List.Elements.{All-map}
use Rattle.std.proofs.lemmas.List.FromFn.{length-map-range_with_len}
use Rattle.std.proofs.lemmas.List.Sums.{sum_by-cons}
use Rattle.plan_spec.specs.Vector.{Vector, IsPoint}
use Rattle.plan_spec.specs.Segment.{Segment, HasPoints}
use Rattle.plan_spec.specs.Frame.{Frame}
use Rattle.plan_spec.specs.Boundary.{IsClearOf}
use Rattle.plan_spec.specs.Pieces.{Piece, IsBoundaryOf}
use Rattle.plan_spec.specs.Slabs.{Slabs, AreSlabs, spans_of, marks_of, size}
use Rattle.plan_spec.specs.Regions as spec
use Rattle.plan_spec.specs.Regions.{Kept, none, keep, drop, cell, IsLot, spot_of, cells, walls, lots, AreRegions}
use Rattle.plan_plane.proofs.Boundary.Floor.{IsFloor}
use Rattle.plan_plane.proofs.Boundary.Sum.{IsSum}
use Rattle.plan_plane.proofs.Pairs.{pairs_at}
use Rattle.plan_grid.specs.declared.frame.Frame as grid
use Rattle.plan_grid.specs.declared.spot.Spot.{Spot}
use Rattle.plan_grid.specs.Fraction.{Fraction, point_at}
use Rattle.plan_grid.specs.Frame.{frame_seen}
use Rattle.plan_grid.specs.Spot.{spot_seen, spots_seen}
use Rattle.plan_convex.specs.Convex.{IsPolygon}
use Rattle.plan_convex.specs.Piece.{sums_seen}
use Rattle.plan_slab.specs.declared.lot.Lot.{Lot}
use Rattle.plan_slab.specs.declared.strand.Strand.{Strand}
use Rattle.plan_slab.specs.Decomposition.{AreInOrder}
use Rattle.plan_slab.specs.Ends.{AreEnds, AreTabled}
use Rattle.plan_slab.specs.FreeLots.{AreFreeOf, AreRows}
use Rattle.plan_slab.specs.Heights.{IsHeightOn}
use Rattle.plan_slab.specs.Laws.{AreSlabsOf}
use Rattle.plan_slab.specs.LotOrder.{Earlier}
use Rattle.plan_slab.specs.Seen.{lot_seen, strand_seen}
use Rattle.plan_slab.specs.SlabsSeen.{rows_seen, slabs_seen}
use Rattle.plan_slab.specs.Subdivision.{Subdivision, IsSubdivision, slabs_of, regions_of}
use Rattle.plan_slab.proofs.Decomposition.{decomposition}
use Rattle.plan_slab.proofs.LotNumbers.{rows_length}
use Rattle.plan_slab.proofs.Pieces.{has_pieces}
use Rattle.plan_slab.proofs.Regions.ExactlyOne.{known_slabs}
use Rattle.plan_slab.proofs.Regions.Kept.{kept_append, kept_pairs}
use Rattle.plan_slab.proofs.Regions.LotOrder.{lots_rise}
use Rattle.plan_slab.proofs.Regions.Numbered.{is_lot}
use Rattle.plan_slab.proofs.SlabsSeen.{rows_at}

-- ---- sums that are polygons in a room of spots
sum_of : (spots : List Spot) → IsPolygon spots → IsSum (spots_seen spots)
sum_of spots h = record {
  points = All-map IsPoint spot_seen spots (λ k d within. omega arith);
  convex = h.convex;
  long = omega (arith, h.at_least_three, length-map spots spot_seen);
}

pub floor_of : (sums : List (List Spot)) (room : grid.Frame) → All IsPolygon sums → IsFloor (sums_seen sums) (frame_seen room)
floor_of sums room h = record {
  are_sums = All-map IsSum spots_seen sums (λ k d within. sum_of (get_or sums k d) (h k d within));
  spots = record { low = refl; high = refl };
}

-- ---- lists one after another
pub flat_more : {V X : Type 0} (items : V → List X) (lists : List V) (i : ℕ) (v : V) (ys zs : List X) → ys ≡ flat_map items (take i lists) → i < length lists → v ≡ get_or lists i v → zs ≡ items v → ys ++ zs ≡ flat_map items (take (i + 1) lists)
flat_more items lists i v ys zs e within is f = ap₂ (λ a b. a ++ b) e (f ∙ ap items is) ∙ flat_map_more items [] (take i lists) (get_or lists i v) ∙ ap (flat_map items) (sym (take_more lists i v within))

kept_lists : {V : Type 0} (P : spec.Lot → Type 0) (f : ℕ → List spec.Lot) (items : V → List Lot) (ks : List ℕ) (vs : List V) → AllZip (λ k v. Kept P (f k) (map lot_seen (items v))) ks vs → Kept P (flat_map f ks) (map lot_seen (flat_map items vs))
kept_lists P f items [] [] h = none
kept_lists P f items [] (v ∷ vs) h = absurd h
kept_lists P f items (k ∷ ks) [] h = absurd h
kept_lists P f items (k ∷ ks) (v ∷ vs) h = subst (Kept P (flat_map f (k ∷ ks))) (sym (map-append lot_seen (items v) (flat_map items vs))) (kept_append h.0 (kept_lists P f items ks vs h.1))

pub regions_from : {V : Type 0} (sums : List (List Vector)) (room : Frame) (σ : Slabs) (items : V → List Lot) (n : ℕ) (vs : List V) → n ≡ length σ.spans → AllZip (λ k v. AreFreeOf sums room σ k (map lot_seen (items v))) (range_with_len 0 n) vs → AreRegions sums room σ (map lot_seen (flat_map items vs))
regions_from sums room σ items n vs e h = kept_lists (λ lot. IsClearOf sums room (spot_of σ lot)) (λ k. cells σ k ++ walls σ (suc k)) items (range_with_len 0 (length σ.spans)) vs (subst (λ n. AllZip (λ k v. AreFreeOf sums room σ k (map lot_seen (items v))) (range_with_len 0 n) vs) e h)

-- ---- no more lots than spans and marks
kept_length : {X : Type 0} {P : X → Type 0} {xs ys : List X} → Kept P xs ys → length ys ≤ length xs
kept_length none = omega arith
kept_length (keep x xs ys p rest) = omega (arith, kept_length rest)
kept_length (drop x xs ys off rest) = omega (arith, kept_length rest)

-- lists of which each is no longer than one list and another
total : (g : ℕ → List spec.Lot) (ss : List (List Segment)) (ms : List (List Vector)) (k : ℕ) → ((i : ℕ) → length (g (k + i)) ≤ length (get_or ss i []) + length (get_or ms i [])) → length (flat_map g (range_with_len k (length ss))) ≤ sum_by length ss + sum_by length ms
total g [] ms k h = omega arith
total g (s ∷ ss) [] k h =
    let first : length (g k) ≤ length s + 0 = subst (λ n. length (g n) ≤ length s + 0) (omega arith) (h 0) in
    let rest = total g ss [] (k + 1) (λ i. subst (λ n. length (g n) ≤ length (get_or ss i []) + 0) (omega arith) (h (suc i))) in
    omega (arith, first, rest, length-append (g k) (flat_map g (range_with_len (k + 1) (length ss))), sum_by-cons length s ss)
total g (s ∷ ss) (m ∷ ms) k h =
    let first : length (g k) ≤ length s + length m = subst (λ n. length (g n) ≤ length s + length m) (omega arith) (h 0) in
    let rest = total g ss ms (k + 1) (λ i. subst (λ n. length (g n) ≤ length (get_or ss i []) + length (get_or ms i [])) (omega arith) (h (suc i))) in
    omega (arith, first, rest, length-append (g k) (flat_map g (range_with_len (k + 1) (length ss))), sum_by-cons length s ss, sum_by-cons length m ms)

block_length : (σ : Slabs) (k : ℕ) → length (cells σ k ++ walls σ (suc k)) ≤ length (spans_of σ k) + length (marks_of σ (suc k))
block_length σ k = omega (arith, length-append (cells σ k) (walls σ (suc k)), length-map-range_with_len (cell k) 0 (length (spans_of σ k) - 1), length-map-range_with_len (spec.wall (suc k)) 0 (length (marks_of σ (suc k)) - 1))

pub few_lots : (σ : Slabs) → length (lots σ) ≤ size σ
few_lots σ = by σ.marks (λ k. block_length σ k)
  where
    by : (ms : List (List Vector)) → ((k : ℕ) → length (cells σ k ++ walls σ (suc k)) ≤ length (get_or σ.spans k []) + length (get_or ms (suc k) [])) → length (lots σ) ≤ sum_by length σ.spans + sum_by length ms
    by [] h = total (λ k. cells σ k ++ walls σ (suc k)) σ.spans [] 0 (λ i. subst (λ n. length (cells σ n ++ walls σ (suc n)) ≤ length (get_or σ.spans i []) + 0) (omega arith) (h i))
    by (m ∷ ms) h = omega (arith, sum_by-cons length m ms, total (λ k. cells σ k ++ walls σ (suc k)) σ.spans ms 0 (λ i. subst (λ n. length (cells σ n ++ walls σ (suc n)) ≤ length (get_or σ.spans i []) + length (get_or ms i [])) (omega arith) (h i)))

pub few_found : {sums : List (List Vector)} {room : Frame} (σ : Slabs) (found : List spec.Lot) → AreRegions sums room σ found → length found ≤ size σ
few_found σ found regions = omega (arith, kept_length regions, few_lots σ)

-- ---- rows of slabs
module _ (lines : List Fraction) (spans : List (List Strand)) (marks : List (List Fraction)) (rows : AreRows lines spans marks) where
  pub few_in_slab : (k : ℕ) → length (spans_of (slabs_seen lines spans marks) k) ≤ 131072
  few_in_slab k = elim (cases_lt k (length spans)) [
    | inl less ↦ omega (arith, ap length (get_or-map (map strand_seen) spans k [] [] less), length-map (get_or spans k []) strand_seen, rows.few_spans k [] less)
    | inr past ↦ omega (arith, ap length (get_or_past (map (map strand_seen) spans) k [] (omega (arith, past, length-map spans (map strand_seen)))))
  ]

  pub few_on_line : (k : ℕ) → length (marks_of (slabs_seen lines spans marks) k) ≤ 131072
  few_on_line k = elim (cases_lt k (length marks)) [
    | inl less ↦ (
        let zero_line : Fraction = record { num = pos 0; den = pos 0 } in
        omega (arith, ap length (rows_at lines marks k zero_line (omega (arith, less, rows.line_count)) less), length-map (get_or marks k []) (point_at (get_or lines k zero_line)), rows.few_marks k [] less)
        )
    | inr past ↦ omega (arith, ap length (get_or_past (rows_seen lines marks) k [] (omega (arith, past, rows_length lines marks))))
  ]

-- ---- the pieces of a floor
pub piece_points : {sums : List (List Vector)} {room : Frame} {pieces : List Piece} → IsFloor sums room → IsBoundaryOf sums room pieces → All (λ p. HasPoints p.part) pieces
piece_points floor bound k d within = ((has_pieces floor bound).each k d within).part.points

-- ---- slabs of lists that are the ones at hand
pub with_rows : (P : Slabs → Type 0) {ls lines : List Fraction} {ss spans : List (List Strand)} {ms marks : List (List Fraction)} → ls ≡ lines → ss ≡ spans → ms ≡ marks → P (slabs_seen ls ss ms) → P (slabs_seen lines spans marks)
with_rows P {ls} {lines} {ss} {spans} {ms} {marks} el es em p = subst (λ ls. P (slabs_seen ls spans marks)) el (subst (λ ss. P (slabs_seen ls ss marks)) es (subst (λ ms. P (slabs_seen ls ss ms)) em p))

-- ---- all of it
pub record Known (sums : List (List Spot)) (room : grid.Frame) (pieces : List Piece) (s : Subdivision) : Type 0 where
  pub has : AreSlabsOf (sums_seen sums) (frame_seen room) pieces (slabs_of s)
  pub regions : AreRegions (sums_seen sums) (frame_seen room) (slabs_of s) (regions_of s)
  pub rows : AreRows s.lines s.spans s.marks
  pub size_is : s.size ≡ size (slabs_of s)
  pub few : s.size ≤ 131072

-- from what a sweep and the tests of lots find
pub known_from : (sums : List (List Spot)) (room : grid.Frame) (pieces ps : List Piece) (s : Subdivision) (ls ks : List Fraction) (ss : List (List Strand)) (ms : List (List Fraction)) → All IsPolygon sums → IsBoundaryOf (sums_seen sums) (frame_seen room) pieces → ps ≡ pieces
    → ls ≡ s.lines → AreSlabs (sums_seen sums) (frame_seen room) ps (slabs_seen ls s.spans s.marks) → AreRows ls s.spans s.marks → s.size ≡ size (slabs_seen ls s.spans s.marks) → s.size ≤ 131072
    → ks ≡ s.lines → ss ≡ s.spans → ms ≡ s.marks → AreRegions (sums_seen sums) (frame_seen room) (slabs_seen ks ss ms) (regions_of s) → Known sums room pieces s
known_from sums room pieces ps s ls ks ss ms polygons bound ep el are rows size_is few ek es em regions = record {
  has = record {
    floor = floor_of sums room polygons;
    bound = bound;
    slabs = subst (λ ls. AreSlabs (sums_seen sums) (frame_seen room) pieces (slabs_seen ls s.spans s.marks)) el (subst (λ ps. AreSlabs (sums_seen sums) (frame_seen room) ps (slabs_seen ls s.spans s.marks)) ep are);
  };
  regions = with_rows (λ σ. AreRegions (sums_seen sums) (frame_seen room) σ (regions_of s)) ek es em regions;
  rows = subst (λ ls. AreRows ls s.spans s.marks) el rows;
  size_is = subst (λ ls. s.size ≡ size (slabs_seen ls s.spans s.marks)) el size_is;
  few = few;
}

module _ {sums : List (List Spot)} {room : grid.Frame} {pieces : List Piece} {s : Subdivision} (known : Known sums room pieces s) where
  lots_all : All (IsLot (slabs_of s)) (regions_of s)
  lots_all n d within = subst (IsLot (slabs_of s)) (get_or_default (regions_of s) n (cell 0 0) d within) (is_lot (known_slabs known.has) known.regions n within)

  lots_rising : AllPairs Earlier (regions_of s)
  lots_rising i j d less within = pairs_at Earlier (regions_of s) (kept_pairs Earlier known.regions (lots_rise (slabs_of s))) i j d less within

  pub in_order : AreInOrder (slabs_of s)
  in_order = (decomposition known.has known.regions).order

  few_regions : length (regions_of s) ≤ 131072
  few_regions = omega (arith, few_found (slabs_of s) (regions_of s) known.regions, known.size_is, known.few)

  pub tabled : (table : List (List (ℕ × ℕ))) → AreEnds (slabs_of s) table → AreTabled (slabs_of s) (regions_of s) table
  tabled table ends = record {
    ends = ends;
    order = in_order;
    lots = lots_all;
    rising = lots_rising;
    few_regions = few_regions;
    few_slabs = omega (arith, known.rows.slab_count, known.rows.few_lines, length-map s.spans (map strand_seen));
    few_spans = few_in_slab s.lines s.spans s.marks known.rows;
    few_marks = few_on_line s.lines s.spans s.marks known.rows;
  }

  pub subdivision : ((k : ℕ) (d : Fraction) → k < length s.marks → All (IsHeightOn (get_or s.lines k d)) (get_or s.marks k [])) → IsSubdivision s
  subdivision on_lines = record {
    rows = known.rows;
    size_is = known.size_is;
    few = known.few;
    few_regions = omega (arith, few_regions, length-map s.lots lot_seen);
    lots = lots_all;
    rising = lots_rising;
    on_lines = on_lines;
    order = in_order;
    placed = (decomposition known.has known.regions).placed;
  }
