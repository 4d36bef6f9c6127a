-- Every lot is of one kind, and every clear point is in exactly one lot, so in exactly one region.
use Rattle.std.proofs.Common.{◌≡◌, ◌↔◌, inl, inr, ℕ, zero, suc, ◌<◌, pos, List, length, Any, sym, ap₂, subst, arith}
use Rattle.plan_exact.proofs.Laws.{linear}
use Rattle.plan_spec.specs.Vector.{Vector, IsPoint}
use Rattle.plan_spec.specs.Frame.{Frame}
use Rattle.plan_spec.specs.Boundary.{IsClearOf}
use Rattle.plan_spec.specs.Pieces.{Piece}
use Rattle.plan_spec.specs.Slabs.{nowhere, nothing, Slabs, line_at, spans_of, span_at, marks_of, mark_at, AreSlabs}
use Rattle.plan_spec.specs.Regions.{Lot, cell, wall, Holds, IsLot, spot_of, lots}
use Rattle.plan_slab.specs.Laws.{AreSlabsOf}
use Rattle.plan_slab.proofs.Pieces.{HasPieces, has_pieces}
use Rattle.plan_slab.proofs.Regions.ByX.{between_lines, not_first, not_last}
use Rattle.plan_slab.proofs.Regions.Cells.{SpannedSlab, cell_drop, in_slab, cell_of_one_kind, in_a_cell, span_piece}
use Rattle.plan_slab.proofs.Regions.Cells as cells
use Rattle.plan_slab.proofs.Regions.Falling.{Falls, DropsAt, DropsOrZero, drop_apart, drops_once, zero_once}
use Rattle.plan_slab.proofs.Regions.LotOrder.{cell_listed, wall_listed}
use Rattle.plan_slab.proofs.Regions.Rows.{right_of, lines_fall, slab_drop, drop_slab}
use Rattle.plan_slab.proofs.Regions.Spots.{cell_spot_inside, wall_spot_inside}
use Rattle.plan_slab.proofs.Regions.Walls.{MarkedLine, wall_drop, wall_of_one_kind, in_a_wall}
use Rattle.plan_slab.proofs.Regions.Walls as walls

-- the slabs of the pieces of sums in a room
pub record KnownSlabs (sums : List (List Vector)) (room : Frame) (pieces : List Piece) (σ : Slabs) : Type 0 where
  pub known : HasPieces sums room pieces
  pub slabs : AreSlabs sums room pieces σ

pub known_slabs : {sums : List (List Vector)} {room : Frame} {pieces : List Piece} {σ : Slabs} → AreSlabsOf sums room pieces σ → KnownSlabs sums room pieces σ
known_slabs h = record { known = has_pieces h.floor h.bound; slabs = h.slabs }

module _ {sums : List (List Vector)} {room : Frame} {pieces : List Piece} {σ : Slabs} (map : KnownSlabs sums room pieces σ) where
  -- ---- by number
  pub has_lines : (k : ℕ) → k < length σ.spans → suc k < length σ.lines
  has_lines k within = omega (arith, within, map.slabs.slab_count)

  pub slab_at : (k : ℕ) → k < length σ.spans → SpannedSlab sums room pieces σ.lines k (spans_of σ k)
  slab_at k within = record { known = map.known; lines = map.slabs.lines; within = has_lines k within; spans = map.slabs.spans k within }

  line_point : (k : ℕ) → k < length σ.lines → IsPoint (line_at σ k)
  line_point k within = map.slabs.lines.points k nowhere within

  pub line_of : (k : ℕ) → k < length σ.marks → MarkedLine sums room pieces (line_at σ k) (marks_of σ k)
  line_of k within = record { known = map.known; point = line_point k (omega (arith, within, map.slabs.line_count)); marks = map.slabs.marks k within }

  pub fall : (z : Vector) → IsPoint z → Falls (length σ.lines) (right_of σ.lines z)
  fall z hz = lines_fall σ.lines z map.slabs.lines.points map.slabs.lines.rising hz

  -- ---- of one kind
  pub one_kind : (lot : Lot) → IsLot σ lot → (p q : Vector) → IsPoint p → IsPoint q → Holds σ lot p → Holds σ lot q → IsClearOf sums room p → IsClearOf sums room q
  one_kind (cell k i) (hk, hi) p q hp hq = cell_of_one_kind (slab_at k hk) i p q hi hp hq
  one_kind (wall k j) (hk, hj) p q hp hq = wall_of_one_kind (line_of k hk) j p q hj hp hq

  -- the point by which it is tested is one of its points
  pub spot_inside : (lot : Lot) → IsLot σ lot → IsPoint (spot_of σ lot) × Holds σ lot (spot_of σ lot)
  spot_inside (cell k i) (hk, hi) =
      let slab = slab_at k hk in
      cell_spot_inside (line_at σ k) (line_at σ (suc k)) (cells.two_lines slab) (span_at σ k i) (span_at σ k (suc i)) (span_piece slab i (omega arith)).strand.rises (span_piece slab (suc i) hi).strand.rises (slab.spans.order i (suc i) nothing (omega arith) hi)
  spot_inside (wall k j) (hk, hj) =
      let line = line_of k hk in
      wall_spot_inside (line_at σ k) (mark_at σ k j) (mark_at σ k (suc j)) line.point (walls.mark_point line j (omega arith)) (walls.mark_point line (suc j) hj) (line.marks.on_line j nowhere (omega arith)) (line.marks.on_line (suc j) nowhere hj) (line.marks.rising j (suc j) nowhere (omega arith) hj)

  -- so any of its points tells of that one
  pub decides : (lot : Lot) → IsLot σ lot → (z : Vector) → IsPoint z → Holds σ lot z → IsClearOf sums room z ↔ IsClearOf sums room (spot_of σ lot)
  decides lot is z hz holds =
      let s = spot_inside lot is in
      (λ clear. one_kind lot is z (spot_of σ lot) hz s.0 holds s.1 clear, λ clear. one_kind lot is (spot_of σ lot) z s.0 hz s.1 holds clear)

  -- ---- in one at most
  cell_slab : (k i : ℕ) (z : Vector) → IsLot σ (cell k i) → Holds σ (cell k i) z → DropsAt (length σ.lines) (right_of σ.lines z) k
  cell_slab k i z (hk, hi) c = slab_drop σ.lines z k (has_lines k hk) (in_slab c)

  wall_line : (k j : ℕ) (z : Vector) → IsLot σ (wall k j) → Holds σ (wall k j) z → (k < length σ.lines) × (right_of σ.lines z k ≡ pos 0)
  wall_line k j z (hk, hj) w = (omega (arith, hk, map.slabs.line_count), let e = w.at in omega (arith, linear))

  same_cell : (k i h : ℕ) (z : Vector) → IsPoint z → IsLot σ (cell k i) → IsLot σ (cell k h) → Holds σ (cell k i) z → Holds σ (cell k h) z → i ≡ h
  same_cell k i h z hz (hk, hi) (hk2, hh) a b =
      drops_once (cells.fall (slab_at k hk) z hz (in_slab a)) (cell_drop (line_at σ k) (line_at σ (suc k)) (spans_of σ k) z i hi a) (cell_drop (line_at σ k) (line_at σ (suc k)) (spans_of σ k) z h hh b)

  same_wall : (k i h : ℕ) (z : Vector) → IsPoint z → IsLot σ (wall k i) → IsLot σ (wall k h) → Holds σ (wall k i) z → Holds σ (wall k h) z → i ≡ h
  same_wall k i h z hz (hk, hi) (hk2, hh) a b = drops_once (walls.fall (line_of k hk) z hz) (wall_drop (line_at σ k) (marks_of σ k) z i hi a) (wall_drop (line_at σ k) (marks_of σ k) z h hh b)

  pub once : (a b : Lot) (z : Vector) → IsPoint z → IsLot σ a → IsLot σ b → Holds σ a z → Holds σ b z → a ≡ b
  once (cell k i) (cell n h) z hz la lb a b =
      let e = drops_once (fall z hz) (cell_slab k i z la a) (cell_slab n h z lb b) in
      ap₂ cell e (same_cell k i h z hz la (subst (λ m. IsLot σ (cell m h)) (sym e) lb) a (subst (λ m. Holds σ (cell m h) z) (sym e) b))
  once (wall k i) (wall n h) z hz la lb a b =
      let p = wall_line k i z la a in
      let q = wall_line n h z lb b in
      let e = zero_once k n (fall z hz) p.0 q.0 p.1 q.1 in
      ap₂ wall e (same_wall k i h z hz la (subst (λ m. IsLot σ (wall m h)) (sym e) lb) a (subst (λ m. Holds σ (wall m h) z) (sym e) b))
  once (cell k i) (wall n h) z hz la lb a b = let q = wall_line n h z lb b in absurd (drop_apart (fall z hz) (cell_slab k i z la a) n q.0 q.1)
  once (wall k i) (cell n h) z hz la lb a b = let q = wall_line k i z la a in absurd (drop_apart (fall z hz) (cell_slab n h z lb b) k q.0 q.1)

  -- ---- and in one that is listed
  pub listed : (z : Vector) → IsPoint z → IsClearOf sums room z → (lot : Lot) × IsLot σ lot × Holds σ lot z × Any (λ b. b ≡ lot) (lots σ)
  listed z hz clear = by (between_lines map.known map.slabs.lines z hz clear)
    where
      on_line : (k : ℕ) → k < length σ.lines → right_of σ.lines z k ≡ pos 0 → 0 < k → (lot : Lot) × IsLot σ lot × Holds σ lot z × Any (λ b. b ≡ lot) (lots σ)
      on_line zero within e positive = absurd (omega arith)
      on_line (suc k) within e positive =
          let hk : suc k < length σ.marks = omega (arith, within, map.slabs.line_count) in
          let w = in_a_wall (line_of (suc k) hk) z hz (omega (arith, linear, e)) clear in
          (wall (suc k) w.0, (hk, w.1), w.2, wall_listed σ k w.0 (omega (arith, within, map.slabs.slab_count)) w.1)

      by : DropsOrZero (length σ.lines) (right_of σ.lines z) → (lot : Lot) × IsLot σ lot × Holds σ lot z × Any (λ b. b ≡ lot) (lots σ)
      by (inl (k, d)) =
          let hk : k < length σ.spans = omega (arith, d.within, map.slabs.slab_count) in
          let c = in_a_cell (slab_at k hk) z hz clear (drop_slab σ.lines z k d) in
          (cell k c.0, (hk, c.1), c.2, cell_listed σ k c.0 hk c.1)
      by (inr (k, within, e)) = on_line k within e (not_first map.known map.slabs.lines z hz clear k within e)

  -- a wall that has a clear point is on a line that is neither the first nor the last
  pub inner_line : (k j : ℕ) (z : Vector) → IsPoint z → IsLot σ (wall k j) → Holds σ (wall k j) z → IsClearOf sums room z → (0 < k) × (suc k < length σ.lines)
  inner_line k j z hz lot w clear =
      let l = wall_line k j z lot w in
      (not_first map.known map.slabs.lines z hz clear k l.0 l.1, not_last map.known map.slabs.lines z hz clear k l.0 l.1)
