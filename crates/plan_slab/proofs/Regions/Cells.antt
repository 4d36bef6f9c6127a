-- Cells of a slab: no piece has a point of one, so where one of its points is clear all are; and each clear point of the slab is in one.
use Rattle.std.proofs.Common.{◌≡◌, inl, inr, ℕ, suc, ◌<◌, pos, ◌<ℤ◌, List, length, get_or, Any, Contains, arith}
use Rattle.std.proofs.lemmas.List.Elements.{All-contains}
use Rattle.plan_exact.specs.Vectors.{cross}
use Rattle.plan_exact.proofs.Laws.{linear}
use Rattle.plan_exact.proofs.Signs.{le_of_lt}
use Rattle.plan_spec.specs.Vector.{Vector, IsPoint, LeX, LtY, SameX}
use Rattle.plan_spec.specs.Segment.{Segment, On}
use Rattle.plan_spec.specs.Frame.{Frame}
use Rattle.plan_spec.specs.Boundary.{IsClearOf}
use Rattle.plan_spec.specs.Pieces.{Piece}
use Rattle.plan_spec.specs.Slabs.{nowhere, nothing, AreLines, AreSpans, InSlab, Reaches, LiesOn}
use Rattle.plan_spec.specs.Regions.{InCell}
use Rattle.plan_plane.proofs.Boundary.Decided.{clear_decided}
use Rattle.plan_plane.proofs.Segment.Between.{Between, between, zero_at, pos_at, neg_at, LtX_after, LtX_before}
use Rattle.plan_plane.proofs.Segment.ByX.{leX_ltX, ltX_leX}
use Rattle.plan_slab.proofs.Order.Across.{IsSlab}
use Rattle.plan_slab.proofs.Order.OneOrder.{on_strand}
use Rattle.plan_slab.proofs.Pieces.{HasPieces}
use Rattle.plan_slab.proofs.Regions.ByX.{reaches}
use Rattle.plan_slab.proofs.ByNumber.{at_number}
use Rattle.plan_slab.proofs.Regions.Falling.{Falls, DropsAt, DropsOrZero, drops, drop_apart}
use Rattle.plan_slab.proofs.Regions.OnPieces.{piece_of, touches, Hit, hit}
use Rattle.plan_slab.proofs.Regions.Rows.{above_span, spans_fall, slab_drop}
use Rattle.plan_slab.proofs.Regions.SpanLines.{HasPiece, has_piece, above_line, below_line}
use Rattle.plan_slab.proofs.Regions.StraightWays.{beneath, overhead}

-- a cell is a drop of the spans at its points
pub cell_drop : (l r : Vector) (ss : List Segment) (z : Vector) (i : ℕ) → suc i < length ss → InCell l r (get_or ss i nothing) (get_or ss (suc i) nothing) z → DropsAt (length ss) (above_span ss z) i
cell_drop l r ss z i within h = record { within = within; above = h.above; below = h.below }

pub in_slab : {l r : Vector} {s t : Segment} {z : Vector} → InCell l r s t z → InSlab l r z
in_slab h = (h.after, h.before)

-- it is convex
cell_convex : {l r : Vector} {s t : Segment} {p q z : Vector} → IsPoint z → Between p q z → InCell l r s t p → InCell l r s t q → InCell l r s t z
cell_convex {l} {r} {s} {t} hz b cp cq = record {
  after = LtX_after hz b l cp.after cq.after;
  before = LtX_before hz b r cp.before cq.before;
  above = pos_at hz b (cross s.a s.b) cp.above cq.above;
  below = neg_at hz b (cross t.a t.b) cp.below cq.below;
}

-- the slab to the right of line k
pub record SpannedSlab (sums : List (List Vector)) (room : Frame) (pieces : List Piece) (ls : List Vector) (k : ℕ) (ss : List Segment) : Type 0 where
  pub known : HasPieces sums room pieces
  pub lines : AreLines pieces ls
  pub within : suc k < length ls
  pub spans : AreSpans sums room pieces (get_or ls k nowhere) (get_or ls (suc k) nowhere) ss

module _ {sums : List (List Vector)} {room : Frame} {pieces : List Piece} {ls : List Vector} {k : ℕ} {ss : List Segment} (slab : SpannedSlab sums room pieces ls k ss) where
  pub fall : (z : Vector) → IsPoint z → InSlab (get_or ls k nowhere) (get_or ls (suc k) nowhere) z → Falls (length ss) (above_span ss z)
  fall z hz inside = spans_fall (get_or ls k nowhere) (get_or ls (suc k) nowhere) ss z slab.spans.order hz inside

  pub two_lines : IsSlab (get_or ls k nowhere) (get_or ls (suc k) nowhere)
  two_lines = record {
    left_point = slab.lines.points k nowhere (let w = slab.within in omega arith);
    right_point = slab.lines.points (suc k) nowhere slab.within;
    wide = slab.lines.rising k (suc k) nowhere (omega arith) slab.within;
  }

  pub span_piece : (i : ℕ) → i < length ss → HasPiece pieces (get_or ls k nowhere) (get_or ls (suc k) nowhere) (get_or ss i nothing)
  span_piece i within = has_piece (get_or ls k nowhere) (get_or ls (suc k) nowhere) (get_or ss i nothing) slab.known two_lines (slab.spans.each i nothing within)

  -- a piece that has a point of the slab lies on a span, whose line has the point
  on_span : {p : Piece} (z : Vector) → IsPoint z → InSlab (get_or ls k nowhere) (get_or ls (suc k) nowhere) z → Contains pieces p → On p.part z → (i : ℕ) × (i < length ss) × (above_span ss z i ≡ pos 0)
  on_span {p} z hz inside has on =
      let across = reaches slab.known slab.lines z hz (slab_drop ls z k slab.within inside) has on in
      let (i, within, lies) = at_number (λ s. LiesOn s p) ss nothing (All-contains (λ p. Reaches (get_or ls k nowhere) (get_or ls (suc k) nowhere) p → Any (λ s. LiesOn s p) ss) pieces p slab.spans.all has across) in
      let s = get_or ss i nothing in
      let pts = (piece_of slab.known has).part.points in
      (i, within, zero_at (between p.part.a p.part.b z pts.0 pts.1 hz on) (cross s.a s.b) lies.0 lies.1)

  no_piece : {p : Piece} (i : ℕ) (z : Vector) → suc i < length ss → IsPoint z → InCell (get_or ls k nowhere) (get_or ls (suc k) nowhere) (get_or ss i nothing) (get_or ss (suc i) nothing) z → Contains pieces p → ¬ (On p.part z)
  no_piece i z within hz c has on =
      let (j, below, e) = on_span z hz (in_slab c) has on in
      drop_apart (fall z hz (in_slab c)) (cell_drop (get_or ls k nowhere) (get_or ls (suc k) nowhere) ss z i within c) j below e

  pub cell_of_one_kind : (i : ℕ) (p q : Vector) → suc i < length ss → IsPoint p → IsPoint q → InCell (get_or ls k nowhere) (get_or ls (suc k) nowhere) (get_or ss i nothing) (get_or ss (suc i) nothing) p
      → InCell (get_or ls k nowhere) (get_or ls (suc k) nowhere) (get_or ss i nothing) (get_or ss (suc i) nothing) q → IsClearOf sums room p → IsClearOf sums room q
  cell_of_one_kind i p q within hp hq cp cq clear = elim (clear_decided sums room q) [
    | inl h ↦ h
    | inr off ↦
        let b = hit slab.known p q hp hq clear off in
        absurd (no_piece i b.point within b.is_point (cell_convex b.is_point b.is.0 cp cq) b.has b.on)
  ]

  pub in_a_cell : (z : Vector) → IsPoint z → IsClearOf sums room z → InSlab (get_or ls k nowhere) (get_or ls (suc k) nowhere) z
      → (i : ℕ) × (suc i < length ss) × InCell (get_or ls k nowhere) (get_or ls (suc k) nowhere) (get_or ss i nothing) (get_or ss (suc i) nothing) z
  in_a_cell z hz clear inside = by (drops (length ss) (above_span ss z) (fall z hz inside) u.0 v.0 u.1 v.1 (le_of_lt above) (le_of_lt below))
    where
      along : (v : Vector) → IsPoint v → SameX z v → InSlab (get_or ls k nowhere) (get_or ls (suc k) nowhere) v
      along v hv e =
          let zv : LeX z v = omega (arith, linear) in
          let vz : LeX v z = omega (arith, linear) in
          (ltX_leX (get_or ls k nowhere) z v two_lines.left_point hz hv inside.0 zv, leX_ltX v z (get_or ls (suc k) nowhere) hv hz two_lines.right_point vz inside.1)

      b : Hit pieces (λ v. SameX z v × LtY v z)
      b = beneath slab.known z hz clear

      o : Hit pieces (λ v. SameX z v × LtY z v)
      o = overhead slab.known z hz clear

      u : (i : ℕ) × (i < length ss) × (above_span ss b.point i ≡ pos 0)
      u = on_span b.point b.is_point (along b.point b.is_point b.is.0) b.has b.on

      v : (i : ℕ) × (i < length ss) × (above_span ss o.point i ≡ pos 0)
      v = on_span o.point o.is_point (along o.point o.is_point o.is.0) o.has o.on

      above : pos 0 <ℤ above_span ss z u.0
      above = above_line (get_or ss u.0 nothing) b.point z (span_piece u.0 u.1).strand.rises b.is_point u.2 b.is.0 b.is.1

      below : above_span ss z v.0 <ℤ pos 0
      below = below_line (get_or ss v.0 nothing) o.point z (span_piece v.0 v.1).strand.rises o.is_point v.2 o.is.0 o.is.1

      by : DropsOrZero (length ss) (above_span ss z) → (i : ℕ) × (suc i < length ss) × InCell (get_or ls k nowhere) (get_or ls (suc k) nowhere) (get_or ss i nothing) (get_or ss (suc i) nothing) z
      by (inl (i, d)) = (i, d.within, record { after = inside.0; before = inside.1; above = d.above; below = d.below })
      by (inr (i, within, e)) =
          let q = span_piece i within in
          absurd (touches slab.known q.has z hz (on_strand two_lines q.strand z hz (le_of_lt inside.0) (le_of_lt inside.1) e) clear)
