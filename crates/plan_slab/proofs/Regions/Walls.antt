-- Walls of a line: a piece that has a point of one is upright and has all of it, so where one of its points is clear all are; and each clear point of the line is in one.
use Rattle.std.proofs.Common.{◌≡◌, inl, inr, ℕ, suc, ◌<◌, pos, ◌*ℤ◌, ◌≤ℤ◌, List, length, get_or, Contains, refl, sym, arith}
use Rattle.std.proofs.lemmas.List.{get_or_default}
use Rattle.plan_exact.proofs.Laws.{linear}
use Rattle.plan_exact.proofs.Signs.{le_of_lt}
use Rattle.plan_spec.specs.Vector.{Vector, IsPoint, LeX, LeY, LtY, SameX, Same}
use Rattle.plan_spec.specs.Segment.{On}
use Rattle.plan_spec.specs.Frame.{Frame}
use Rattle.plan_spec.specs.Boundary.{IsClearOf}
use Rattle.plan_spec.specs.Pieces.{Piece}
use Rattle.plan_spec.specs.Slabs.{nowhere, IsMark, AreMarks}
use Rattle.plan_spec.specs.Regions.{InWall}
use Rattle.plan_plane.proofs.Boundary.Decided.{clear_decided}
use Rattle.plan_plane.proofs.Rising.ByCoordinate.{order_x}
use Rattle.plan_plane.proofs.Segment.Between.{Between, flip, LeX_after, LeX_before, LtX_after, LtX_before, flipped}
use Rattle.plan_plane.proofs.Segment.ByX.{leX_trans, leX_ltX, ltX_leX}
use Rattle.plan_plane.proofs.Segment.Same.{on_same}
use Rattle.plan_slab.proofs.Pieces.{IsPiece, HasPieces, mark_on}
use Rattle.plan_slab.proofs.ByNumber.{at_number}
use Rattle.plan_slab.proofs.Regions.Falling.{Falls, DropsAt, DropsOrZero, drops, drop_apart, not_beyond, not_before, up_to, from_on}
use Rattle.plan_slab.proofs.Regions.OnPieces.{piece_of, touches, hit}
use Rattle.plan_slab.proofs.Regions.Rows.{above_mark, marks_fall}
use Rattle.plan_slab.proofs.Regions.StraightWays.{beneath, overhead}
use Rattle.plan_slab.proofs.Regions.Upright.{Shape, rises, upright, shape, on_upright, upright_at}

-- a wall is a drop of the marks at its points
pub wall_drop : (l : Vector) (ms : List Vector) (z : Vector) (i : ℕ) → suc i < length ms → InWall l (get_or ms i nowhere) (get_or ms (suc i) nowhere) z → DropsAt (length ms) (above_mark ms z) i
wall_drop l ms z i within h = let a = h.above in let b = h.below in record { within = within; above = omega (arith, linear); below = omega (arith, linear) }

-- it is convex
wall_convex : {l m n p q z : Vector} → IsPoint z → Between p q z → InWall l m n p → InWall l m n q → InWall l m n z
wall_convex {l} {m} {n} {p} {q} {z} hz b wp wq =
    let e = wp.at in
    let f = wq.at in
    let p1 : LeX l p = omega (arith, linear) in
    let p2 : LeX p l = omega (arith, linear) in
    let q1 : LeX l q = omega (arith, linear) in
    let q2 : LeX q l = omega (arith, linear) in
    record {
      at = omega (arith, linear, LeX_after b l p1 q1, LeX_before b l p2 q2);
      above = LtX_after hz (flipped b) (flip m) wp.above wq.above;
      below = LtX_before hz (flipped b) (flip n) wp.below wq.below;
    }

-- a line with its marks
pub record MarkedLine (sums : List (List Vector)) (room : Frame) (pieces : List Piece) (l : Vector) (ms : List Vector) : Type 0 where
  pub known : HasPieces sums room pieces
  pub point : IsPoint l
  pub marks : AreMarks pieces l ms

module _ {sums : List (List Vector)} {room : Frame} {pieces : List Piece} {l : Vector} {ms : List Vector} (line : MarkedLine sums room pieces l ms) where
  pub mark_point : (j : ℕ) → j < length ms → IsPoint (get_or ms j nowhere)
  mark_point j within = line.marks.points j nowhere within

  pub fall : (z : Vector) → IsPoint z → Falls (length ms) (above_mark ms z)
  fall z hz = marks_fall ms z line.marks.points line.marks.rising hz

  -- the number of a mark of a piece
  number : {p : Piece} (u : Vector) → Contains pieces p → IsPoint u → SameX l u → IsMark u p → (j : ℕ) × (j < length ms) × Same u (get_or ms j nowhere)
  number {p} u (k, within, is) hu lu h = at_number (Same u) ms nowhere ((line.marks.exact u hu lu).0 (k, p, within, is, h))

  pub on_line : {m n z : Vector} → InWall l m n z → SameX l z
  on_line h = sym h.at

  module _ (i : ℕ) (within : suc i < length ms) (z w : Vector) (hz : IsPoint z) (hw : IsPoint w) (wz : InWall l (get_or ms i nowhere) (get_or ms (suc i) nowhere) z) (ww : InWall l (get_or ms i nowhere) (get_or ms (suc i) nowhere) w) where
    -- a mark that is not above the one point of the wall is not above the other; and not below likewise
    upto_other : {p : Piece} (u : Vector) → Contains pieces p → IsPoint u → SameX l u → IsMark u p → LeY u z → LeY u w
    upto_other u has hu lu is le =
        let (j, below, same) = number u has hu lu is in
        let m = get_or ms j nowhere in
        let hm = mark_point j below in
        let mu : LeY m u = omega (arith, linear, same.1) in
        let um : LeY u m = omega (arith, linear, same.1) in
        let at = not_beyond (fall z hz) (wall_drop l ms z i within wz) j below (omega (arith, linear, leX_trans (flip m) (flip u) (flip z) hm hu hz mu le)) in
        let lt : LtY m w = omega (arith, linear, up_to (fall w hw) (wall_drop l ms w i within ww) j at) in
        le_of_lt (leX_ltX (flip u) (flip m) (flip w) hu hm hw um lt)

    from_other : {p : Piece} (u : Vector) → Contains pieces p → IsPoint u → SameX l u → IsMark u p → LeY z u → LeY w u
    from_other u has hu lu is ge =
        let (j, below, same) = number u has hu lu is in
        let m = get_or ms j nowhere in
        let hm = mark_point j below in
        let mu : LeY m u = omega (arith, linear, same.1) in
        let um : LeY u m = omega (arith, linear, same.1) in
        let at = not_before (fall z hz) (wall_drop l ms z i within wz) j (omega (arith, linear, leX_trans (flip z) (flip u) (flip m) hz hu hm ge um)) in
        let lt : LtY w m = omega (arith, linear, from_on (fall w hw) (wall_drop l ms w i within ww) j below at) in
        le_of_lt (ltX_leX (flip w) (flip m) (flip u) hw hm hu lt mu)

    no_mark : {p : Piece} → Contains pieces p → ¬ (IsMark z p)
    no_mark has is =
        let (j, below, same) = number z has hz (on_line wz) is in
        drop_apart (fall z hz) (wall_drop l ms z i within wz) j below (omega (arith, linear, same.1))

    pub covers : {p : Piece} → Contains pieces p → On p.part z → On p.part w
    covers {p} has on_z = by (shape p.part d.part.onward)
      where
        d : IsPiece sums room p
        d = piece_of line.known has

        by : Shape p.part → On p.part w
        by (rises h) = absurd (no_mark has (inr (inr (h, on_z))))
        by (upright e up) =
            let u = upright_at p.part z d.part.points hz e up on_z in
            let la = order_x.trans l z p.part.a line.point hz d.part.points.0 (on_line wz) (sym u.level) in
            let lb = order_x.trans l p.part.a p.part.b line.point d.part.points.0 d.part.points.1 la e in
            on_upright p.part w d.part.points hw e (order_x.trans p.part.a l w d.part.points.0 line.point hw (sym la) (on_line ww))
            (upto_other p.part.a has d.part.points.0 la (inl (refl, refl)) u.low)
            (from_other p.part.b has d.part.points.1 lb (inr (inl (refl, refl))) u.high)

  pub wall_of_one_kind : (i : ℕ) (p q : Vector) → suc i < length ms → IsPoint p → IsPoint q → InWall l (get_or ms i nowhere) (get_or ms (suc i) nowhere) p → InWall l (get_or ms i nowhere) (get_or ms (suc i) nowhere) q → IsClearOf sums room p → IsClearOf sums room q
  wall_of_one_kind i p q within hp hq wp wq clear = elim (clear_decided sums room q) [
    | inl h ↦ h
    | inr off ↦
        let b = hit line.known p q hp hq clear off in
        absurd (touches line.known b.has p hp (covers i within b.point p b.is_point hp (wall_convex b.is_point b.is.0 wp wq) wp b.has b.on) clear)
  ]

  -- the marks of a piece below and above a point of it on the line, or at it
  module _ (z : Vector) (hz : IsPoint z) {p : Piece} (has : Contains pieces p) (v : Vector) (hv : IsPoint v) (lv : SameX l v) (on : On p.part v) where
    d : IsPiece sums room p
    d = piece_of line.known has

    below_at : (u : Vector) → IsPoint u → SameX l u → IsMark u p → LeY u v → LeY v z → (j : ℕ) × (j < length ms) × (pos 0 ≤ℤ above_mark ms z j)
    below_at u hu lu is uv vz =
        let (j, below, same) = number u has hu lu is in
        let m = get_or ms j nowhere in
        let mu : LeY m u = omega (arith, linear, same.1) in
        (j, below, omega (arith, linear, leX_trans (flip m) (flip u) (flip z) (mark_point j below) hu hz mu (leX_trans (flip u) (flip v) (flip z) hu hv hz uv vz)))

    above_at : (u : Vector) → IsPoint u → SameX l u → IsMark u p → LeY v u → LeY z v → (j : ℕ) × (j < length ms) × (above_mark ms z j ≤ℤ pos 0)
    above_at u hu lu is vu zv =
        let (j, below, same) = number u has hu lu is in
        let m = get_or ms j nowhere in
        let um : LeY u m = omega (arith, linear, same.1) in
        (j, below, omega (arith, linear, leX_trans (flip z) (flip u) (flip m) hz hu (mark_point j below) (leX_trans (flip z) (flip v) (flip u) hz hv hu zv vu) um))

    mark_below : LeY v z → (j : ℕ) × (j < length ms) × (pos 0 ≤ℤ above_mark ms z j)
    mark_below vz = elim (shape p.part d.part.onward) [
      | rises h ↦ below_at v hv lv (inr (inr (h, on))) (omega (arith, linear)) vz
      | upright e up ↦
          let u = upright_at p.part v d.part.points hv e up on in
          below_at p.part.a d.part.points.0 (order_x.trans l v p.part.a line.point hv d.part.points.0 lv (sym u.level)) (inl (refl, refl)) u.low vz
    ]

    mark_above : LeY z v → (j : ℕ) × (j < length ms) × (above_mark ms z j ≤ℤ pos 0)
    mark_above zv = elim (shape p.part d.part.onward) [
      | rises h ↦ above_at v hv lv (inr (inr (h, on))) (omega (arith, linear)) zv
      | upright e up ↦
          let u = upright_at p.part v d.part.points hv e up on in
          let la = order_x.trans l v p.part.a line.point hv d.part.points.0 lv (sym u.level) in
          above_at p.part.b d.part.points.1 (order_x.trans l p.part.a p.part.b line.point d.part.points.0 d.part.points.1 la e) (inr (inl (refl, refl))) u.high zv
    ]

  pub in_a_wall : (z : Vector) → IsPoint z → SameX l z → IsClearOf sums room z → (i : ℕ) × (suc i < length ms) × InWall l (get_or ms i nowhere) (get_or ms (suc i) nowhere) z
  in_a_wall z hz lz clear =
      let b = beneath line.known z hz clear in
      let o = overhead line.known z hz clear in
      let u = mark_below z hz b.has b.point b.is_point (order_x.trans l z b.point line.point hz b.is_point lz b.is.0) b.on (le_of_lt b.is.1) in
      let v = mark_above z hz o.has o.point o.is_point (order_x.trans l z o.point line.point hz o.is_point lz o.is.0) o.on (le_of_lt o.is.1) in
      by (drops (length ms) (above_mark ms z) (fall z hz) u.0 v.0 u.1 v.1 u.2 v.2)
    where
      by : DropsOrZero (length ms) (above_mark ms z) → (i : ℕ) × (suc i < length ms) × InWall l (get_or ms i nowhere) (get_or ms (suc i) nowhere) z
      by (inl (i, d)) = let a = d.above in let b = d.below in (i, d.within, record { at = sym lz; above = omega (arith, linear); below = omega (arith, linear) })
      by (inr (j, within, e)) =
          let m = get_or ms j nowhere in
          let hm = mark_point j within in
          let lm = line.marks.on_line j nowhere within in
          let (k, p, below, is, mark) = (line.marks.exact m hm lm).1 (j, m, within, get_or_default ms j m nowhere within, (refl, refl)) in
          let d = piece_of line.known (k, below, is) in
          let y : m.y *ℤ z.w ≡ z.y *ℤ m.w = omega (arith, linear) in
          absurd (touches line.known (k, below, is) z hz (on_same p.part.a p.part.b m z d.part.points.0 d.part.points.1 hm hz (order_x.trans m l z hm line.point hz (sym lm) lz, y) (mark_on p m d.part.points hm mark)) clear)
