-- By x: a clear point is between two neighbouring lines, or on a line that is neither the first nor the last; and a piece that has a point between two reaches across.
use Rattle.std.proofs.Common.{◌≡◌, inl, inr, ℕ, suc, ◌<◌, ◌≤◌, pos, ◌≤ℤ◌, List, length, get_or, AllPairs, Any, Contains, sym, subst, arith}
use Rattle.std.proofs.lemmas.Bool.{cases_order}
use Rattle.std.proofs.lemmas.List.Elements.{All-contains}
use Rattle.plan_exact.proofs.Laws.{linear}
use Rattle.plan_exact.proofs.Signs.{le_of_lt}
use Rattle.plan_spec.specs.Vector.{Vector, IsPoint, LeX, LtX, SameX}
use Rattle.plan_spec.specs.Segment.{On}
use Rattle.plan_spec.specs.Frame.{Frame}
use Rattle.plan_spec.specs.Boundary.{IsClearOf}
use Rattle.plan_spec.specs.Pieces.{IsPartOf, Piece}
use Rattle.plan_spec.specs.Slabs.{nowhere, edge_of, AreLines, Reaches}
use Rattle.plan_plane.proofs.Segment.ByX.{leX_trans, leX_ltX, ltX_leX}
use Rattle.plan_slab.proofs.Pieces.{HasPieces, in_range}
use Rattle.plan_slab.proofs.ByNumber.{at_number}
use Rattle.plan_slab.proofs.Regions.Falling.{DropsAt, DropsOrZero, drops, not_beyond, not_before, positive_first}
use Rattle.plan_slab.proofs.Regions.OnPieces.{piece_of}
use Rattle.plan_slab.proofs.Regions.Rows.{right_of, lines_fall}
use Rattle.plan_slab.proofs.Regions.StraightWays.{beneath, leftward, rightward}

rising_le : (ls : List Vector) → AllPairs LtX ls → (j k : ℕ) → j ≤ k → k < length ls → LeX (get_or ls j nowhere) (get_or ls k nowhere)
rising_le ls rising j k le within = elim (cases_order j k) [
  | inl e ↦ subst (λ i. LeX (get_or ls j nowhere) (get_or ls i nowhere)) e (omega (arith, linear))
  | inr t ↦ elim t [
    | inl lt ↦ le_of_lt (rising j k nowhere lt within)
    | inr gt ↦ absurd (omega arith)
  ]
]

module _ {sums : List (List Vector)} {room : Frame} {pieces : List Piece} {ls : List Vector} (h : HasPieces sums room pieces) (are : AreLines pieces ls) (z : Vector) (hz : IsPoint z) where
  -- a line at the x of a, which is not right of z; or not left of it
  line_before : (a : Vector) → IsPoint a → Any (SameX a) ls → LeX a z → (k : ℕ) × (k < length ls) × (SameX a (get_or ls k nowhere) × (pos 0 ≤ℤ right_of ls z k))
  line_before a ha some le =
      let (k, within, e) = at_number (SameX a) ls nowhere some in
      let l = get_or ls k nowhere in
      let la : LeX l a = omega (arith, linear) in
      (k, within, (e, omega (arith, linear, leX_trans l a z (are.points k nowhere within) ha hz la le)))

  line_after : (b : Vector) → IsPoint b → Any (SameX b) ls → LeX z b → (k : ℕ) × (k < length ls) × (SameX b (get_or ls k nowhere) × (right_of ls z k ≤ℤ pos 0))
  line_after b hb some le =
      let (k, within, e) = at_number (SameX b) ls nowhere some in
      let l = get_or ls k nowhere in
      let bl : LeX b l = omega (arith, linear) in
      (k, within, (e, omega (arith, linear, leX_trans z b l hz hb (are.points k nowhere within) le bl)))

  ends : {p : Piece} → Contains pieces p → Any (SameX p.part.a) ls × Any (SameX p.part.b) ls
  ends {p} has = All-contains (λ p. Any (SameX p.part.a) ls × Any (SameX p.part.b) ls) pieces p are.all has

  pub between_lines : IsClearOf sums room z → DropsOrZero (length ls) (right_of ls z)
  between_lines clear =
      let b = beneath h z hz clear in
      let d = (piece_of h b.has).part in
      let r = in_range b.piece.part b.point d.points b.is_point d.onward b.on in
      let e = b.is.0 in
      let pz : LeX b.point z = omega (arith, linear) in
      let zp : LeX z b.point = omega (arith, linear) in
      let u = line_before b.piece.part.a d.points.0 (ends b.has).0 (leX_trans b.piece.part.a b.point z d.points.0 b.is_point hz r.0 pz) in
      let v = line_after b.piece.part.b d.points.1 (ends b.has).1 (leX_trans z b.point b.piece.part.b hz b.is_point d.points.1 zp r.1) in
      drops (length ls) (right_of ls z) (lines_fall ls z are.points are.rising hz) u.0 v.0 u.1 v.1 u.2.1 v.2.1

  -- ---- a line of a clear point
  pub not_first : IsClearOf sums room z → (k : ℕ) → k < length ls → right_of ls z k ≡ pos 0 → 0 < k
  not_first clear k within e =
      let b = leftward h z hz clear in
      let d = (piece_of h b.has).part in
      let r = in_range b.piece.part b.point d.points b.is_point d.onward b.on in
      let (j, below, f) = at_number (SameX b.piece.part.a) ls nowhere (ends b.has).0 in
      let l = get_or ls j nowhere in
      let la : LeX l b.piece.part.a = omega (arith, linear) in
      let lt = leX_ltX l b.piece.part.a z (are.points j nowhere below) d.points.0 hz la (leX_ltX b.piece.part.a b.point z d.points.0 b.is_point hz r.0 b.is) in
      elim (cases_order j k) [
        | inl same ↦ absurd (omega (arith, linear, lt, subst (λ i. right_of ls z i ≡ pos 0) (sym same) e))
        | inr t ↦ elim t [
          | inl less ↦ omega arith
          | inr more ↦ absurd (omega (arith, linear, e, lines_fall ls z are.points are.rising hz k j more below (omega (arith, linear))))
        ]
      ]

  pub not_last : IsClearOf sums room z → (k : ℕ) → k < length ls → right_of ls z k ≡ pos 0 → suc k < length ls
  not_last clear k within e =
      let b = rightward h z hz clear in
      let d = (piece_of h b.has).part in
      let r = in_range b.piece.part b.point d.points b.is_point d.onward b.on in
      let (j, below, f) = at_number (SameX b.piece.part.b) ls nowhere (ends b.has).1 in
      let l = get_or ls j nowhere in
      let bl : LeX b.piece.part.b l = omega (arith, linear) in
      let lt = ltX_leX z b.piece.part.b l hz d.points.1 (are.points j nowhere below) (ltX_leX z b.point b.piece.part.b hz b.is_point d.points.1 b.is r.1) bl in
      let less = positive_first (length ls) (right_of ls z) (lines_fall ls z are.points are.rising hz) k j within (omega (arith, linear)) (omega (arith, linear)) in
      omega arith

  -- ---- a piece that has a point of the slab
  pub reaches : {p : Piece} {k : ℕ} → DropsAt (length ls) (right_of ls z) k → Contains pieces p → On p.part z → Reaches (get_or ls k nowhere) (get_or ls (suc k) nowhere) p
  reaches {p} {k} drop has on = (left, right)
    where
      d : IsPartOf (edge_of sums room p) p.part
      d = (piece_of h has).part

      left : LeX p.part.a (get_or ls k nowhere)
      left =
          let (j, below, (e, le)) = line_before p.part.a d.points.0 (ends has).0 (in_range p.part z d.points hz d.onward on).0 in
          let within = drop.within in
          let le = rising_le ls are.rising j k (not_beyond (lines_fall ls z are.points are.rising hz) drop j below le) (omega arith) in
          let al : LeX p.part.a (get_or ls j nowhere) = omega (arith, linear) in
          leX_trans p.part.a (get_or ls j nowhere) (get_or ls k nowhere) d.points.0 (are.points j nowhere below) (are.points k nowhere (omega arith)) al le

      right : LeX (get_or ls (suc k) nowhere) p.part.b
      right =
          let (j, below, (e, ge)) = line_after p.part.b d.points.1 (ends has).1 (in_range p.part z d.points hz d.onward on).1 in
          let le = rising_le ls are.rising (suc k) j (not_before (lines_fall ls z are.points are.rising hz) drop j ge) below in
          let lb : LeX (get_or ls j nowhere) p.part.b = omega (arith, linear) in
          leX_trans (get_or ls (suc k) nowhere) (get_or ls j nowhere) p.part.b (are.points (suc k) nowhere drop.within) (are.points j nowhere below) d.points.1 le lb
