-- Straight down, straight up, to the left and to the right of a clear point there is a piece, since the room's sides touch.
use Rattle.std.proofs.Common.{◌≡◌, inl, inr, ℤ, pos, ◌*ℤ◌, List, refl, sym, ap, ◌∙◌, arith}
use Rattle.plan_exact.proofs.Laws.{linear}
use Rattle.plan_exact.proofs.Signs.{mul_one, mul_le_mul, le_of_lt, le_or_lt, lt_of_not_le}
use Rattle.plan_spec.specs.Vector.{Vector, IsPoint, LeX, LtX, LeY, LtY, SameX, Same}
use Rattle.plan_spec.specs.Frame.{Frame, OnOrBeyond}
use Rattle.plan_spec.specs.Boundary.{IsClearOf}
use Rattle.plan_spec.specs.Pieces.{Piece}
use Rattle.plan_plane.proofs.Segment.Between.{Between, flip, flipped, LeX_before, LeX_after}
use Rattle.plan_slab.proofs.Pieces.{HasPieces}
use Rattle.plan_slab.proofs.Regions.OnPieces.{Hit, hit}

strictly : (v z : Vector) → ¬ (Same v z) → SameX z v → LeY v z → LtY v z
strictly v z apart e le = elim (le_or_lt (z.y *ℤ v.w) (v.y *ℤ z.w)) [
  | inl h ↦ absurd (apart (sym e, omega (arith, linear)))
  | inr h ↦ h
]

strictly_above : (v z : Vector) → ¬ (Same v z) → SameX z v → LeY z v → LtY z v
strictly_above v z apart e le = strictly z v (λ s. apart (sym s.0, sym s.1)) (sym e) le

level : {z d v : Vector} → SameX z d → Between z d v → SameX z v
level {z} {d} {v} e b =
    let zz : LeX z z = omega (arith, linear) in
    let zd : LeX z d = omega (arith, linear) in
    let dz : LeX d z = omega (arith, linear) in
    omega (arith, linear, LeX_after b z zz zd, LeX_before b z zz dz)

times_one : (a w : ℤ) → w ≡ pos 1 → a *ℤ w ≡ a
times_one a w e = ap (λ w. a *ℤ w) e ∙ mul_one a

module _ {sums : List (List Vector)} {room : Frame} {pieces : List Piece} (h : HasPieces sums room pieces) (z : Vector) (hz : IsPoint z) (clear : IsClearOf sums room z) where
  way : (d : Vector) → IsPoint d → OnOrBeyond room d → Hit pieces (λ v. Between z d v × (¬ (Same v z)))
  way d hd touches = hit h z d hz hd clear (λ c. c.in_room touches)

  pub beneath : Hit pieces (λ v. SameX z v × LtY v z)
  beneath = record { piece = b.piece; has = b.has; point = b.point; is_point = b.is_point; on = b.on; is = (e, strictly b.point z b.is.1 e under) }
    where
      d : Vector
      d = record { x = z.x; y = room.low.y *ℤ z.w; w = z.w }

      b : Hit pieces (λ v. Between z d v × (¬ (Same v z)))
      b = way d hz (inr (inr (inl (omega (arith, linear, times_one (room.low.y *ℤ z.w) room.low.w h.floor.spots.low)))))

      e : SameX z b.point
      e = level refl b.is.0

      low : LeY d z
      low = mul_le_mul z.w (le_of_lt hz) (omega (arith, linear, times_one z.y room.low.w h.floor.spots.low, lt_of_not_le (z.y *ℤ room.low.w) (room.low.y *ℤ z.w) (λ k. clear.in_room (inr (inr (inl k))))))

      under : LeY b.point z
      under = LeX_before (flipped b.is.0) (flip z) (omega (arith, linear)) low

  pub overhead : Hit pieces (λ v. SameX z v × LtY z v)
  overhead = record { piece = b.piece; has = b.has; point = b.point; is_point = b.is_point; on = b.on; is = (e, strictly_above b.point z b.is.1 e over) }
    where
      d : Vector
      d = record { x = z.x; y = room.high.y *ℤ z.w; w = z.w }

      b : Hit pieces (λ v. Between z d v × (¬ (Same v z)))
      b = way d hz (inr (inr (inr (omega (arith, linear, times_one (room.high.y *ℤ z.w) room.high.w h.floor.spots.high)))))

      e : SameX z b.point
      e = level refl b.is.0

      high : LeY z d
      high = mul_le_mul z.w (le_of_lt hz) (omega (arith, linear, times_one z.y room.high.w h.floor.spots.high, lt_of_not_le (room.high.y *ℤ z.w) (z.y *ℤ room.high.w) (λ k. clear.in_room (inr (inr (inr k))))))

      over : LeY z b.point
      over = LeX_after (flipped b.is.0) (flip z) (omega (arith, linear)) high

  pub leftward : Hit pieces (λ v. LtX v z)
  leftward = record { piece = b.piece; has = b.has; point = b.point; is_point = b.is_point; on = b.on; is = strictly (flip b.point) (flip z) (λ s. b.is.1 (s.1, s.0)) (level refl (flipped b.is.0)) left }
    where
      d : Vector
      d = record { x = room.low.x *ℤ z.w; y = z.y; w = z.w }

      b : Hit pieces (λ v. Between z d v × (¬ (Same v z)))
      b = way d hz (inl (omega (arith, linear, times_one (room.low.x *ℤ z.w) room.low.w h.floor.spots.low)))

      low : LeX d z
      low = mul_le_mul z.w (le_of_lt hz) (omega (arith, linear, times_one z.x room.low.w h.floor.spots.low, lt_of_not_le (z.x *ℤ room.low.w) (room.low.x *ℤ z.w) (λ k. clear.in_room (inl k))))

      left : LeX b.point z
      left = LeX_before b.is.0 z (omega (arith, linear)) low

  pub rightward : Hit pieces (λ v. LtX z v)
  rightward = record { piece = b.piece; has = b.has; point = b.point; is_point = b.is_point; on = b.on; is = strictly_above (flip b.point) (flip z) (λ s. b.is.1 (s.1, s.0)) (level refl (flipped b.is.0)) right }
    where
      d : Vector
      d = record { x = room.high.x *ℤ z.w; y = z.y; w = z.w }

      b : Hit pieces (λ v. Between z d v × (¬ (Same v z)))
      b = way d hz (inr (inl (omega (arith, linear, times_one (room.high.x *ℤ z.w) room.high.w h.floor.spots.high))))

      high : LeX z d
      high = mul_le_mul z.w (le_of_lt hz) (omega (arith, linear, times_one z.x room.high.w h.floor.spots.high, lt_of_not_le (room.high.x *ℤ z.w) (z.x *ℤ room.high.w) (λ k. clear.in_room (inr (inl k)))))

      right : LeX z b.point
      right = LeX_after b.is.0 z (omega (arith, linear)) high
