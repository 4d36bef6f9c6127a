-- A part of an upright side of a free cell that is no free wall is tight: both its marks are in one sum, or both on or beyond one side of the room.
use Rattle.std.proofs.Common.{◌≡◌, ◌⊎◌, inl, inr, ℤ, ◌-ℤ◌, ◌*ℤ◌, pos, List, [], ◌∷◌, Any, Contains, refl, sym, ◌∙◌, subst, arith}
use Rattle.std.proofs.lemmas.List.Elements.{All-contains}
use Rattle.std.specs.List.{flat_map}
use Rattle.plan_exact.specs.Expr.{con, ◌⊖◌, ◌⊗◌}
use Rattle.plan_exact.specs.Vectors.{env}
use Rattle.plan_exact.specs.Formal as F
use Rattle.plan_exact.specs.Formal.{A, J, K, L}
use Rattle.plan_exact.proofs.Laws.{linear}
use Rattle.plan_exact.proofs.Ring.{ring}
use Rattle.plan_exact.proofs.Signs.{mul_of_zero, le_of_lt, le_or_lt}
use Rattle.plan_spec.specs.Vector.{Vector, IsPoint, Same, SameX, SameY, LeX, LeY, LtY, spot, turn}
use Rattle.plan_spec.specs.Segment.{segment, On}
use Rattle.plan_spec.specs.Polygon.{Inside, edges}
use Rattle.plan_spec.specs.Frame.{Frame, OnOrBeyond}
use Rattle.plan_spec.specs.Boundary.{InRoom, IsUncovered, bottom, top, sides, boundary}
use Rattle.plan_spec.specs.Reply.{IsTight}
use Rattle.plan_plane.proofs.Boundary.Between.{as_rectangle}
use Rattle.plan_plane.proofs.Boundary.Blocks.{HasSpots, rectangle}
use Rattle.plan_plane.proofs.Boundary.Floor.{IsFloor}
use Rattle.plan_plane.proofs.Boundary.Sum.{IsSum}
use Rattle.plan_plane.proofs.Lists.{any_left, any_right, any_flat}
use Rattle.plan_plane.proofs.Rising.ByCoordinate.{order_x}
use Rattle.plan_plane.proofs.Segment.Between.{Between, flip, LeX_before, LeX_after, flipped}
use Rattle.plan_plane.proofs.Segment.ByX.{leX_trans}
use Rattle.plan_slab.specs.Decomposition.{Touched}
use Rattle.plan_slab.specs.Meets.{IsSloped}
use Rattle.plan_ring.proofs.Entering.{held_along}
use Rattle.plan_map.proofs.Path.Places.{leY_ltY, ltY_leY}

-- on an edge of the boundary that is not upright
abbrev pub OnSloped : List (List Vector) → Frame → Vector → Type 0
OnSloped sums room z = Any (λ e. IsSloped e × On e z) (boundary sums room)

-- ---- the bottom and the top of a room are not upright
level_line : (lx hx y : ℤ) (z : Vector) → z.y *ℤ pos 1 ≡ y *ℤ z.w → turn (spot lx y) (spot hx y) z ≡ pos 0
level_line lx hx y z e =
    let f : y *ℤ z.w -ℤ z.y *ℤ pos 1 ≡ pos 0 = omega (arith, linear) in
    ring (env (lx ∷ hx ∷ y ∷ []) (z ∷ [])) (F.det (record { x = J; y = L; w = con (pos 1) }) (record { x = K; y = L; w = con (pos 1) }) A) ((J ⊖ K) ⊗ (L ⊗ A.w ⊖ A.y ⊗ con (pos 1))) tt ∙ mul_of_zero (lx -ℤ hx) (y *ℤ z.w -ℤ z.y *ℤ pos 1) f

on_flat : (lx ly hx hy : ℤ) (z : Vector) → InRoom (rectangle lx ly hx hy) z → SameY z (rectangle lx ly hx hy).low ⊎ SameY z (rectangle lx ly hx hy).high → Any (λ e. IsSloped e × On e z) (sides (rectangle lx ly hx hy))
on_flat lx ly hx hy z h (inl e) = (0, bottom (rectangle lx ly hx hy), omega arith, refl, ((λ u. let w = h.wide in omega (arith, linear)), record { in_line = level_line lx hx ly z e; within_x = inl (h.left, h.right); within_y = inl (h.below, omega (arith, linear)) }))
on_flat lx ly hx hy z h (inr e) = (2, top (rectangle lx ly hx hy), omega arith, refl, ((λ u. let w = h.wide in omega (arith, linear)), record { in_line = level_line lx hx hy z e; within_x = inl (h.left, h.right); within_y = inl (omega (arith, linear), h.above) }))

flat_sloped : (sums : List (List Vector)) (room : Frame) (z : Vector) → HasSpots room → InRoom room z → SameY z room.low ⊎ SameY z room.high → OnSloped sums room z
flat_sloped sums room z spots h e = any_right (λ e. IsSloped e × On e z) (flat_map edges sums) (sides room) (subst (λ room. InRoom room z → SameY z room.low ⊎ SameY z room.high → Any (λ e. IsSloped e × On e z) (sides room)) (as_rectangle room spots) (on_flat room.low.x room.low.y room.high.x room.high.y z) h e)

sum_sloped : (sums : List (List Vector)) (room : Frame) (vs : List Vector) (z : Vector) → Contains sums vs → Any (λ e. IsSloped e × On e z) (edges vs) → OnSloped sums room z
sum_sloped sums room vs z (k, within, is) some = any_left (λ e. IsSloped e × On e z) (flat_map edges sums) (sides room) (any_flat (λ e. IsSloped e × On e z) edges sums (k, vs, within, is, some))

-- ---- between two points of an upright line
-- b is straight above a; between them all points are uncovered, and on no edge that is not upright
pub record IsBarePart (sums : List (List Vector)) (room : Frame) (a b : Vector) : Type 0 where
  pub first : IsPoint a
  pub last : IsPoint b
  pub upright : SameX a b
  pub uncovered : (z : Vector) → IsPoint z → SameX a z → LtY a z → LtY z b → IsUncovered sums room z
  pub bare : (z : Vector) → IsPoint z → SameX a z → LtY a z → LtY z b → ¬ (OnSloped sums room z)

module _ {sums : List (List Vector)} {room : Frame} {a b : Vector} (floor : IsFloor sums room) (part : IsBarePart sums room a b) (m : Vector) (hm : IsPoint m) (level : SameX a m) (up : LtY a m) (down : LtY m b) where
  ha : IsPoint a
  ha = part.first

  hb : IsPoint b
  hb = part.last

  at_b : SameX b m
  at_b = order_x.trans b a m hb ha hm (sym part.upright) level

  strictly : (p z : Vector) → SameX p z → ¬ (Same p z) → LeY p z → LtY p z
  strictly p z e apart le = elim (le_or_lt (z.y *ℤ p.w) (p.y *ℤ z.w)) [
    | inl h ↦ absurd (apart (e, omega (arith, linear)))
    | inr h ↦ h
  ]

  strictly_below : (p z : Vector) → SameX p z → ¬ (Same p z) → LeY z p → LtY z p
  strictly_below p z e apart le = elim (le_or_lt (p.y *ℤ z.w) (z.y *ℤ p.w)) [
    | inl h ↦ absurd (apart (e, omega (arith, linear)))
    | inr h ↦ h
  ]

  -- a sum that holds m holds both ends
  holds_first : (vs : List Vector) → Contains sums vs → Inside vs m → Inside vs a
  holds_first vs has inside = held_along vs a m (All-contains IsSum sums vs floor.are_sums has) ha hm level inside entered
    where
      entered : (z : Vector) → IsPoint z → SameX a z → Between a m z → ¬ (Same a z) → ¬ (Any (λ e. IsSloped e × On e z) (edges vs))
      entered z hz e between other some =
          let az : LeY a z = LeX_after (flipped between) (flip a) (omega (arith, linear)) (le_of_lt up) in
          let zm : LeY z m = LeX_before (flipped between) (flip m) (le_of_lt up) (omega (arith, linear)) in
          part.bare z hz e (strictly a z e other az) (leY_ltY z m b hz hm hb zm down) (sum_sloped sums room vs z has some)

  holds_last : (vs : List Vector) → Contains sums vs → Inside vs m → Inside vs b
  holds_last vs has inside = held_along vs b m (All-contains IsSum sums vs floor.are_sums has) hb hm at_b inside entered
    where
      entered : (z : Vector) → IsPoint z → SameX b z → Between b m z → ¬ (Same b z) → ¬ (Any (λ e. IsSloped e × On e z) (edges vs))
      entered z hz e between other some =
          let zb : LeY z b = LeX_before (flipped between) (flip b) (omega (arith, linear)) (le_of_lt down) in
          let mz : LeY m z = LeX_after (flipped between) (flip m) (le_of_lt down) (omega (arith, linear)) in
          part.bare z hz (order_x.trans a b z ha hb hz part.upright e) (ltY_leY a m z ha hm hz up mz) (strictly_below b z e other zb) (sum_sloped sums room vs z has some)

  by_room : OnOrBeyond room m → IsTight sums room (segment a b)
  by_room (inl h) =
      let am : LeX a m = omega (arith, linear) in
      let bm : LeX b m = omega (arith, linear, at_b) in
      let low : IsPoint room.low = omega (arith, linear, floor.spots.low) in
      inr (inl (leX_trans a m room.low ha hm low am h, leX_trans b m room.low hb hm low bm h))
  by_room (inr (inl h)) =
      let ma : LeX m a = omega (arith, linear) in
      let mb : LeX m b = omega (arith, linear, at_b) in
      let high : IsPoint room.high = omega (arith, linear, floor.spots.high) in
      inr (inr (inl (leX_trans room.high m a high hm ha h ma, leX_trans room.high m b high hm hb h mb)))
  by_room (inr (inr h)) =
      let inside = (part.uncovered m hm level up down).in_room in
      absurd (part.bare m hm level up down (flat_sloped sums room m floor.spots inside (by h inside)))
    where
      by : LeY m room.low ⊎ LeY room.high m → InRoom room m → SameY m room.low ⊎ SameY m room.high
      by (inl k) inside = inl (let f = inside.below in omega (arith, linear))
      by (inr k) inside = inr (let f = inside.above in omega (arith, linear))

  pub part_tight : Touched sums room m → IsTight sums room (segment a b)
  part_tight (inl h) = by_room h
  part_tight (inr (k, vs, within, is, inside)) = inl (k, vs, within, is, (holds_first vs (k, within, is) inside, holds_last vs (k, within, is) inside))
