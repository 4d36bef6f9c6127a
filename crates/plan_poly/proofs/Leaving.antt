-- A robot leaves the frame at the placements that are not strictly inside the room, which is the frame moved by the robot's box: no point of the robot is beyond its box, and each vertex is a point of it.
use Rattle.std.proofs.Common.{◌≡◌, ◌↔◌, ◌⊎◌, inl, inr, ℤ, pos, negsuc, neg_ℤ, ◌+ℤ◌, ◌-ℤ◌, ◌*ℤ◌, ◌≤ℤ◌, ◌<ℤ◌, List, [], ◌∷◌, get_or, All, Any, Contains, ap, ◌∙◌, arith}
use Rattle.std.proofs.lemmas.List.Elements.{All-contains}
use Rattle.plan_exact.specs.Expr.{con, ◌⊕◌, ◌⊖◌, ◌⊗◌, neg}
use Rattle.plan_exact.specs.Vectors.{dot, env}
use Rattle.plan_exact.specs.Formal as F
use Rattle.plan_exact.specs.Formal.{A, B, C, J, K}
use Rattle.plan_exact.proofs.Laws.{linear}
use Rattle.plan_exact.proofs.Ring.{ring}
use Rattle.plan_exact.proofs.Signs.{le_or_lt, le_of_lt, mul_pos, mul_one, mul_of_zero, mul_le_mul, mul_nonneg_nonpos, nonpos_of_mul}
use Rattle.plan_spec.specs.Vector.{Vector, IsPoint, LeX, Same, spot, minus}
use Rattle.plan_spec.specs.Segment.{On}
use Rattle.plan_spec.specs.Polygon.{edges}
use Rattle.plan_spec.specs.SimplePolygon.{InPolygon}
use Rattle.plan_spec.specs.Frame.{Frame, OnOrBeyond}
use Rattle.plan_spec.specs.Placement.{Leaves}
use Rattle.plan_spec.specs.Room.{IsSpot, IsBox, room}
use Rattle.plan_plane.proofs.Lists.{any_with}
use Rattle.plan_plane.proofs.Polygon.Edges.{Ends, ends_of_edges, vertices_on}
use Rattle.plan_plane.proofs.Segment.Between.{flip, right_of as right_of_point, right_of_is as right_of_point_is}
use Rattle.plan_plane.proofs.Segment.Same.{on_same}
use Rattle.plan_poly.proofs.EvenOdd.Box.{left_of_all, right_of_all, below_all, above_all}

spot_weight : (n : ℤ) (v : Vector) → IsSpot v → n *ℤ v.w ≡ n
spot_weight n v spot = ap (λ y. n *ℤ y) spot ∙ mul_one n

spot_point : (v : Vector) → IsSpot v → IsPoint v
spot_point v e = omega (arith, linear)

-- ---- no point of the robot is beyond its box
module _ (vs : List Vector) (box : Frame) (z : Vector) (b : IsBox vs box) (hz : IsPoint z) (held : InPolygon vs z) where
  -- where a point is short of n, it is short of all that reach n
  short : (m n i w : ℤ) → w ≡ pos 1 → m <ℤ (n *ℤ z.w) → n ≤ℤ i → (m *ℤ w) <ℤ (i *ℤ z.w)
  short m n i w e h k = omega (arith, linear, ap (λ y. m *ℤ y) e, mul_one m, mul_le_mul z.w (le_of_lt hz) k)

  past : (m n i w : ℤ) → w ≡ pos 1 → (n *ℤ z.w) <ℤ m → i ≤ℤ n → (i *ℤ z.w) <ℤ (m *ℤ w)
  past m n i w e h k = omega (arith, linear, ap (λ y. m *ℤ y) e, mul_one m, mul_le_mul z.w (le_of_lt hz) k)

  not_left : (box.low.x *ℤ z.w) ≤ℤ z.x
  not_left = by (le_or_lt (box.low.x *ℤ z.w) z.x)
    where
      by : ((box.low.x *ℤ z.w) ≤ℤ z.x) ⊎ (z.x <ℤ (box.low.x *ℤ z.w)) → (box.low.x *ℤ z.w) ≤ℤ z.x
      by (inl h) = h
      by (inr h) = absurd (left_of_all vs z (λ k d within. let v = get_or vs k d in short z.x box.low.x v.x v.w (b.spots k d within) h (b.left k d within)) held)

  not_right : z.x ≤ℤ (box.high.x *ℤ z.w)
  not_right = by (le_or_lt z.x (box.high.x *ℤ z.w))
    where
      by : (z.x ≤ℤ (box.high.x *ℤ z.w)) ⊎ ((box.high.x *ℤ z.w) <ℤ z.x) → z.x ≤ℤ (box.high.x *ℤ z.w)
      by (inl h) = h
      by (inr h) = absurd (right_of_all vs z (λ k d within. let v = get_or vs k d in past z.x box.high.x v.x v.w (b.spots k d within) h (b.right k d within)) held)

  not_below : (box.low.y *ℤ z.w) ≤ℤ z.y
  not_below = by (le_or_lt (box.low.y *ℤ z.w) z.y)
    where
      by : ((box.low.y *ℤ z.w) ≤ℤ z.y) ⊎ (z.y <ℤ (box.low.y *ℤ z.w)) → (box.low.y *ℤ z.w) ≤ℤ z.y
      by (inl h) = h
      by (inr h) = absurd (below_all vs z hz (λ k d within. let v = get_or vs k d in short z.y box.low.y v.y v.w (b.spots k d within) h (b.below k d within)) held)

  not_above : z.y ≤ℤ (box.high.y *ℤ z.w)
  not_above = by (le_or_lt z.y (box.high.y *ℤ z.w))
    where
      by : (z.y ≤ℤ (box.high.y *ℤ z.w)) ⊎ ((box.high.y *ℤ z.w) <ℤ z.y) → z.y ≤ℤ (box.high.y *ℤ z.w)
      by (inl h) = h
      by (inr h) = absurd (above_all vs z hz (λ k d within. let v = get_or vs k d in past z.y box.high.y v.y v.w (b.spots k d within) h (b.above k d within)) held)

-- ---- one side, by a covector l that is positive within: the robot has n at least, and n at some vertex
abbrev facing : Vector → ℤ → Vector
facing l n = record { x = l.x; y = l.y; w = neg_ℤ n }

abbrev shifted : Vector → ℤ → Vector
shifted l n = record { x = l.x; y = l.y; w = l.w +ℤ n }

-- the vertex r of the robot that is placed at p
abbrev placed : Vector → Vector → Vector
placed p r = record { x = p.x *ℤ r.w +ℤ r.x *ℤ p.w; y = p.y *ℤ r.w +ℤ r.y *ℤ p.w; w = p.w *ℤ r.w }

abbrev formal_placed : F.Vec → F.Vec → F.Vec
formal_placed p r = record { x = p.x ⊗ r.w ⊕ r.x ⊗ p.w; y = p.y ⊗ r.w ⊕ r.y ⊗ p.w; w = p.w ⊗ r.w }

beyond_room : (l : Vector) (n : ℤ) (p z : Vector) → IsPoint p → IsPoint z → pos 0 ≤ℤ dot (facing l n) (minus z p) → dot l z ≤ℤ pos 0 → dot (shifted l n) p ≤ℤ pos 0
beyond_room l n p z hp hz within beyond =
    let e : z.w *ℤ dot (shifted l n) p ≡ p.w *ℤ dot l z -ℤ dot (facing l n) (minus z p) =
    ring (env (n ∷ []) (l ∷ z ∷ p ∷ [])) (B.w ⊗ F.dot (record { x = A.x; y = A.y; w = A.w ⊕ J }) C) (C.w ⊗ F.dot A B ⊖ F.dot (record { x = A.x; y = A.y; w = neg J }) (F.minus B C)) tt in
    let h : (z.w *ℤ dot (shifted l n) p) ≤ℤ pos 0 = omega (arith, linear, e, mul_nonneg_nonpos (le_of_lt hp) beyond) in
    nonpos_of_mul hz h

beyond_frame : (l : Vector) (n : ℤ) (p r : Vector) → IsPoint r → dot (facing l n) r ≡ pos 0 → dot (shifted l n) p ≤ℤ pos 0 → dot l (placed p r) ≤ℤ pos 0
beyond_frame l n p r hr e beyond =
    let f : dot l (placed p r) ≡ r.w *ℤ dot (shifted l n) p +ℤ p.w *ℤ dot (facing l n) r =
    ring (env (n ∷ []) (l ∷ p ∷ r ∷ [])) (F.dot A (formal_placed B C)) (C.w ⊗ F.dot (record { x = A.x; y = A.y; w = A.w ⊕ J }) B ⊕ B.w ⊗ F.dot (record { x = A.x; y = A.y; w = neg J }) C) tt in
    omega (arith, linear, f, mul_nonneg_nonpos (le_of_lt hr) beyond, mul_of_zero p.w (dot (facing l n) r) e)

-- ---- the sides: left of a low corner, and right of a high one
-- positive right of x = m, and left of it
abbrev right_of : ℤ → Vector
right_of m = right_of_point (spot m (pos 0))

abbrev left_of : ℤ → Vector
left_of m = record { x = negsuc 0; y = pos 0; w = m }

right_of_is : (m : ℤ) (z : Vector) → dot (right_of m) z ≡ z.x -ℤ m *ℤ z.w
right_of_is m z = right_of_point_is (spot m (pos 0)) z ∙ ap (λ x. x -ℤ m *ℤ z.w) (mul_one z.x)

left_of_is : (m : ℤ) (z : Vector) → dot (left_of m) z ≡ m *ℤ z.w -ℤ z.x
left_of_is m z = ring (env (m ∷ []) (z ∷ [])) (F.dot (record { x = con (negsuc 0); y = F.zero; w = J }) A) (J ⊗ A.w ⊖ A.x) tt

facing_left_of_is : (m g : ℤ) (r : Vector) → dot (facing (left_of m) (neg_ℤ g)) r ≡ g *ℤ r.w -ℤ r.x
facing_left_of_is m g r = ring (env (g ∷ []) (r ∷ [])) (F.dot (record { x = con (negsuc 0); y = F.zero; w = neg (neg J) }) A) (J ⊗ A.w ⊖ A.x) tt

shifted_right_of_is : (m n : ℤ) (p : Vector) → dot (shifted (right_of m) n) p ≡ p.x -ℤ (m -ℤ n) *ℤ p.w
shifted_right_of_is m n p = ring (env (m ∷ n ∷ []) (p ∷ [])) (F.dot (record { x = con (pos 1); y = F.zero; w = neg J ⊕ K }) A) (A.x ⊖ (J ⊖ K) ⊗ A.w) tt

shifted_left_of_is : (m g : ℤ) (p : Vector) → dot (shifted (left_of m) (neg_ℤ g)) p ≡ (m -ℤ g) *ℤ p.w -ℤ p.x
shifted_left_of_is m g p = ring (env (m ∷ g ∷ []) (p ∷ [])) (F.dot (record { x = con (negsuc 0); y = F.zero; w = J ⊕ neg K }) A) ((J ⊖ K) ⊗ A.w ⊖ A.x) tt

low_x : (p z low : Vector) (n y : ℤ) → IsSpot low → IsPoint p → IsPoint z → (n *ℤ (minus z p).w) ≤ℤ (minus z p).x → LeX z low → LeX p (spot (low.x -ℤ n) y)
low_x p z low n y hl hp hz within beyond =
    let h = beyond_room (right_of low.x) n p z hp hz (omega (arith, linear, right_of_is n (minus z p))) (omega (arith, linear, right_of_is low.x z, spot_weight z.x low hl)) in
    omega (arith, linear, shifted_right_of_is low.x n p, mul_one p.x)

high_x : (p z high : Vector) (g y : ℤ) → IsSpot high → IsPoint p → IsPoint z → (minus z p).x ≤ℤ (g *ℤ (minus z p).w) → LeX high z → LeX (spot (high.x -ℤ g) y) p
high_x p z high g y hh hp hz within beyond =
    let h = beyond_room (left_of high.x) (neg_ℤ g) p z hp hz (omega (arith, linear, facing_left_of_is high.x g (minus z p))) (omega (arith, linear, left_of_is high.x z, spot_weight z.x high hh)) in
    omega (arith, linear, shifted_left_of_is high.x g p, mul_one p.x)

placed_low_x : (p r low : Vector) (n y : ℤ) → IsSpot low → IsSpot r → r.x ≡ n → LeX p (spot (low.x -ℤ n) y) → LeX (placed p r) low
placed_low_x p r low n y hl hr e beyond =
    let h = beyond_frame (right_of low.x) n p r (spot_point r hr) (omega (arith, linear, right_of_is n r, spot_weight n r hr)) (omega (arith, linear, shifted_right_of_is low.x n p, mul_one p.x)) in
    omega (arith, linear, right_of_is low.x (placed p r), spot_weight (placed p r).x low hl)

placed_high_x : (p r high : Vector) (g y : ℤ) → IsSpot high → IsSpot r → r.x ≡ g → LeX (spot (high.x -ℤ g) y) p → LeX high (placed p r)
placed_high_x p r high g y hh hr e beyond =
    let h = beyond_frame (left_of high.x) (neg_ℤ g) p r (spot_point r hr) (omega (arith, linear, facing_left_of_is high.x g r, spot_weight g r hr)) (omega (arith, linear, shifted_left_of_is high.x g p, mul_one p.x)) in
    omega (arith, linear, left_of_is high.x (placed p r), spot_weight (placed p r).x high hh)

-- ---- a vertex is a point of the robot
placed_same : (p r : Vector) → Same r (minus (placed p r) p)
placed_same p r =
    let xs = env [] (p ∷ r ∷ []) in
    let m = F.minus (formal_placed A B) A in
    (ring xs (B.x ⊗ m.w) (m.x ⊗ B.w) tt, ring xs (B.y ⊗ m.w) (m.y ⊗ B.w) tt)

vertex_in : (vs : List Vector) (r z : Vector) → All IsPoint vs → IsPoint r → IsPoint z → Same r z → Contains vs r → InPolygon vs z
vertex_in vs r z points hr hz same has =
    inl (any_with (Ends IsPoint) (λ s. On s r) (λ s. On s z) (λ s ends on. on_same s.a s.b r z ends.0 ends.1 hr hz same on) (edges vs) (ends_of_edges IsPoint vs points)
    (All-contains (λ y. Any (λ s. On s y) (edges vs)) vs r (vertices_on vs points) has))

-- ---- the room
pub leaves : (robot : List Vector) (box frame : Frame) (p : Vector) → IsBox robot box → IsSpot frame.low → IsSpot frame.high → IsPoint p → Leaves robot frame p ↔ OnOrBeyond (room box frame) p
leaves robot box frame p b hl hh hp = (into, out)
  where
    into : Leaves robot frame p → OnOrBeyond (room box frame) p
    into (z, hz, held, beyond) = by beyond
      where
        hm : IsPoint (minus z p)
        hm = mul_pos hz hp

        by : OnOrBeyond frame z → OnOrBeyond (room box frame) p
        by (inl h) = inl (low_x p z frame.low box.low.x (frame.low.y -ℤ box.low.y) hl hp hz (not_left robot box (minus z p) b hm held) h)
        by (inr (inl h)) = inr (inl (high_x p z frame.high box.high.x (frame.high.y -ℤ box.high.y) hh hp hz (not_right robot box (minus z p) b hm held) h))
        by (inr (inr (inl h))) = inr (inr (inl (low_x (flip p) (flip z) (flip frame.low) box.low.y (frame.low.x -ℤ box.low.x) hl hp hz (not_below robot box (minus z p) b hm held) h)))
        by (inr (inr (inr h))) = inr (inr (inr (high_x (flip p) (flip z) (flip frame.high) box.high.y (frame.high.x -ℤ box.high.x) hh hp hz (not_above robot box (minus z p) b hm held) h)))

    by_vertex : (r : Vector) → Contains robot r → (IsSpot r → OnOrBeyond frame (placed p r)) → Leaves robot frame p
    by_vertex r has beyond =
        let spot = All-contains IsSpot robot r b.spots has in
        let hr = spot_point r spot in
        let hz = mul_pos hp hr in
        (placed p r, hz, vertex_in robot r (minus (placed p r) p) (λ k d within. spot_point (get_or robot k d) (b.spots k d within)) hr (mul_pos hz hp) (placed_same p r) has, beyond spot)

    out : OnOrBeyond (room box frame) p → Leaves robot frame p
    out (inl h) = at b.leftmost
      where
        at : Any (λ r. r.x ≡ box.low.x) robot → Leaves robot frame p
        at (i, r, within, e, x) = by_vertex r (i, within, e) (λ s. inl (placed_low_x p r frame.low box.low.x (frame.low.y -ℤ box.low.y) hl s x h))
    out (inr (inl h)) = at b.rightmost
      where
        at : Any (λ r. r.x ≡ box.high.x) robot → Leaves robot frame p
        at (i, r, within, e, x) = by_vertex r (i, within, e) (λ s. inr (inl (placed_high_x p r frame.high box.high.x (frame.high.y -ℤ box.high.y) hh s x h)))
    out (inr (inr (inl h))) = at b.lowest
      where
        at : Any (λ r. r.y ≡ box.low.y) robot → Leaves robot frame p
        at (i, r, within, e, y) = by_vertex r (i, within, e) (λ s. inr (inr (inl (placed_low_x (flip p) (flip r) (flip frame.low) box.low.y (frame.low.x -ℤ box.low.x) hl s y h))))
    out (inr (inr (inr h))) = at b.highest
      where
        at : Any (λ r. r.y ≡ box.high.y) robot → Leaves robot frame p
        at (i, r, within, e, y) = by_vertex r (i, within, e) (λ s. inr (inr (inr (placed_high_x (flip p) (flip r) (flip frame.high) box.high.y (frame.high.x -ℤ box.high.x) hh s y h))))
