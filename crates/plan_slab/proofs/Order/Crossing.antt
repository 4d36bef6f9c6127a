-- A piece that has a point of another edge within it lies along that edge: else one of its ends, and with it points of it just beside, would be covered, or beyond the room's side.
use Rattle.std.proofs.Common.{◌≡◌, inl, inr, ⊎_elim, zero, suc, ℤ, pos, ◌-ℤ◌, ◌*ℤ◌, ◌+ℤ◌, ◌<ℤ◌, ◌≤ℤ◌, List, [], ◌∷◌, get_or, Contains, sym, subst, arith}
use Rattle.std.proofs.lemmas.List.Elements.{All-contains, All-contains_itself}
use Rattle.plan_exact.specs.Expr.{con, ◌⊖◌, ◌⊗◌}
use Rattle.plan_exact.specs.Formal as F
use Rattle.plan_exact.specs.Formal.{A, J, K, L}
use Rattle.plan_exact.specs.Sign.{Sign, is_negative, is_zero, is_positive}
use Rattle.plan_exact.specs.Vectors.{cross, dot, opposite, env}
use Rattle.plan_exact.proofs.Laws.{linear}
use Rattle.plan_exact.proofs.Ring.{ring}
use Rattle.plan_exact.proofs.Signs.{sign_of, mul_nonneg, mul_of_zero, mul_pos_neg, le_of_lt}
use Rattle.plan_exact.proofs.Vectors.{dot_opposite}
use Rattle.plan_spec.specs.Vector.{Vector, IsPoint, spot, turn}
use Rattle.plan_spec.specs.Segment.{Segment, segment, HasPoints, On}
use Rattle.plan_spec.specs.Polygon.{edges}
use Rattle.plan_spec.specs.Frame.{Frame}
use Rattle.plan_spec.specs.Boundary.{IsLeft, StrictlyInside, InRoom, IsUncovered, sides, boundary}
use Rattle.plan_plane.proofs.Boundary.Between.{as_rectangle}
use Rattle.plan_plane.proofs.Boundary.Blocks.{HasSpots, rectangle}
use Rattle.plan_plane.proofs.Boundary.Floor.{IsFloor, Origin, of_sum, of_side, origin}
use Rattle.plan_plane.proofs.Boundary.Sum.{EdgeOf, edge_of}
use Rattle.plan_plane.proofs.Near.{Near, Grows, near_all, near_at, near_pos, near_weaker, step, step_between, step_point}
use Rattle.plan_plane.proofs.Segment.AtEnds.{first_weight, second_weight}
use Rattle.plan_plane.proofs.Segment.Between.{between, between_first, between_second, dot_between, on}
use Rattle.plan_plane.proofs.Segment.Part.{on_part_of}
use Rattle.plan_slab.proofs.Order.Beside.{IsWithin, beside}

-- an edge at a point of it: beside it, on the positive side of a covector of its line, nothing is uncovered
record HasBlock (sums : List (List Vector)) (room : Frame) (e : Segment) (z : Vector) : Type 0 where
  line : Vector
  at : dot line z ≡ pos 0
  only : (w : Vector) → dot line w ≡ pos 0 → turn e.a e.b w ≡ pos 0
  covers : (u : Vector) → pos 0 <ℤ dot line u → Near z u (λ y. ¬ (IsUncovered sums room y))

-- ---- an edge of a sum
sum_block : {sums : List (List Vector)} {room : Frame} {vs : List Vector} {e : Segment} (z : Vector) → Contains sums vs → EdgeOf vs e → IsPoint z → IsWithin e z → HasBlock sums room e z
sum_block {sums} {room} {vs} {e} z among edge hz within = record { line = cross e.a e.b; at = within.on.in_line; only = λ w h. h; covers = covers }
  where
    covers : (u : Vector) → pos 0 <ℤ turn e.a e.b u → Near z u (λ y. ¬ (IsUncovered sums room y))
    covers u h =
        near_weaker (StrictlyInside vs) (λ y. ¬ (IsUncovered sums room y)) (λ y inside bare. All-contains (λ vs. ¬ (StrictlyInside vs y)) sums vs bare.in_none among inside)
        (near_all (λ s p. IsLeft p s) (edges vs) (λ k d below. let t = get_or (edges vs) k d in near_pos z u (cross t.a t.b) (grows t (edge_of vs t edge.sum (All-contains_itself (edges vs) k d below)))))
      where
        grows : (t : Segment) → EdgeOf vs t → Grows z u (cross t.a t.b)
        grows t other = ⊎_elim inl (λ h2. inr (h2.0, h2.1 u h)) (beside z edge other hz within)

-- ---- a side of the room: what is in the room is on one side of it
room_left : {sums : List (List Vector)} {room : Frame} {e : Segment} (z : Vector) → On e z → ((y : Vector) → IsUncovered sums room y → pos 0 ≤ℤ turn e.a e.b y) → HasBlock sums room e z
room_left {e = e} z on held =
    let l = opposite (cross e.a e.b) in
    record {
      line = opposite (cross e.a e.b);
      at = omega (arith, linear, dot_opposite (cross e.a e.b) z, on.in_line);
      only = λ w h. omega (arith, linear, dot_opposite (cross e.a e.b) w);
      covers = λ u h. near_weaker (λ y. pos 0 <ℤ dot l y) _ (λ y h bare. omega (arith, linear, dot_opposite (cross e.a e.b) y, held y bare)) (near_pos z u l (inr (omega (arith, linear, dot_opposite (cross e.a e.b) z, on.in_line), h)));
    }

room_right : {sums : List (List Vector)} {room : Frame} {e : Segment} (z : Vector) → On e z → ((y : Vector) → IsUncovered sums room y → turn e.a e.b y ≤ℤ pos 0) → HasBlock sums room e z
room_right {e = e} z on held = record {
  line = cross e.a e.b;
  at = on.in_line;
  only = λ w h. h;
  covers = λ u h. near_weaker (λ y. pos 0 <ℤ turn e.a e.b y) _ (λ y h bare. omega (arith, linear, held y bare)) (near_pos z u (cross e.a e.b) (inr (omega (arith, linear, on.in_line), h)));
}

above_bottom : (lx ly hx hy : ℤ) (y : Vector) → InRoom (rectangle lx ly hx hy) y → pos 0 ≤ℤ turn (spot lx ly) (spot hx ly) y
above_bottom lx ly hx hy y h =
    let wide : pos 0 ≤ℤ (hx -ℤ lx) = omega (arith, linear, h.wide) in
    let up : pos 0 ≤ℤ (y.y -ℤ ly *ℤ y.w) = omega (arith, linear, h.below) in
    omega (arith, linear, mul_nonneg wide up, ring (env (lx ∷ ly ∷ hx ∷ []) (y ∷ [])) (F.det (record { x = J; y = K; w = con (pos 1) }) (record { x = L; y = K; w = con (pos 1) }) A) ((L ⊖ J) ⊗ (A.y ⊖ K ⊗ A.w)) tt)

below_top : (lx ly hx hy : ℤ) (y : Vector) → InRoom (rectangle lx ly hx hy) y → turn (spot lx hy) (spot hx hy) y ≤ℤ pos 0
below_top lx ly hx hy y h =
    let wide : pos 0 ≤ℤ (hx -ℤ lx) = omega (arith, linear, h.wide) in
    let down : pos 0 ≤ℤ (hy *ℤ y.w -ℤ y.y) = omega (arith, linear, h.above) in
    omega (arith, linear, mul_nonneg wide down, ring (env (lx ∷ hy ∷ hx ∷ []) (y ∷ [])) (F.det (record { x = J; y = K; w = con (pos 1) }) (record { x = L; y = K; w = con (pos 1) }) A) (con (pos 0) ⊖ (L ⊖ J) ⊗ (K ⊗ A.w ⊖ A.y)) tt)

left_of_right : (lx ly hx hy : ℤ) (y : Vector) → InRoom (rectangle lx ly hx hy) y → pos 0 ≤ℤ turn (spot hx ly) (spot hx hy) y
left_of_right lx ly hx hy y h =
    let tall : pos 0 ≤ℤ (hy -ℤ ly) = omega (arith, linear, h.tall) in
    let back : pos 0 ≤ℤ (hx *ℤ y.w -ℤ y.x) = omega (arith, linear, h.right) in
    omega (arith, linear, mul_nonneg tall back, ring (env (ly ∷ hx ∷ hy ∷ []) (y ∷ [])) (F.det (record { x = K; y = J; w = con (pos 1) }) (record { x = K; y = L; w = con (pos 1) }) A) ((L ⊖ J) ⊗ (K ⊗ A.w ⊖ A.x)) tt)

right_of_left : (lx ly hx hy : ℤ) (y : Vector) → InRoom (rectangle lx ly hx hy) y → turn (spot lx ly) (spot lx hy) y ≤ℤ pos 0
right_of_left lx ly hx hy y h =
    let tall : pos 0 ≤ℤ (hy -ℤ ly) = omega (arith, linear, h.tall) in
    let on : pos 0 ≤ℤ (y.x -ℤ lx *ℤ y.w) = omega (arith, linear, h.left) in
    omega (arith, linear, mul_nonneg tall on, ring (env (ly ∷ lx ∷ hy ∷ []) (y ∷ [])) (F.det (record { x = K; y = J; w = con (pos 1) }) (record { x = K; y = L; w = con (pos 1) }) A) (con (pos 0) ⊖ (L ⊖ J) ⊗ (A.x ⊖ K ⊗ A.w)) tt)

side_block : {sums : List (List Vector)} {room : Frame} {e : Segment} → HasSpots room → (z : Vector) → Contains (sides room) e → On e z → HasBlock sums room e z
side_block {sums} {room} {e} spots z among h = by among
  where
    values : (y : Vector) → IsUncovered sums room y → InRoom (rectangle room.low.x room.low.y room.high.x room.high.y) y
    values y bare = subst (λ room. InRoom room y) (sym (as_rectangle room spots)) bare.in_room

    by : Contains (sides room) e → HasBlock sums room e z
    by (zero, within, is) = subst (λ s. HasBlock sums room s z) is (room_left z (subst (λ s. On s z) (sym is) h) (λ y b. above_bottom room.low.x room.low.y room.high.x room.high.y y (values y b)))
    by (suc zero, within, is) = subst (λ s. HasBlock sums room s z) is (room_left z (subst (λ s. On s z) (sym is) h) (λ y b. left_of_right room.low.x room.low.y room.high.x room.high.y y (values y b)))
    by (suc (suc zero), within, is) = subst (λ s. HasBlock sums room s z) is (room_right z (subst (λ s. On s z) (sym is) h) (λ y b. below_top room.low.x room.low.y room.high.x room.high.y y (values y b)))
    by (suc (suc (suc zero)), within, is) = subst (λ s. HasBlock sums room s z) is (room_right z (subst (λ s. On s z) (sym is) h) (λ y b. right_of_left room.low.x room.low.y room.high.x room.high.y y (values y b)))
    by (suc (suc (suc (suc k))), within, is) = absurd (omega arith)

-- ---- the crossing piece
-- all of the segment is uncovered
pub record IsBare (sums : List (List Vector)) (room : Frame) (q : Segment) : Type 0 where
  pub points : HasPoints q
  pub uncovered : (y : Vector) → IsPoint y → On q y → IsUncovered sums room y

-- no point of the piece is on the positive side
no_side : {sums : List (List Vector)} {room : Frame} {e q : Segment} (z u : Vector) (b : HasBlock sums room e z) → IsBare sums room q → IsPoint z → IsPoint u → On q z → On q u → ¬ (pos 0 <ℤ dot b.line u)
no_side {q = q} z u b bare hz hu qz qu h =
    let near = b.covers u h in
    let y = step near.least z u in
    let hy = step_point z u near.least hz (le_of_lt hu) near.positive in
    near_at near (bare.uncovered y hy (on_part_of q (segment z u) y bare.points (hz, hu) hy qz qu (on (step_between near.least z u (le_of_lt near.positive)))))

-- a sum of two products that is 0, with positive weights: where neither value is positive, both are 0
both_zero : (i j x y : ℤ) → pos 0 <ℤ i → pos 0 <ℤ j → ¬ (pos 0 <ℤ x) → ¬ (pos 0 <ℤ y) → i *ℤ x +ℤ j *ℤ y ≡ pos 0 → (x ≡ pos 0) × (y ≡ pos 0)
both_zero i j x y hi hj nx ny e = by (sign_of x) (sign_of y)
  where
    by : Sign x → Sign y → (x ≡ pos 0) × (y ≡ pos 0)
    by (is_positive h) t = absurd (nx h)
    by s (is_positive k) = absurd (ny k)
    by (is_zero f) (is_zero g) = (f, g)
    by (is_zero f) (is_negative k) = absurd (omega (arith, linear, mul_of_zero i x f, mul_pos_neg hj k))
    by (is_negative h) (is_zero g) = absurd (omega (arith, linear, mul_of_zero j y g, mul_pos_neg hi h))
    by (is_negative h) (is_negative k) = absurd (omega (arith, linear, mul_pos_neg hi h, mul_pos_neg hj k))

pub crossing : {sums : List (List Vector)} {room : Frame} {e q : Segment} (z : Vector) → IsFloor sums room → Contains (boundary sums room) e → IsBare sums room q → IsPoint z → IsWithin e z → IsWithin q z → (turn e.a e.b q.a ≡ pos 0) × (turn e.a e.b q.b ≡ pos 0)
crossing {sums} {room} {e} {q} z floor is bare hz at other =
    let b = block (origin floor e is) in
    let pts = bare.points in
    let w = between q.a q.b z pts.0 pts.1 hz other.on in
    let zeros = both_zero w.first w.second (dot b.line q.a) (dot b.line q.b) (first_weight w other.not_last) (second_weight w other.not_first)
    (no_side z q.a b bare hz pts.0 other.on (on (between_first q.a q.b pts.0))) (no_side z q.b b bare hz pts.1 other.on (on (between_second q.a q.b pts.1)))
    (omega (arith, linear, dot_between w b.line, mul_of_zero w.scale (dot b.line z) b.at)) in
    (b.only q.a zeros.0, b.only q.b zeros.1)
  where
    block : Origin sums room e → HasBlock sums room e z
    block (of_sum vs among edge) = sum_block z among edge hz at
    block (of_side among) = side_block floor.spots z among at.on
