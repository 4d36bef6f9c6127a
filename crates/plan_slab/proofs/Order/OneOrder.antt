-- Of two pieces that go across a slab the one is below the other throughout, or they lie on one line; the heights at any one point of the slab decide.
use Rattle.std.proofs.Common.{◌≡◌, ◌⊎◌, inl, inr, ℤ, pos, ◌+ℤ◌, ◌*ℤ◌, neg_ℤ, ◌≤ℤ◌, ◌<ℤ◌, Bool, true, false, cond, int_lt, List, [], ◌∷◌, refl, ◌∙◌, arith}
use Rattle.plan_exact.specs.Expr.{var, con, ◌⊕◌, ◌⊗◌, neg}
use Rattle.plan_exact.specs.Formal as F
use Rattle.plan_exact.specs.Formal.{A, B, C, D, E}
use Rattle.plan_exact.specs.Vectors.{sum, scaled, dot, cross, env}
use Rattle.plan_exact.proofs.Certificates.{eq_from}
use Rattle.plan_exact.proofs.Laws.{linear}
use Rattle.plan_exact.proofs.Ring.{ring}
use Rattle.plan_exact.proofs.Signs.{signs, zeros, le_or_lt, le_of_lt, mul_pos, mul_nonneg, mul_of_zero, mul_nonneg_nonpos, neg_pos}
use Rattle.plan_exact.proofs.Tests.{lt_from_true, le_from_false}
use Rattle.plan_exact.proofs.Vectors.{dot_combination_right, det_swapped}
use Rattle.plan_spec.specs.Vector.{Vector, IsPoint, LeX, LtX, turn}
use Rattle.plan_spec.specs.Segment.{Segment, segment, HasPoints, On}
use Rattle.plan_spec.specs.Frame.{Frame}
use Rattle.plan_spec.specs.Pieces.{Piece}
use Rattle.plan_spec.specs.Slabs.{edge_of, InSlab, Reaches, LiesOn, Below, rightward}
use Rattle.plan_spec.specs.Regions.{foot}
use Rattle.plan_plane.proofs.Boundary.Floor.{IsFloor}
use Rattle.plan_plane.proofs.Segment.Between.{LtX_after, LtX_before}
use Rattle.plan_plane.proofs.Segment.ByX.{leX_trans, leX_ltX, ltX_leX, between_one}
use Rattle.plan_plane.proofs.Segment.Combination.{between_combination}
use Rattle.plan_plane.proofs.Segment.Line.{formal_right, on_line}
use Rattle.plan_slab.specs.Levels.{run, Lower, Level, strand}
use Rattle.plan_slab.proofs.Order.Across.{IsSlab, within_piece, within_edge}
use Rattle.plan_slab.proofs.Order.Crossing.{crossing}
use Rattle.plan_slab.proofs.Order.Feet.{foot_point, foot_same_x, foot_in_line, foot_side, foot_level}
use Rattle.plan_slab.proofs.Pieces.{IsPiece}

-- ---- an edge from left to right
-- s is from left to right on the line of e
record IsRightward (e s : Segment) : Type 0 where
  rises : LtX s.a s.b
  same : (w : Vector) → turn e.a e.b w ≡ pos 0 → turn s.a s.b w ≡ pos 0

rightward_is : (e : Segment) → LtX e.a e.b ⊎ LtX e.b e.a → IsRightward e (rightward e)
rightward_is e h = by (int_lt (e.b.x *ℤ e.a.w) (e.a.x *ℤ e.b.w)) refl h
  where
    by : (t : Bool) → int_lt (e.b.x *ℤ e.a.w) (e.a.x *ℤ e.b.w) ≡ t → LtX e.a e.b ⊎ LtX e.b e.a → IsRightward e (cond t (segment e.b e.a) e)
    by true p h = record { rises = lt_from_true (e.b.x *ℤ e.a.w) (e.a.x *ℤ e.b.w) p; same = λ w z. omega (arith, linear, det_swapped e.b e.a w) }
    by false p (inl h) = record { rises = h; same = λ w z. z }
    by false p (inr h) = absurd (omega (arith, linear, h, le_from_false (e.b.x *ℤ e.a.w) (e.a.x *ℤ e.b.w) p))

-- s is from left to right, and the piece, on its line, goes across
pub record IsStrand (l r : Vector) (s : Segment) (p : Piece) : Type 0 where
  pub rises : LtX s.a s.b
  pub points : HasPoints p.part
  pub lies : LiesOn s p
  pub reaches : Reaches l r p

pub piece_rises : {l r : Vector} (p : Piece) → IsSlab l r → HasPoints p.part → Reaches l r p → LtX p.part.a p.part.b
piece_rises {l} {r} p slab hp reach = ltX_leX p.part.a r p.part.b hp.0 slab.right_point hp.1 (leX_ltX p.part.a l r hp.0 slab.left_point slab.right_point reach.0 slab.wide) reach.1

is_rightward : {sums : List (List Vector)} {room : Frame} {l r : Vector} {p : Piece} → IsSlab l r → IsPiece sums room p → Reaches l r p → IsRightward (edge_of sums room p) (strand sums room p)
is_rightward {sums} {room} {l} {r} {p} slab piece reach = rightward_is e (by (le_or_lt (e.b.x *ℤ e.a.w) (e.a.x *ℤ e.b.w)) (le_or_lt (e.a.x *ℤ e.b.w) (e.b.x *ℤ e.a.w)))
  where
    e : Segment
    e = edge_of sums room p

    -- were the edge upright, so would be the piece
    by : LeX e.b e.a ⊎ LtX e.a e.b → LeX e.a e.b ⊎ LtX e.b e.a → LtX e.a e.b ⊎ LtX e.b e.a
    by (inr h) t = inl h
    by (inl h) (inr k) = inr k
    by (inl h) (inl k) =
        let he = piece.edge_points in
        let hp = piece.part.points in
        let a = between_one e.a e.b p.part.a he.0 he.1 hp.0 (omega (arith, linear)) piece.part.from.within_x in
        let b = between_one e.a e.b p.part.b he.0 he.1 hp.1 (omega (arith, linear)) piece.part.to.within_x in
        let be : LeX p.part.b e.a = omega (arith, linear) in
        let ea : LeX e.a p.part.a = omega (arith, linear) in
        absurd (omega (arith, linear, piece_rises p slab hp reach, leX_trans p.part.b e.a p.part.a hp.1 he.0 hp.0 be ea))

pub is_strand : {sums : List (List Vector)} {room : Frame} {l r : Vector} {p : Piece} → IsSlab l r → IsPiece sums room p → Reaches l r p → IsStrand l r (strand sums room p) p
is_strand {p = p} slab piece reach =
    let d = is_rightward slab piece reach in
    record { rises = d.rises; points = piece.part.points; lies = (d.same p.part.a piece.part.from.in_line, d.same p.part.b piece.part.to.in_line); reaches = reach }

pub run_pos : {l r : Vector} {s : Segment} {p : Piece} → IsStrand l r s p → pos 0 <ℤ run s
run_pos a = let h = a.rises in omega (arith, linear)

-- a point of the closed slab on the line of s is on the piece
pub on_strand : {l r : Vector} {s : Segment} {p : Piece} → IsSlab l r → IsStrand l r s p → (v : Vector) → IsPoint v → LeX l v → LeX v r → turn s.a s.b v ≡ pos 0 → On p.part v
on_strand {l} {r} {s} {p} slab a v hv lv vr e =
    on_line s.a s.b p.part.a p.part.b v a.rises a.lies.0 a.lies.1 e (leX_trans p.part.a l v a.points.0 slab.left_point hv a.reaches.0 lv) (leX_trans v r p.part.b hv slab.right_point a.points.1 vr a.reaches.1)

pub foot_inside : (l r : Vector) (s : Segment) (z : Vector) → IsSlab l r → pos 0 <ℤ run s → IsPoint z → InSlab l r z → InSlab l r (foot s z)
foot_inside l r s z slab hs hz inside =
    let hv = foot_point s z hs hz in
    let le : LeX z (foot s z) = omega (arith, linear, foot_same_x s z) in
    let ge : LeX (foot s z) z = omega (arith, linear, foot_same_x s z) in
    (ltX_leX l z (foot s z) slab.left_point hz hv inside.0 le, leX_ltX (foot s z) z r hv hz slab.right_point ge inside.1)

-- ---- one line
-- a covector that is 0 at two points of different x is 0 on the line through them
on_one_line : (u v z l : Vector) → LtX u v → turn u v z ≡ pos 0 → dot l u ≡ pos 0 → dot l v ≡ pos 0 → dot l z ≡ pos 0
on_one_line u v z l lt e hu hv = eq_from (env [] (u ∷ v ∷ z ∷ l ∷ [])) (formal_right A B) (formal_right C B ⊗ F.dot D A ⊕ formal_right A C ⊗ F.dot D B ⊕ D.y ⊗ F.det A B C) (F.dot D C) F.zero tt (search signs) (search zeros)

in_line : (a b u v z : Vector) → LtX a b → turn a b u ≡ pos 0 → turn a b v ≡ pos 0 → turn a b z ≡ pos 0 → turn u v z ≡ pos 0
in_line a b u v z lt hu hv hz = eq_from (env [] (a ∷ b ∷ u ∷ v ∷ z ∷ [])) (formal_right A B) (formal_right D E ⊗ F.det A B C ⊕ neg (formal_right C E) ⊗ F.det A B D ⊕ formal_right C D ⊗ F.det A B E) (F.det C D E) F.zero tt (search signs) (search zeros)

-- what lies on s is level with it at every x
pub lies_level : {l r : Vector} (s : Segment) {t : Segment} {q : Piece} → IsSlab l r → IsStrand l r t q → LiesOn s q → (m : Vector) → Level m s t
lies_level s {t} {q} slab b lies m =
    let v = foot t m in
    let on_q = in_line t.a t.b q.part.a q.part.b v b.rises b.lies.0 b.lies.1 (foot_in_line t m) in
    let on_s = on_one_line q.part.a q.part.b v (cross s.a s.b) (piece_rises q slab b.points b.reaches) on_q lies.0 lies.1 in
    omega (arith, linear, foot_level t s m, on_s)

-- ---- two pieces
-- where both lines have a point of the slab, the second piece lies on the first line
pub record MeetOnOneLine (l r : Vector) (s t : Segment) (q : Piece) : Type 0 where
  pub meet : (v : Vector) → IsPoint v → InSlab l r v → turn s.a s.b v ≡ pos 0 → turn t.a t.b v ≡ pos 0 → LiesOn s q

pub pieces_meet : {sums : List (List Vector)} {room : Frame} {l r : Vector} {p q : Piece} → IsFloor sums room → IsSlab l r → IsPiece sums room p → IsPiece sums room q → Reaches l r p → Reaches l r q → MeetOnOneLine l r (strand sums room p) (strand sums room q) q
pieces_meet {sums} {room} {l} {r} {p} {q} floor slab hp hq rp rq = record { meet = meet }
  where
    meet : (v : Vector) → IsPoint v → InSlab l r v → turn (strand sums room p).a (strand sums room p).b v ≡ pos 0 → turn (strand sums room q).a (strand sums room q).b v ≡ pos 0 → LiesOn (strand sums room p) q
    meet v hv inside on_s on_t =
        let on_p = on_strand slab (is_strand slab hp rp) v hv (le_of_lt inside.0) (le_of_lt inside.1) on_s in
        let on_q = on_strand slab (is_strand slab hq rq) v hv (le_of_lt inside.0) (le_of_lt inside.1) on_t in
        let z = crossing {e = edge_of sums room p} {q = q.part} v floor hp.is_edge (record { points = hq.part.points; uncovered = hq.bare }) hv (within_edge slab hp rp v hv inside on_p) (within_piece slab hq rq v hv inside on_q) in
        let d = is_rightward slab hp rp in
        (d.same q.part.a z.0, d.same q.part.b z.1)

-- level at one point of the slab
pub level_lies : {l r : Vector} {s t : Segment} {p q : Piece} → IsSlab l r → IsStrand l r s p → MeetOnOneLine l r s t q → (m : Vector) → IsPoint m → InSlab l r m → Level m s t → LiesOn s q
level_lies {l} {r} {s} {t} slab a meets m hm im e = meets.meet (foot s m) (foot_point s m (run_pos a) hm) (foot_inside l r s m slab (run_pos a) hm im) (foot_in_line s m) (omega (arith, linear, foot_level s t m))

cancel : (x y : ℤ) → y *ℤ x +ℤ neg_ℤ x *ℤ y ≡ pos 0
cancel x y = ring (x ∷ y ∷ []) (var 1 ⊗ var 0 ⊕ neg (var 0) ⊗ var 1) (con (pos 0)) tt

-- lower at one point of the slab, so below throughout: were s not below z, its line would cross that of t between the two feet on it
pub lower_below : {l r : Vector} {s t : Segment} {p q : Piece} → IsSlab l r → IsStrand l r s p → IsStrand l r t q → MeetOnOneLine l r s t q → (m : Vector) → IsPoint m → InSlab l r m → Lower m s t → Below l r s t
lower_below {l} {r} {s} {t} slab a b meets m hm im lower z hz iz above = by (le_or_lt (turn s.a s.b z) (pos 0))
  where
    by : (turn s.a s.b z ≤ℤ pos 0) ⊎ (pos 0 <ℤ turn s.a s.b z) → pos 0 <ℤ turn s.a s.b z
    by (inr h) = h
    by (inl h) =
        let u = foot s m in
        let v = foot s z in
        let hu = foot_point s m (run_pos a) hm in
        let hv = foot_point s z (run_pos a) hz in
        let iu = foot_inside l r s m slab (run_pos a) hm im in
        let iv = foot_inside l r s z slab (run_pos a) hz iz in
        let down : turn t.a t.b u <ℤ pos 0 = omega (arith, linear, foot_level s t m) in
        let up : pos 0 ≤ℤ turn t.a t.b v = omega (arith, linear, foot_side s t z, mul_nonneg (le_of_lt (run_pos a)) above, mul_nonneg_nonpos (le_of_lt (run_pos b)) h) in
        let i = turn t.a t.b v in
        let j = neg_ℤ (turn t.a t.b u) in
        let hj : pos 0 <ℤ j = neg_pos down in
        let c = sum (scaled i u) (scaled j v) in
        let w = between_combination i j u v up (le_of_lt hj) in
        let hc : IsPoint c = omega (arith, linear, mul_nonneg up (le_of_lt hu), mul_pos hj hv) in
        let on_s = dot_combination_right i j u v (cross s.a s.b) in
        let on_t : turn t.a t.b c ≡ pos 0 = dot_combination_right i j u v (cross t.a t.b) ∙ cancel (turn t.a t.b u) (turn t.a t.b v) in
        let zs : turn s.a s.b c ≡ pos 0 = omega (arith, linear, on_s, mul_of_zero i (turn s.a s.b u) (foot_in_line s m), mul_of_zero j (turn s.a s.b v) (foot_in_line s z)) in
        let lies = meets.meet c hc (LtX_after hc w l iu.0 iv.0, LtX_before hc w r iu.1 iv.1) zs on_t in
        absurd (omega (arith, linear, lower, lies_level s slab b lies m))
