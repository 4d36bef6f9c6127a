-- Pieces are maximal: a part of an edge that is uncovered throughout lies in one piece, since between two pieces a point is covered.
use Rattle.std.proofs.Common.{◌≡◌, ◌↔◌, ⊎_elim, ℕ, suc, ◌<◌, ◌≤◌, pos, ◌+ℤ◌, ◌-ℤ◌, List, [], ◌∷◌, length, get_or, Any, refl, sym, ap, subst, ◌∙◌, eq-or-lt_of_le, arith}
use Rattle.std.proofs.lemmas.List.{get_or_default}
use Rattle.std.proofs.lemmas.Bool.{cases_order}
use Rattle.plan_exact.specs.Expr.{var, con, ◌⊕◌, ◌⊖◌, ◌⊗◌}
use Rattle.plan_exact.specs.Vectors.{Vector, sum, scaled}
use Rattle.plan_exact.proofs.Certificates.{lt_from}
use Rattle.plan_exact.proofs.Laws.{linear}
use Rattle.plan_exact.proofs.Signs.{signs}
use Rattle.plan_spec.specs.Vector.{IsPoint, Same, Before}
use Rattle.plan_spec.specs.Segment.{Segment, On, segment, HasPoints}
use Rattle.plan_spec.specs.Frame.{Frame}
use Rattle.plan_plane.proofs.Segment.Combination.{on_combination}
use Rattle.plan_plane.proofs.Segment.Between.{on, between_first, between_second}
use Rattle.plan_plane.proofs.Segment.Same.{on_same, Same-swapped}
use Rattle.plan_spec.specs.Weights.{Weights, IsWeights, weighted}
use Rattle.plan_spec.specs.Boundary.{IsUncovered}
use Rattle.plan_grid.specs.Fraction.{Fraction}
use Rattle.plan_convex.specs.Parameter.{AtMost, Less, IsShare, fraction_at, along}
use Rattle.plan_convex.specs.Part.{InClosed}
use Rattle.plan_plane.proofs.Segment.Weights.{HasWeights, weights_on, weights_point}
use Rattle.plan_spec.specs.Pieces.{ArePieces}
use Rattle.plan_bound.proofs.PiecesOfEdge.{before_at, not_before_at}
use Rattle.plan_convex.proofs.Fractions.{at_most_trans, less_at_most, at_most_less, weak, not_both, at_most_or_less}
use Rattle.plan_bound.proofs.Parts.{on_part}
use Rattle.plan_plane.proofs.Segment.Part.{on_part_of}
use Rattle.plan_plane.proofs.Rising.ByPoint.{different, order_before}
use Rattle.plan_plane.proofs.Lists.{any_weaker}
use Rattle.plan_plane.proofs.Segment.Reversed.{on_reversed}

-- ---- places by their weights
share_at : (z : Weights) → IsWeights z → IsShare (fraction_at z)
share_at z h = let s = h.first in let t = h.second in record { positive = h.some; nonneg = h.second; upto = omega (arith, linear) }

point_is : (a b : Vector) (z : Weights) → along a b (fraction_at z) ≡ weighted a b z
point_is a b z = let e : (z.s +ℤ z.t) -ℤ z.t ≡ z.s = omega (arith, linear) in ap (λ n. sum (scaled n a) (scaled z.t b)) e

on_places : (a b : Vector) (u v w : Weights) → IsPoint a → IsPoint b → ¬ (Same a b) → IsWeights u → IsWeights v → IsWeights w → AtMost (fraction_at u) (fraction_at v) → On (segment (weighted a b u) (weighted a b v)) (weighted a b w) ↔ InClosed (record { from = fraction_at u; to = fraction_at v }) (fraction_at w)
on_places a b u v w ha hb apart hu hv hw h = subst (λ p. On (segment p (weighted a b v)) (weighted a b w) ↔ InClosed (record { from = fraction_at u; to = fraction_at v }) (fraction_at w)) (point_is a b u) (subst (λ q. On (segment (along a b (fraction_at u)) q) (weighted a b w) ↔ InClosed (record { from = fraction_at u; to = fraction_at v }) (fraction_at w)) (point_is a b v) (on_part a b (fraction_at u) (fraction_at v) w ha hb apart (share_at u hu) (share_at v hv) h hw))

-- the same segment, by other triples of its ends
pub ends_same : (x y u v z : Vector) → IsPoint x → IsPoint y → IsPoint u → IsPoint v → IsPoint z → Same x u → Same y v → On (segment x y) z → On (segment u v) z
ends_same x y u v z hx hy hu hv hz e f m =
    on_part_of (segment u v) (segment x y) z (hu, hv) (hx, hy) hz
    (on_same u v u x hu hv hu hx (Same-swapped x u e) (on (between_first u v hu)))
    (on_same u v v y hu hv hv hy (Same-swapped y v f) (on (between_second u v hv))) m

-- three points of the edge
on_weights : (a b x y z : Vector) → IsPoint a → IsPoint b → ¬ (Same a b) → IsPoint x → IsPoint y → IsPoint z → (u : HasWeights a b x) (v : HasWeights a b y) (w : HasWeights a b z) → AtMost (fraction_at u.at) (fraction_at v.at) → On (segment x y) z ↔ InClosed (record { from = fraction_at u.at; to = fraction_at v.at }) (fraction_at w.at)
on_weights a b x y z ha hb apart hx hy hz u v w h = (
  λ m. o.0 (on_same (weighted a b u.at) (weighted a b v.at) z (weighted a b w.at) pu pv hz pw (Same-swapped (weighted a b w.at) z w.same)
      (ends_same x y (weighted a b u.at) (weighted a b v.at) z hx hy pu pv hz (Same-swapped (weighted a b u.at) x u.same) (Same-swapped (weighted a b v.at) y v.same) m)),
  λ i. ends_same (weighted a b u.at) (weighted a b v.at) x y z pu pv hx hy hz u.same v.same (on_same (weighted a b u.at) (weighted a b v.at) (weighted a b w.at) z pu pv pw hz w.same (o.1 i)),
)
  where
    pu : IsPoint (weighted a b u.at)
    pu = weights_point a b u.at ha hb u.weights

    pv : IsPoint (weighted a b v.at)
    pv = weights_point a b v.at ha hb v.weights

    pw : IsPoint (weighted a b w.at)
    pw = weights_point a b w.at ha hb w.weights

    o : On (segment (weighted a b u.at) (weighted a b v.at)) (weighted a b w.at) ↔ InClosed (record { from = fraction_at u.at; to = fraction_at v.at }) (fraction_at w.at)
    o = on_places a b u.at v.at w.at ha hb apart u.weights v.weights w.weights h

-- ---- the order of points along the edge is that of their fractions
pub before_same : (x y u v : Vector) → IsPoint x → IsPoint y → IsPoint u → IsPoint v → Same x u → Same y v → Before x y → Before u v
before_same x y u v hx hy hu hv e f h = order_before.less_equal u y v hu hy hv (order_before.equal_less u x y hu hx hy (Same-swapped x u e) h) f

-- in both directions
less_before : (a b x y : Vector) → IsPoint a → IsPoint b → Before a b → IsPoint x → IsPoint y → (u : HasWeights a b x) (v : HasWeights a b y) → Less (fraction_at u.at) (fraction_at v.at) → Before x y
less_before a b x y ha hb onward hx hy u v h =
    before_same (weighted a b u.at) (weighted a b v.at) x y (weights_point a b u.at ha hb u.weights) (weights_point a b v.at ha hb v.weights) hx hy u.same v.same
    (subst (λ p. Before p (weighted a b v.at)) (point_is a b u.at) (subst (Before (along a b (fraction_at u.at))) (point_is a b v.at) (before_at a b (fraction_at u.at) (fraction_at v.at) onward h)))

before_less : (a b x y : Vector) → IsPoint a → IsPoint b → Before a b → IsPoint x → IsPoint y → (u : HasWeights a b x) (v : HasWeights a b y) → Before x y → Less (fraction_at u.at) (fraction_at v.at)
before_less a b x y ha hb onward hx hy u v h = ⊎_elim back (λ k. k) (at_most_or_less (fraction_at v.at) (fraction_at u.at))
  where
    at : Before (along a b (fraction_at u.at)) (along a b (fraction_at v.at))
    at = subst (λ p. Before p (along a b (fraction_at v.at))) (sym (point_is a b u.at)) (subst (Before (weighted a b u.at)) (sym (point_is a b v.at)) (before_same x y (weighted a b u.at) (weighted a b v.at) hx hy (weights_point a b u.at ha hb u.weights) (weights_point a b v.at ha hb v.weights) (Same-swapped (weighted a b u.at) x u.same) (Same-swapped (weighted a b v.at) y v.same) h))

    back : AtMost (fraction_at v.at) (fraction_at u.at) → Less (fraction_at u.at) (fraction_at v.at)
    back k = absurd (not_before_at a b (fraction_at v.at) (fraction_at u.at) onward k at)

-- ---- the pieces by fractions
record Placed (a b : Vector) (p : Segment) : Type 0 where
  a_point : IsPoint p.a
  b_point : IsPoint p.b
  from : HasWeights a b p.a
  to : HasWeights a b p.b
  onward : AtMost (fraction_at from.at) (fraction_at to.at)

placed : (a b : Vector) (p : Segment) → IsPoint a → IsPoint b → Before a b → HasPoints p → On (segment a b) p.a → On (segment a b) p.b → ¬ (Before p.b p.a) → Placed a b p
placed a b p ha hb onward hp oa ob off = record {
  a_point = hp.0;
  b_point = hp.1;
  from = u;
  to = v;
  onward = ⊎_elim (λ k. k) (λ k. absurd (off (less_before a b p.b p.a ha hb onward hp.1 hp.0 v u k))) (at_most_or_less (fraction_at u.at) (fraction_at v.at));
}
  where
    u : HasWeights a b p.a
    u = weights_on a b p.a ha hb hp.0 oa

    v : HasWeights a b p.b
    v = weights_on a b p.b ha hb hp.1 ob

piece_placed : {sums : List (List Vector)} {room : Frame} {a b : Vector} {ps : List Segment} (k : ℕ) (d : Segment) → IsPoint a → IsPoint b → Before a b → ArePieces sums room (segment a b) ps → k < length ps → Placed a b (get_or ps k d)
piece_placed {a = a} {b = b} {ps = ps} k d ha hb onward pieces within = let h = pieces.along k d within in placed a b (get_or ps k d) ha hb onward h.points h.from h.to h.onward

-- halfway, by weights
middle_weights : (u v : Weights) → IsWeights u → IsWeights v → IsWeights (record { s = u.s +ℤ v.s; t = u.t +ℤ v.t })
middle_weights u v hu hv = record { first = omega (arith, linear, hu.first, hv.first); second = omega (arith, linear, hu.second, hv.second); some = omega (arith, linear, hu.some, hv.some) }

after_first : (u v : Weights) → Less (fraction_at u) (fraction_at v) → Less (fraction_at u) (fraction_at (record { s = u.s +ℤ v.s; t = u.t +ℤ v.t }))
after_first u v h = lt_from (u.s ∷ u.t ∷ v.s ∷ v.t ∷ []) (con (pos 1)) (var 3 ⊗ (var 0 ⊕ var 1) ⊖ var 1 ⊗ (var 2 ⊕ var 3)) (var 1 ⊗ ((var 0 ⊕ var 2) ⊕ (var 1 ⊕ var 3))) ((var 1 ⊕ var 3) ⊗ (var 0 ⊕ var 1)) tt (search signs) (search signs)

before_second : (u v : Weights) → Less (fraction_at u) (fraction_at v) → Less (fraction_at (record { s = u.s +ℤ v.s; t = u.t +ℤ v.t })) (fraction_at v)
before_second u v h = lt_from (u.s ∷ u.t ∷ v.s ∷ v.t ∷ []) (con (pos 1)) (var 3 ⊗ (var 0 ⊕ var 1) ⊖ var 1 ⊗ (var 2 ⊕ var 3)) ((var 1 ⊕ var 3) ⊗ (var 2 ⊕ var 3)) (var 3 ⊗ ((var 0 ⊕ var 2) ⊕ (var 1 ⊕ var 3))) tt (search signs) (search signs)

-- the pieces of an edge from its lesser end; q is what a place beyond the list gives
record Row (sums : List (List Vector)) (room : Frame) (a b : Vector) (ps : List Segment) (q : Segment) : Type 0 where
  a_point : IsPoint a
  b_point : IsPoint b
  onward : Before a b
  pieces : ArePieces sums room (segment a b) ps

row_placed : {sums : List (List Vector)} {room : Frame} {a b : Vector} {ps : List Segment} {q : Segment} → Row sums room a b ps q → (k : ℕ) → k < length ps → Placed a b (get_or ps k q)
row_placed {q = q} r k within = piece_placed k q r.a_point r.b_point r.onward r.pieces within

abbrev begin : {a b : Vector} {p : Segment} → Placed a b p → Fraction
begin p = fraction_at p.from.at

abbrev finish : {a b : Vector} {p : Segment} → Placed a b p → Fraction
finish p = fraction_at p.to.at

held_at : {a b : Vector} {p : Segment} (h : Placed a b p) (z : Vector) → IsPoint a → IsPoint b → Before a b → IsPoint z → (w : HasWeights a b z) → On p z ↔ InClosed (record { from = begin h; to = finish h }) (fraction_at w.at)
held_at {a} {b} {p} h z ha hb onward hz w = on_weights a b p.a p.b z ha hb (different a b onward) h.a_point h.b_point hz h.from h.to w h.onward

row_apart : {sums : List (List Vector)} {room : Frame} {a b : Vector} {ps : List Segment} {q : Segment} (r : Row sums room a b ps q) (i j : ℕ) (hi : i < length ps) (hj : j < length ps) → i < j → Less (finish (row_placed r i hi)) (begin (row_placed r j hj))
row_apart {a = a} {b = b} {ps = ps} {q = q} r i j hi hj less =
    let p = row_placed r i hi in
    let n = row_placed r j hj in
    before_less a b (get_or ps i q).b (get_or ps j q).a r.a_point r.b_point r.onward p.b_point n.a_point p.to n.from (r.pieces.apart i j q less hj)

-- a point of a piece is not before an earlier one begins, and not after a later one ends
from_begin : {sums : List (List Vector)} {room : Frame} {a b : Vector} {ps : List Segment} {q : Segment} (r : Row sums room a b ps q) (k j : ℕ) (hk : k < length ps) (hj : j < length ps) (z : Vector) → IsPoint z → (w : HasWeights a b z) → k ≤ j → On (get_or ps j q) z → AtMost (begin (row_placed r k hk)) (fraction_at w.at)
from_begin {ps = ps} {q = q} r k j hk hj z hz w le m = ⊎_elim same further (eq-or-lt_of_le le)
  where
    same : k ≡ j → AtMost (begin (row_placed r k hk)) (fraction_at w.at)
    same e = ((held_at (row_placed r k hk) z r.a_point r.b_point r.onward hz w).0 (subst (λ (i : ℕ). On (get_or ps i q) z) (sym e) m)).0

    further : k < j → AtMost (begin (row_placed r k hk)) (fraction_at w.at)
    further less =
        let p = row_placed r k hk in
        let n = row_placed r j hj in
        at_most_trans (begin p) (begin n) (fraction_at w.at) p.from.weights.some n.from.weights.some w.weights.some
        (weak (begin p) (begin n) (at_most_less (begin p) (finish p) (begin n) p.from.weights.some p.to.weights.some n.from.weights.some p.onward (row_apart r k j hk hj less)))
        ((held_at n z r.a_point r.b_point r.onward hz w).0 m).0

upto_finish : {sums : List (List Vector)} {room : Frame} {a b : Vector} {ps : List Segment} {q : Segment} (r : Row sums room a b ps q) (k j : ℕ) (hk : k < length ps) (hj : j < length ps) (z : Vector) → IsPoint z → (w : HasWeights a b z) → k ≤ j → On (get_or ps k q) z → AtMost (fraction_at w.at) (finish (row_placed r j hj))
upto_finish {ps = ps} {q = q} r k j hk hj z hz w le m = ⊎_elim same further (eq-or-lt_of_le le)
  where
    same : k ≡ j → AtMost (fraction_at w.at) (finish (row_placed r j hj))
    same e = ((held_at (row_placed r j hj) z r.a_point r.b_point r.onward hz w).0 (subst (λ (i : ℕ). On (get_or ps i q) z) e m)).1

    further : k < j → AtMost (fraction_at w.at) (finish (row_placed r j hj))
    further less =
        let p = row_placed r k hk in
        let n = row_placed r j hj in
        at_most_trans (fraction_at w.at) (finish p) (finish n) w.weights.some p.to.weights.some n.to.weights.some
        ((held_at p z r.a_point r.b_point r.onward hz w).0 m).1
        (weak (finish p) (finish n) (less_at_most (finish p) (begin n) (finish n) p.to.weights.some n.from.weights.some n.to.weights.some (row_apart r k j hk hj less) n.onward))

-- between two neighbours a point of the edge is on no piece
between_none : {sums : List (List Vector)} {room : Frame} {a b : Vector} {ps : List Segment} {q : Segment} (r : Row sums room a b ps q) (i : ℕ) (hi : i < length ps) (hn : suc i < length ps) (z : Vector) → IsPoint z → (w : HasWeights a b z) → Less (finish (row_placed r i hi)) (fraction_at w.at) → Less (fraction_at w.at) (begin (row_placed r (suc i) hn)) → ¬ (Any (λ p. On p z) ps)
between_none {ps = ps} {q = q} r i hi hn z hz w after before (k, p, hk, is, m) = ⊎_elim upto (λ t. ⊎_elim upto_less beyond t) (cases_order k i)
  where
    here : On (get_or ps k q) z
    here = subst (λ p. On p z) (sym (get_or_default ps k q p hk ∙ is)) m

    earlier : k ≤ i → ⊥
    earlier le = not_both (fraction_at w.at) (finish (row_placed r i hi)) (upto_finish r k i hk hi z hz w le here) after

    upto : k ≡ i → ⊥
    upto e = earlier (omega (arith, e))

    upto_less : k < i → ⊥
    upto_less h = earlier (omega (arith, h))

    beyond : i < k → ⊥
    beyond h = not_both (begin (row_placed r (suc i) hn)) (fraction_at w.at) (from_begin r (suc i) k hn hk z hz w (omega (arith, h)) here) before

ordered : {sums : List (List Vector)} {room : Frame} {a b : Vector} {ps : List Segment} {q : Segment} (r : Row sums room a b ps q) → HasPoints q → (u : HasWeights a b q.a) (v : HasWeights a b q.b) → AtMost (fraction_at u.at) (fraction_at v.at)
    → ((z : Vector) → IsPoint z → On q z → IsUncovered sums room z) → (i j : ℕ) → i < length ps → j < length ps → On (get_or ps i q) q.a → On (get_or ps j q) q.b → Any (λ p. On p q.a × On p q.b) ps
ordered {sums = sums} {room = room} {a = a} {b = b} {ps = ps} {q = q} r hq u v le free i j hi hj ma mb = ⊎_elim one_piece (λ t. ⊎_elim gap back t) (cases_order i j)
  where
    one_piece : i ≡ j → Any (λ p. On p q.a × On p q.b) ps
    one_piece e = (i, get_or ps i q, hi, get_or_default ps i (get_or ps i q) q hi, (ma, subst (λ (k : ℕ). On (get_or ps k q) q.b) (sym e) mb))

    back : j < i → Any (λ p. On p q.a × On p q.b) ps
    back less =
        let p = row_placed r j hj in
        let n = row_placed r i hi in
        let one = less_at_most (finish p) (begin n) (fraction_at u.at) p.to.weights.some n.from.weights.some u.weights.some (row_apart r j i hj hi less) ((held_at n q.a r.a_point r.b_point r.onward hq.0 u).0 ma).0 in
        let two = at_most_less (fraction_at v.at) (finish p) (fraction_at u.at) v.weights.some p.to.weights.some u.weights.some ((held_at p q.b r.a_point r.b_point r.onward hq.1 v).0 mb).1 one in
        absurd (not_both (fraction_at u.at) (fraction_at v.at) le two)

    gap : i < j → Any (λ p. On p q.a × On p q.b) ps
    gap less =
        let hn : suc i < length ps = omega (arith, less, hj) in
        let p = row_placed r i hi in
        let n = row_placed r (suc i) hn in
        let x = p.to in
        let y = n.from in
        let wm = middle_weights x.at y.at x.weights y.weights in
        let m : Weights = record { s = x.at.s +ℤ y.at.s; t = x.at.t +ℤ y.at.t } in
        let hz = weights_point a b m r.a_point r.b_point wm in
        let w : HasWeights a b (weighted a b m) = record { at = m; weights = wm; same = (refl, refl) } in
        let wide = row_apart r i (suc i) hi hn (omega arith) in
        let after = after_first x.at y.at wide in
        let before = before_second x.at y.at wide in
        let low = at_most_trans (fraction_at u.at) (finish p) (fraction_at m) u.weights.some x.weights.some wm.some (upto_finish r i i hi hi q.a hq.0 u (omega arith) ma) (weak (finish p) (fraction_at m) after) in
        let high = at_most_trans (fraction_at m) (begin n) (fraction_at v.at) wm.some y.weights.some v.weights.some (weak (fraction_at m) (begin n) before) (from_begin r (suc i) j hn hj q.b hq.1 v (omega (arith, less)) mb) in
        let on_q = (on_weights a b q.a q.b (weighted a b m) r.a_point r.b_point (different a b r.onward) hq.0 hq.1 hz u v w le).1 (low, high) in
        absurd (between_none r i hi hn (weighted a b m) hz w after before ((r.pieces.exact (weighted a b m) hz (on_combination m.s m.t a b wm.first wm.second)).0 (free (weighted a b m) hz on_q)))

pub maximal : (sums : List (List Vector)) (room : Frame) (e : Segment) (ps : List Segment) (q : Segment) → HasPoints e → Before e.a e.b → ArePieces sums room e ps → HasPoints q → On e q.a → On e q.b → ((z : Vector) → IsPoint z → On q z → IsUncovered sums room z) → Any (λ p. On p q.a × On p q.b) ps
maximal sums room e ps q he onward pieces hq oa ob free =
    found ((pieces.exact q.a hq.0 oa).0 (free q.a hq.0 (on (between_first q.a q.b hq.0)))) ((pieces.exact q.b hq.1 ob).0 (free q.b hq.1 (on (between_second q.a q.b hq.1))))
  where
    u : HasWeights e.a e.b q.a
    u = weights_on e.a e.b q.a he.0 he.1 hq.0 oa

    v : HasWeights e.a e.b q.b
    v = weights_on e.a e.b q.b he.0 he.1 hq.1 ob

    found : Any (λ p. On p q.a) ps → Any (λ p. On p q.b) ps → Any (λ p. On p q.a × On p q.b) ps
    found (i, p, hi, isp, ma) (j, n, hj, isn, mb) = ⊎_elim up down (at_most_or_less (fraction_at u.at) (fraction_at v.at))
      where
        up : AtMost (fraction_at u.at) (fraction_at v.at) → Any (λ p. On p q.a × On p q.b) ps
        up le =
            let r : Row sums room e.a e.b ps q = record { a_point = he.0; b_point = he.1; onward = onward; pieces = pieces } in
            ordered r hq u v le free i j hi hj (subst (λ p. On p q.a) (sym (get_or_default ps i q p hi ∙ isp)) ma) (subst (λ p. On p q.b) (sym (get_or_default ps j q n hj ∙ isn)) mb)

        down : Less (fraction_at v.at) (fraction_at u.at) → Any (λ p. On p q.a × On p q.b) ps
        down less =
            let back : Segment = segment q.b q.a in
            let r : Row sums room e.a e.b ps (segment q.b q.a) = record { a_point = he.0; b_point = he.1; onward = onward; pieces = pieces } in
            any_weaker (λ p. On p q.b × On p q.a) (λ p. On p q.a × On p q.b) (λ p h. (h.1, h.0)) ps
            (ordered r (hq.1, hq.0) v u (weak (fraction_at v.at) (fraction_at u.at) less) (λ z hz m. free z hz (on_reversed q.b q.a z m)) j i hj hi
            (subst (λ p. On p q.b) (sym (get_or_default ps j (segment q.b q.a) n hj ∙ isn)) mb) (subst (λ p. On p q.a) (sym (get_or_default ps i (segment q.b q.a) p hi ∙ isp)) ma))
