-- Where each leg of a list of points is safe, each leg is that is left when repeats are dropped: it is one of the legs, from another triple of its first end.
use Rattle.std.proofs.Common.{◌≡◌, inl, inr, ◌*ℤ◌, Bool, true, false, List, [], ◌∷◌, All, if◌then◌else◌, refl, ap, ◌∙◌, arith}
use Rattle.std.proofs.lemmas.List.Elements.{All-head, All-tail, All-nil, All-cons, All-contains}
use Rattle.plan_exact.specs.Expr.{◌⊗◌}
use Rattle.plan_exact.specs.Vectors.{sum, scaled, env}
use Rattle.plan_exact.specs.Formal as F
use Rattle.plan_exact.specs.Formal.{A, B, J, K, L}
use Rattle.plan_exact.proofs.Laws.{linear, mul_comm}
use Rattle.plan_exact.proofs.RingVectors.{ring_vectors, vector_path}
use Rattle.plan_exact.proofs.Signs.{mul_pos, mul_nonneg, le_of_lt}
use Rattle.plan_spec.specs.Vector.{Vector, IsPoint, Same, same}
use Rattle.plan_spec.specs.Segment.{Segment, segment, HasPoints}
use Rattle.plan_spec.specs.Placement.{Scene, IsClear}
use Rattle.plan_spec.specs.Route.{segments_from, OnRoute, EndsAt, IsClearPolyline}
use Rattle.plan_spec.specs.Paths.{without_repeats}
use Rattle.plan_plane.proofs.Polygon.Edges.{ends_of_segments}
use Rattle.plan_plane.proofs.Segment.Between.{Between, between, between_same, swapped}
use Rattle.plan_plane.proofs.Segment.Same.{same_true, Same-trans}

-- each point of the segment has P, and each triple of the point
abbrev pub Safe : (Vector → Type 0) → Segment → Type 0
Safe P s = (z : Vector) → IsPoint z → Between s.a s.b z → P z

abbrev SafePoint : (Vector → Type 0) → Vector → Type 0
SafePoint P p = (z : Vector) → IsPoint z → Same p z → P z

-- ---- the first end at another triple
other_triple : (p q r z : Vector) → IsPoint p → IsPoint q → Same p q → Between p r z → Between q r z
other_triple p q r z hp hq (ex, ey) b = record {
  scale = q.w *ℤ b.scale;
  first = b.first *ℤ p.w;
  second = q.w *ℤ b.second;
  scale_positive = mul_pos hq b.scale_positive;
  first_nonneg = mul_nonneg b.first_nonneg (le_of_lt hp);
  second_nonneg = mul_nonneg (le_of_lt hq) b.second_nonneg;
  is_sum =
      ring_vectors (env (q.w ∷ b.scale ∷ []) (z ∷ [])) (F.scaled (J ⊗ K) A) (F.scaled J (F.scaled K A)) tt
      ∙ ap (scaled q.w) b.is_sum
      ∙ ring_vectors (env (q.w ∷ b.first ∷ b.second ∷ []) (p ∷ r ∷ [])) (F.scaled J (F.sum (F.scaled K A) (F.scaled L B))) (F.sum (F.scaled K (F.scaled J A)) (F.scaled (J ⊗ L) B)) tt
      ∙ ap (λ v. sum (scaled b.first v) (scaled (q.w *ℤ b.second) r)) moved
      ∙ ring_vectors (env (b.first ∷ p.w ∷ (q.w *ℤ b.second) ∷ []) (q ∷ r ∷ [])) (F.sum (F.scaled J (F.scaled K A)) (F.scaled L B)) (F.sum (F.scaled (J ⊗ K) A) (F.scaled L B)) tt;
}
  where
    moved : scaled q.w p ≡ scaled p.w q
    moved = vector_path (omega (arith, linear, mul_comm q.w p.x, mul_comm p.w q.x)) (omega (arith, linear, mul_comm q.w p.y, mul_comm p.w q.y)) (mul_comm q.w p.w)

-- ---- what is left
-- either the next point is dropped, or it stays
left_of : (Q : List Vector → Type 0) (p q : Vector) (qs : List Vector) → (Same p q → Q (without_repeats p qs)) → Q (q ∷ without_repeats q qs) → Q (without_repeats p (q ∷ qs))
left_of Q p q qs drop keep = by (same p q) (λ e. drop (same_true p q e))
  where
    by : (t : Bool) → (t ≡ true → Q (without_repeats p qs)) → Q (if t then without_repeats p qs else q ∷ without_repeats q qs)
    by true h = h refl
    by false h = keep

all_left : (P : Vector → Type 0) (p : Vector) (qs : List Vector) → All P qs → All P (without_repeats p qs)
all_left P p [] h = All-nil P
all_left P p (q ∷ qs) h = let later = All-tail P q qs h in left_of (All P) p q qs (λ e. all_left P p qs later) (All-cons P q _ (All-head P q qs h) (all_left P q qs later))

safe_left : (P : Vector → Type 0) (p : Vector) (qs : List Vector) → IsPoint p → All IsPoint qs → All (Safe P) (segments_from p qs) → All (Safe P) (segments_from p (without_repeats p qs))
safe_left P p [] hp hs safe = All-nil (Safe P)
safe_left P p (q ∷ qs) hp hs safe =
    left_of (λ rs. All (Safe P) (segments_from p rs)) p q qs (λ e. safe_left P p qs hp hqs (moved qs rest e))
    (All-cons (Safe P) (segment p q) (segments_from q (without_repeats q qs)) (All-head (Safe P) (segment p q) (segments_from q qs) safe) (safe_left P q qs hq hqs rest))
  where
    hq : IsPoint q
    hq = All-head IsPoint q qs hs

    hqs : All IsPoint qs
    hqs = All-tail IsPoint q qs hs

    rest : All (Safe P) (segments_from q qs)
    rest = All-tail (Safe P) (segment p q) (segments_from q qs) safe

    moved : (rs : List Vector) → All (Safe P) (segments_from q rs) → Same p q → All (Safe P) (segments_from p rs)
    moved [] s e = All-nil (Safe P)
    moved (r ∷ rs) s e = All-cons (Safe P) (segment p r) (segments_from r rs) (λ z hz b. All-head (Safe P) (segment q r) (segments_from r rs) s z hz (other_triple p q r z hp hq e b)) (All-tail (Safe P) (segment q r) (segments_from r rs) s)

ends_left : (g p : Vector) (qs : List Vector) → IsPoint p → All IsPoint qs → EndsAt g (p ∷ qs) → EndsAt g (p ∷ without_repeats p qs)
ends_left g p [] hp hs e = e
ends_left g p (q ∷ qs) hp hs e = left_of (λ rs. EndsAt g (p ∷ rs)) p q qs (λ f. ends_left g p qs hp hqs (moved qs e f)) (ends_left g q qs hq hqs e)
  where
    hq : IsPoint q
    hq = All-head IsPoint q qs hs

    hqs : All IsPoint qs
    hqs = All-tail IsPoint q qs hs

    moved : (rs : List Vector) → EndsAt g (q ∷ rs) → Same p q → EndsAt g (p ∷ rs)
    moved [] e f = Same-trans p q g hq f e
    moved (r ∷ rs) e f = e

-- ---- points begin or end a leg
points_safe : (P : Vector → Type 0) (p : Vector) (qs : List Vector) → All IsPoint qs → SafePoint P p → All (Safe P) (segments_from p qs) → All (SafePoint P) (p ∷ qs)
points_safe P p [] hs first safe = All-cons (SafePoint P) p [] first (All-nil (SafePoint P))
points_safe P p (q ∷ qs) hs first safe =
    All-cons (SafePoint P) p (q ∷ qs) first
    (points_safe P q qs (All-tail IsPoint q qs hs) (λ z hz e. All-head (Safe P) (segment p q) (segments_from q qs) safe z hz (swapped (between_same q p z (All-head IsPoint q qs hs) hz e))) (All-tail (Safe P) (segment p q) (segments_from q qs) safe))

-- a list of points from s to g, each leg safe, with its repeats dropped
pub clear_polyline : (scene : Scene) (s g : Vector) (qs : List Vector) → IsPoint s → All IsPoint qs → ((z : Vector) → IsPoint z → Same s z → IsClear scene z) → EndsAt g (s ∷ qs) → All (Safe (IsClear scene)) (segments_from s qs) → IsClearPolyline scene s g (s ∷ without_repeats s qs)
clear_polyline scene s g qs hs hqs first ends safe = record {
  is_route = record { points = All-cons IsPoint s left hs hleft; starts = (refl, refl); ends = ends_left g s qs hs hqs ends };
  is_clear = clear;
}
  where
    P : Vector → Type 0
    P = IsClear scene

    left : List Vector
    left = without_repeats s qs

    hleft : All IsPoint (without_repeats s qs)
    hleft = all_left IsPoint s qs hqs

    clear : (z : Vector) → IsPoint z → OnRoute (s ∷ without_repeats s qs) z → IsClear scene z
    clear z hz (inl (k, p, within, e, h)) =
        let all = points_safe P s qs hqs first safe in
        All-contains (SafePoint P) (s ∷ left) p (All-cons (SafePoint P) s left first (all_left (SafePoint P) s qs (All-tail (SafePoint P) s qs all))) (k, within, e) z hz h
    clear z hz (inr (k, l, within, e, h)) =
        let pts = All-contains HasPoints (segments_from s left) l (ends_of_segments IsPoint s left hs hleft) (k, within, e) in
        All-contains (Safe P) (segments_from s left) l (safe_left P s qs hs hqs safe) (k, within, e) z hz (between l.a l.b z pts.0 pts.1 hz h)
