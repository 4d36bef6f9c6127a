-- A point that a sum holds and that is in line with an edge is on that edge: it is a combination of vertices, and those that are not on the line have no part in it.
use Rattle.std.proofs.Common.{◌≡◌, inl, inr, ℤ, pos, ◌+ℤ◌, ◌*ℤ◌, ◌≤ℤ◌, ◌<ℤ◌, List, [], ◌∷◌, length, ◌≤◌, All, Contains, sym, ap, ap₂, ◌∙◌, subst, arith}
use Rattle.std.proofs.lemmas.List.Elements.{All-contains, All-contains_itself, All-head, All-tail, All-nil, All-cons}
use Rattle.plan_exact.specs.Expr.{con, ◌⊕◌, ◌⊗◌}
use Rattle.plan_exact.specs.Vectors.{sum, scaled, cross, env}
use Rattle.plan_exact.specs.Formal as F
use Rattle.plan_exact.specs.Formal.{A, B, C, D, J, K, L, M, N}
use Rattle.plan_exact.proofs.Laws.{linear, mul_comm}
use Rattle.plan_exact.proofs.RingVectors.{ring_vectors}
use Rattle.plan_exact.proofs.Signs.{signs, mul_nonneg, zero_of_mul, mul_of_zero}
use Rattle.plan_spec.specs.Vector.{Vector, IsPoint, turn}
use Rattle.plan_spec.specs.Segment.{Segment, On, segment}
use Rattle.plan_spec.specs.Polygon.{OnOrLeft, Inside, EndOrLeft, IsConvex, edges, edges_to}
use Rattle.plan_plane.proofs.Polygon.Fan.{Triangle, fan}
use Rattle.plan_plane.proofs.Polygon.Holding.{vertices_inside}
use Rattle.plan_plane.proofs.Polygon.Triangle as T
use Rattle.plan_plane.proofs.Polygon.Triangle.{Among, among}
use Rattle.plan_plane.proofs.Segment.Between.{Between, between_same, swapped, on}
use Rattle.plan_plane.proofs.Segment.Same.{Same-swapped}

-- the polygon of a sum: strictly convex, counterclockwise, with three vertices at least
pub record IsSum (vs : List Vector) : Type 0 where
  pub points : All IsPoint vs
  pub convex : IsConvex vs
  pub long : 3 ≤ length vs

-- ---- combinations of combinations
-- k v is a combination of p and q, up to a positive factor
record Share (p q : Vector) (k : ℤ) (v : Vector) : Type 0 where
  scale : ℤ
  first : ℤ
  second : ℤ
  scale_positive : pos 0 <ℤ scale
  first_nonneg : pos 0 ≤ℤ first
  second_nonneg : pos 0 ≤ℤ second
  is_sum : scaled (scale *ℤ k) v ≡ sum (scaled first p) (scaled second q)

no_share : (p q v : Vector) (k : ℤ) → k ≡ pos 0 → Share p q k v
no_share p q v k e = record {
  scale = pos 1;
  first = pos 0;
  second = pos 0;
  scale_positive = omega (arith, linear);
  first_nonneg = omega (arith, linear);
  second_nonneg = omega (arith, linear);
  is_sum = subst (λ k. scaled (pos 1 *ℤ k) v ≡ sum (scaled (pos 0) p) (scaled (pos 0) q)) (sym e) (ring_vectors (env [] (v ∷ p ∷ q ∷ [])) (F.scaled (con (pos 1) ⊗ con (pos 0)) A) (F.sum (F.scaled F.zero B) (F.scaled F.zero C)) tt);
}

share_between : {p q v : Vector} (k : ℤ) → pos 0 ≤ℤ k → Between p q v → Share p q k v
share_between {p} {q} {v} k hk b = record {
  scale = b.scale;
  first = k *ℤ b.first;
  second = k *ℤ b.second;
  scale_positive = b.scale_positive;
  first_nonneg = mul_nonneg hk b.first_nonneg;
  second_nonneg = mul_nonneg hk b.second_nonneg;
  is_sum = ring_vectors (env (b.scale ∷ k ∷ []) (v ∷ [])) (F.scaled (J ⊗ K) A) (F.scaled K (F.scaled J A)) tt
      ∙ ap (scaled k) b.is_sum
      ∙ ring_vectors (env (k ∷ b.first ∷ b.second ∷ []) (p ∷ q ∷ [])) (F.scaled J (F.sum (F.scaled K A) (F.scaled L B))) (F.sum (F.scaled (J ⊗ K) A) (F.scaled (J ⊗ L) B)) tt;
}

gathered_sum : (p q a b c z : Vector) (m i j k r s t f g f2 g2 f3 g3 : ℤ) → scaled m z ≡ sum (sum (scaled i a) (scaled j b)) (scaled k c)
    → scaled (r *ℤ i) a ≡ sum (scaled f p) (scaled g q) → scaled (s *ℤ j) b ≡ sum (scaled f2 p) (scaled g2 q) → scaled (t *ℤ k) c ≡ sum (scaled f3 p) (scaled g3 q)
    → scaled ((r *ℤ s *ℤ t) *ℤ m) z ≡ sum (scaled ((s *ℤ t) *ℤ f +ℤ (r *ℤ t) *ℤ f2 +ℤ (r *ℤ s) *ℤ f3) p) (scaled ((s *ℤ t) *ℤ g +ℤ (r *ℤ t) *ℤ g2 +ℤ (r *ℤ s) *ℤ g3) q)
gathered_sum p q a b c z m i j k r s t f g f2 g2 f3 g3 e ea eb ec =
    ring_vectors (env (r ∷ s ∷ t ∷ m ∷ []) (z ∷ [])) (F.scaled ((J ⊗ K ⊗ L) ⊗ M) A) (F.scaled (J ⊗ K ⊗ L) (F.scaled M A)) tt
    ∙ ap (scaled (r *ℤ s *ℤ t)) e
    ∙ ring_vectors (env (r ∷ s ∷ t ∷ i ∷ j ∷ k ∷ []) (a ∷ b ∷ c ∷ []))
    (F.scaled (J ⊗ K ⊗ L) (F.sum (F.sum (F.scaled M A) (F.scaled N B)) (F.scaled (F.number 5) C)))
    (F.sum (F.sum (F.scaled (K ⊗ L) (F.scaled (J ⊗ M) A)) (F.scaled (J ⊗ L) (F.scaled (K ⊗ N) B))) (F.scaled (J ⊗ K) (F.scaled (L ⊗ F.number 5) C))) tt
    ∙ ap₂ (λ u v. sum (sum (scaled (s *ℤ t) u) (scaled (r *ℤ t) v)) (scaled (r *ℤ s) (scaled (t *ℤ k) c))) ea eb
    ∙ ap (λ u. sum (sum (scaled (s *ℤ t) (sum (scaled f p) (scaled g q))) (scaled (r *ℤ t) (sum (scaled f2 p) (scaled g2 q)))) (scaled (r *ℤ s) u)) ec
    ∙ ring_vectors (env (r ∷ s ∷ t ∷ f ∷ g ∷ f2 ∷ g2 ∷ f3 ∷ g3 ∷ []) (p ∷ q ∷ []))
    (F.sum (F.sum (F.scaled (K ⊗ L) (F.sum (F.scaled M A) (F.scaled N B))) (F.scaled (J ⊗ L) (F.sum (F.scaled (F.number 5) A) (F.scaled (F.number 6) B)))) (F.scaled (J ⊗ K) (F.sum (F.scaled (F.number 7) A) (F.scaled (F.number 8) B))))
    (F.sum (F.scaled ((K ⊗ L) ⊗ M ⊕ (J ⊗ L) ⊗ F.number 5 ⊕ (J ⊗ K) ⊗ F.number 7) A) (F.scaled ((K ⊗ L) ⊗ N ⊕ (J ⊗ L) ⊗ F.number 6 ⊕ (J ⊗ K) ⊗ F.number 8) B)) tt

gathered : {p q a b c z : Vector} (m : Among a b c z) → Share p q m.first a → Share p q m.second b → Share p q m.third c → Between p q z
gathered {p} {q} {a} {b} {c} {z} m u v w =
    let hm = m.scale_positive in
    let hr = u.scale_positive in
    let hs = v.scale_positive in
    let ht = w.scale_positive in
    let hf = u.first_nonneg in
    let hg = u.second_nonneg in
    let hf2 = v.first_nonneg in
    let hg2 = v.second_nonneg in
    let hf3 = w.first_nonneg in
    let hg3 = w.second_nonneg in
    record {
      scale = (u.scale *ℤ v.scale *ℤ w.scale) *ℤ m.scale;
      first = (v.scale *ℤ w.scale) *ℤ u.first +ℤ (u.scale *ℤ w.scale) *ℤ v.first +ℤ (u.scale *ℤ v.scale) *ℤ w.first;
      second = (v.scale *ℤ w.scale) *ℤ u.second +ℤ (u.scale *ℤ w.scale) *ℤ v.second +ℤ (u.scale *ℤ v.scale) *ℤ w.second;
      scale_positive = search signs;
      first_nonneg = search signs;
      second_nonneg = search signs;
      is_sum = gathered_sum p q a b c z m.scale m.first m.second m.third u.scale v.scale w.scale u.first u.second v.first v.second w.first w.second m.is_sum u.is_sum v.is_sum w.is_sum;
    }

-- ---- the ends of an edge are vertices
abbrev pub HasEnds : List Vector → Segment → Type 0
HasEnds vs s = Contains vs s.a × Contains vs s.b

ends_to : (whole : List Vector) (first : Vector) (vs : List Vector) → Contains whole first → All (Contains whole) vs → All (HasEnds whole) (edges_to first vs)
ends_to whole first [] hf h = All-nil (HasEnds whole)
ends_to whole first (a ∷ []) hf h = All-cons (HasEnds whole) (segment a first) [] (All-head (Contains whole) a [] h, hf) (All-nil (HasEnds whole))
ends_to whole first (a ∷ (b ∷ vs)) hf h =
    let rest = All-tail (Contains whole) a (b ∷ vs) h in
    All-cons (HasEnds whole) (segment a b) (edges_to first (b ∷ vs)) (All-head (Contains whole) a (b ∷ vs) h, All-head (Contains whole) b vs rest) (ends_to whole first (b ∷ vs) hf rest)

pub ends : (vs : List Vector) → All (HasEnds vs) (edges vs)
ends [] = All-nil (HasEnds [])
ends (a ∷ vs) = let all = All-contains_itself (a ∷ vs) in ends_to (a ∷ vs) a (a ∷ vs) (All-head (Contains (a ∷ vs)) a vs all) all

-- what a sum's edge and a vertex of it have
pub record EdgeOf (vs : List Vector) (s : Segment) : Type 0 where
  pub sum : IsSum vs
  pub is_edge : Contains (edges vs) s
  pub a_in : Contains vs s.a
  pub b_in : Contains vs s.b
  pub a_point : IsPoint s.a
  pub b_point : IsPoint s.b

pub edge_of : (vs : List Vector) (s : Segment) → IsSum vs → Contains (edges vs) s → EdgeOf vs s
edge_of vs s h is =
    let e = All-contains (HasEnds vs) (edges vs) s (ends vs) is in
    record {
      sum = h;
      is_edge = is;
      a_in = e.0;
      b_in = e.1;
      a_point = All-contains IsPoint vs s.a h.points e.0;
      b_point = All-contains IsPoint vs s.b h.points e.1;
    }

-- a vertex is on or left of the edge; strictly left, unless an end
pub vertex_side : {vs : List Vector} {s : Segment} (v : Vector) → EdgeOf vs s → Contains vs v → EndOrLeft s v
vertex_side {vs} {s} v e has = All-contains (EndOrLeft s) vs v (All-contains (λ s. All (EndOrLeft s) vs) (edges vs) s e.sum.convex.left e.is_edge) has

pub vertex_held : {vs : List Vector} {s : Segment} (v : Vector) → EdgeOf vs s → Contains vs v → pos 0 ≤ℤ turn s.a s.b v
vertex_held {vs} {s} v e has = All-contains (OnOrLeft v) (edges vs) s (All-contains (Inside vs) vs v (vertices_inside vs e.sum.convex.left e.sum.points) has) e.is_edge

-- ---- in line with an edge
end_share : {vs : List Vector} {s : Segment} (v : Vector) (k : ℤ) → EdgeOf vs s → Contains vs v → pos 0 ≤ℤ k → k *ℤ turn s.a s.b v ≡ pos 0 → EndOrLeft s v → Share s.a s.b k v
end_share {vs} {s} v k e has hk level (inl same) = share_between k hk (between_same s.a s.b v e.a_point (All-contains IsPoint vs v e.sum.points has) (Same-swapped v s.a same))
end_share {vs} {s} v k e has hk level (inr (inl same)) = share_between k hk (swapped (between_same s.b s.a v e.b_point (All-contains IsPoint vs v e.sum.points has) (Same-swapped v s.b same)))
end_share {vs} {s} v k e has hk level (inr (inr left)) = no_share s.a s.b v k (zero_of_mul (turn s.a s.b v) k left (mul_comm (turn s.a s.b v) k ∙ level))

pub on_edge : {vs : List Vector} {s : Segment} (z : Vector) → EdgeOf vs s → Inside vs z → turn s.a s.b z ≡ pos 0 → On s z
on_edge {vs} {s} z e inside level = on (gathered m (share t.a m.first t.a_has m.first_nonneg za) (share t.b m.second t.b_has m.second_nonneg zb) (share t.c m.third t.c_has m.third_nonneg zc))
  where
    t : Triangle (Contains vs) z
    t = fan vs z e.sum.convex e.sum.long inside

    m : Among t.a t.b t.c z
    m = among t.a t.b t.c z t.turns_left t.inside

    share : (v : Vector) (k : ℤ) → Contains vs v → pos 0 ≤ℤ k → k *ℤ turn s.a s.b v ≡ pos 0 → Share s.a s.b k v
    share v k has hk level = end_share v k e has hk level (vertex_side v e has)

    at : m.scale *ℤ turn s.a s.b z ≡ m.first *ℤ turn s.a s.b t.a +ℤ m.second *ℤ turn s.a s.b t.b +ℤ m.third *ℤ turn s.a s.b t.c
    at = T.dot_among m (cross s.a s.b)

    first : pos 0 ≤ℤ (m.first *ℤ turn s.a s.b t.a)
    first = mul_nonneg m.first_nonneg (vertex_held t.a e t.a_has)

    second : pos 0 ≤ℤ (m.second *ℤ turn s.a s.b t.b)
    second = mul_nonneg m.second_nonneg (vertex_held t.b e t.b_has)

    third : pos 0 ≤ℤ (m.third *ℤ turn s.a s.b t.c)
    third = mul_nonneg m.third_nonneg (vertex_held t.c e t.c_has)

    za : m.first *ℤ turn s.a s.b t.a ≡ pos 0
    za = omega (arith, linear, at, first, second, third, mul_of_zero m.scale (turn s.a s.b z) level)

    zb : m.second *ℤ turn s.a s.b t.b ≡ pos 0
    zb = omega (arith, linear, at, first, second, third, mul_of_zero m.scale (turn s.a s.b z) level)

    zc : m.third *ℤ turn s.a s.b t.c ≡ pos 0
    zc = omega (arith, linear, at, first, second, third, mul_of_zero m.scale (turn s.a s.b z) level)
