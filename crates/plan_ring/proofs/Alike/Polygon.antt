-- Two strictly convex polygons that hold the same points are alike: both begin at the least vertex, and behind a vertex the next one is that to whose line all others are strictly left.
use Rattle.std.proofs.Common.{◌≡◌, ◌⊎◌, inl, inr, ⊎_elim, suc, ◌<◌, ◌≤◌, pos, ◌<ℤ◌, List, [], ◌∷◌, length, get_or, All, Any, Contains, sym, subst, eq-or-lt_of_le, arith}
use Rattle.std.proofs.lemmas.List.Elements.{All-contains, All-contains_itself, All-head, All-tail}
use Rattle.plan_exact.specs.Vectors.{cross}
use Rattle.plan_exact.proofs.Laws.{linear}
use Rattle.plan_exact.proofs.Vectors.{det_turned, det_swapped_right}
use Rattle.plan_spec.specs.Vector.{Vector, IsPoint, Same, Before, turn}
use Rattle.plan_spec.specs.Segment.{Segment, segment}
use Rattle.plan_spec.specs.Polygon.{EndOrLeft, edges, edges_to}
use Rattle.plan_plane.proofs.Lists.{any_cases, any_with}
use Rattle.plan_plane.proofs.Boundary.Sum.{IsSum, EdgeOf, edge_of, vertex_side}
use Rattle.plan_plane.proofs.Polygon.Numbered.{length_edges, edge_next, edge_last}
use Rattle.plan_plane.proofs.Rising.ByPoint.{order_before, before_once}
use Rattle.plan_plane.proofs.Segment.Same.{Same-swapped, Same-trans}
use Rattle.plan_plane.proofs.Segment.SameSign.{pos_same}
use Rattle.plan_ring.specs.Alike.{AlikePoints}
use Rattle.plan_ring.proofs.Alike.Vertices.{HoldAlike, apart, vertices_alike}

-- ---- the side of a line, by positions
pub left_alike : (a b z c d u : Vector) → IsPoint a → IsPoint b → IsPoint z → IsPoint c → IsPoint d → IsPoint u → Same a c → Same b d → Same z u → pos 0 <ℤ turn a b z → pos 0 <ℤ turn c d u
left_alike a b z c d u ha hb hz hc hd hu e f g h =
    let one : pos 0 <ℤ turn b z c = pos_same (cross b z) a c ha hc e (omega (arith, linear, det_turned a b z)) in
    let two : pos 0 <ℤ turn z c d = pos_same (cross z c) b d hb hd f (omega (arith, linear, det_turned b z c)) in
    pos_same (cross c d) z u hz hu g (omega (arith, linear, det_turned z c d))

-- ---- an edge has two ends
pub ends_apart : (vs : List Vector) → IsSum vs → All (λ s. ¬ (Same s.a s.b)) (edges vs)
ends_apart vs sum k s within = by (eq-or-lt_of_le below)
  where
    d : Vector
    d = s.a

    below : suc k ≤ length vs
    below = omega (arith, within, length_edges vs)

    by : (suc k ≡ length vs) ⊎ (suc k < length vs) → ¬ (Same (get_or (edges vs) k s).a (get_or (edges vs) k s).b)
    by (inl last) = let long = sum.long in subst (λ s. ¬ (Same s.a s.b)) (sym (edge_last vs k s d last)) (apart vs sum.convex.distinct k 0 d (omega (arith, last)) (omega (arith, last)) (λ e. omega (arith, last, long, e)))
    by (inr next) = subst (λ s. ¬ (Same s.a s.b)) (sym (edge_next vs k s d next)) (sum.convex.distinct k (suc k) d (omega arith) next)

-- ---- two polygons with the same vertices
pub record AreTwins (vs ws : List Vector) : Type 0 where
  pub one : IsSum vs
  pub other : IsSum ws
  pub into : All (λ v. Any (Same v) ws) vs
  pub back : All (λ w. Any (Same w) vs) ws

module _ {vs ws : List Vector} (twins : AreTwins vs ws) where
  -- where two edges begin alike, they end alike
  next_alike : (s t : Segment) → Contains (edges vs) s → Contains (edges ws) t → Same s.a t.a → Same s.b t.b
  next_alike s t hs ht e = with_vertices (All-contains (λ v. Any (Same v) ws) vs s.b twins.into x.b_in) (All-contains (λ w. Any (Same w) vs) ws t.b twins.back y.b_in)
    where
      x : EdgeOf vs s
      x = edge_of vs s twins.one hs

      y : EdgeOf ws t
      y = edge_of ws t twins.other ht

      s_apart : ¬ (Same s.a s.b)
      s_apart = All-contains (λ s. ¬ (Same s.a s.b)) (edges vs) s (ends_apart vs twins.one) hs

      t_apart : ¬ (Same t.a t.b)
      t_apart = All-contains (λ s. ¬ (Same s.a s.b)) (edges ws) t (ends_apart ws twins.other) ht

      by : (w v : Vector) → IsPoint w → IsPoint v → Same s.b w → Same t.b v → EndOrLeft t w → EndOrLeft s v → Same s.b t.b
      by w v hw hv f g (inl start) side = absurd (s_apart (Same-trans s.a t.a s.b y.a_point e (Same-trans t.a w s.b hw (Same-swapped w t.a start) (Same-swapped s.b w f))))
      by w v hw hv f g (inr (inl end)) side = Same-trans s.b w t.b hw f end
      by w v hw hv f g (inr (inr left)) (inl start) = absurd (t_apart (Same-trans t.a s.a t.b x.a_point (Same-swapped s.a t.a e) (Same-trans s.a v t.b hv (Same-swapped v s.a start) (Same-swapped t.b v g))))
      by w v hw hv f g (inr (inr left)) (inr (inl end)) = Same-swapped t.b s.b (Same-trans t.b v s.b hv g end)
      by w v hw hv f g (inr (inr left)) (inr (inr right)) =
          absurd (omega (arith, linear, left, left_alike s.a s.b v t.a w t.b x.a_point x.b_point hv y.a_point hw y.b_point e f (Same-swapped t.b v g) right, det_swapped_right t.a t.b w))

      with_vertices : Any (Same s.b) ws → Any (Same t.b) vs → Same s.b t.b
      with_vertices (i, w, hi, is_w, f) (j, v, hj, is_v, g) =
          by w v (All-contains IsPoint ws w twins.other.points (i, hi, is_w)) (All-contains IsPoint vs v twins.one.points (j, hj, is_v)) f g
          (vertex_side w y (i, hi, is_w)) (vertex_side v x (j, hj, is_v))

  -- so they go on alike, as far as both go
  walked : (f g : Vector) → IsPoint f → IsPoint g → Same f g → (x : Vector) (xs : List Vector) (y : Vector) (ys : List Vector) → Same x y → All (Contains (edges vs)) (edges_to f (x ∷ xs)) → All (Contains (edges ws)) (edges_to g (y ∷ ys))
      → All (λ v. ¬ (Same f v)) xs → All (λ w. ¬ (Same g w)) ys → AlikePoints (x ∷ xs) (y ∷ ys)
  walked f g hf hg e x [] y [] h es fs none_f none_g = (h, tt)
  walked f g hf hg e x [] y (b ∷ ys) h es fs none_f none_g =
      let n = next_alike (segment x f) (segment y b) (es 0 (segment x f) (omega arith)) (fs 0 (segment y b) (omega arith)) h in
      absurd (none_g 0 b (omega arith) (Same-trans g f b hf (Same-swapped f g e) n))
  walked f g hf hg e x (a ∷ xs) y [] h es fs none_f none_g =
      let n = next_alike (segment x a) (segment y g) (es 0 (segment x a) (omega arith)) (fs 0 (segment y g) (omega arith)) h in
      absurd (none_f 0 a (omega arith) (Same-trans f g a hg e (Same-swapped a g n)))
  walked f g hf hg e x (a ∷ xs) y (b ∷ ys) h es fs none_f none_g =
      let n = next_alike (segment x a) (segment y b) (es 0 (segment x a) (omega arith)) (fs 0 (segment y b) (omega arith)) h in
      (h, walked f g hf hg e a xs b ys n (λ k d within. es (suc k) d (omega arith)) (λ k d within. fs (suc k) d (omega arith)) (λ k d within. none_f (suc k) d (omega arith)) (λ k d within. none_g (suc k) d (omega arith)))

-- ---- both begin at the least vertex
-- a vertex that is one of those behind y comes behind y
behind : (x y : Vector) (ys : List Vector) → IsPoint x → IsPoint y → All IsPoint ys → All (Before y) ys → Any (Same x) ys → Before y x
behind x y ys hx hy hs after some =
    let m = any_with (λ z. IsPoint z × Before y z) (Same x) (λ z. Before y x) (λ z h e. order_before.less_equal y z x hy h.0 hx h.1 (Same-swapped x z e)) ys (λ k d within. (hs k d within, after k d within)) some in
    m.4

twins_alike : (vs ws : List Vector) → AreTwins vs ws → AlikePoints vs ws
twins_alike [] ws twins = let long = twins.one.long in absurd (omega (arith, long))
twins_alike (x ∷ xs) [] twins = let long = twins.other.long in absurd (omega (arith, long))
twins_alike (x ∷ xs) (y ∷ ys) twins =
    walked twins x y hx hy first x xs y ys first (All-contains_itself (edges (x ∷ xs))) (All-contains_itself (edges (y ∷ ys)))
    (λ k d within. twins.one.convex.distinct 0 (suc k) d (omega arith) (omega arith)) (λ k d within. twins.other.convex.distinct 0 (suc k) d (omega arith) (omega arith))
  where
    hx : IsPoint x
    hx = All-head IsPoint x xs twins.one.points

    hy : IsPoint y
    hy = All-head IsPoint y ys twins.other.points

    first : Same x y
    first =
        ⊎_elim (λ e. e) (λ some. ⊎_elim (λ e. Same-swapped y x e) (λ more. absurd (before_once x y
        (behind y x xs hy hx (All-tail IsPoint x xs twins.one.points) twins.one.convex.least more)
        (behind x y ys hx hy (All-tail IsPoint y ys twins.other.points) twins.other.convex.least some)))
        (any_cases (Same y) x xs (All-head (λ w. Any (Same w) (x ∷ xs)) y ys twins.back)))
        (any_cases (Same x) y ys (All-head (λ v. Any (Same v) (y ∷ ys)) x xs twins.into))

pub polygons_alike : (vs ws : List Vector) → IsSum vs → IsSum ws → HoldAlike vs ws → HoldAlike ws vs → AlikePoints vs ws
polygons_alike vs ws sum other into back = twins_alike vs ws (record {
  one = sum;
  other = other;
  into = vertices_alike vs ws sum other into back;
  back = vertices_alike ws vs other sum back into;
})
