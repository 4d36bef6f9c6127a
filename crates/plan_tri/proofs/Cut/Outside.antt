-- Vertices and edges that have no point of a polygon, as soon as one point beside them has none.
use Rattle.std.proofs.Common.{List, Any, ◌≡◌, pos, ◌≤ℤ◌, arith, ◌<ℤ◌, ℕ, ◌<◌, length, get_or, sym, [], ◌∷◌, All, refl, ◌∙◌, inl, inr, false, Contains, subst, ◌⊎◌, Bool, true, ◌++◌}
use Rattle.std.proofs.lemmas.Bool.{true≢false}
use Rattle.std.proofs.lemmas.List.{get_or_default}
use Rattle.std.proofs.lemmas.List.Elements.{All-nil, All-cons, All-head, All-tail, All-weaker, All-contains}
use Rattle.std.specs.Prelude.{List}
use Rattle.plan_exact.specs.Sign.{Order, is_less, is_equal, is_greater}
use Rattle.plan_exact.specs.Vectors.{dot}
use Rattle.plan_exact.proofs.Laws.{linear}
use Rattle.plan_exact.proofs.Signs.{order_of, le_of_lt, le_of_eq}
use Rattle.plan_exact.proofs.Vectors.{det_swapped}
use Rattle.plan_spec.specs.Chain.{IsClosed}
use Rattle.plan_spec.specs.Parity.{parity}
use Rattle.plan_spec.specs.Polygon.{edges}
use Rattle.plan_spec.specs.Route.{segments_from}
use Rattle.plan_spec.specs.Segment.{Segment, On, segment, Misses, HasPoints}
use Rattle.plan_spec.specs.SimplePolygon.{InPolygon}
use Rattle.plan_spec.specs.Vector.{Vector, IsPoint, Same, same}
use Rattle.plan_plane.proofs.Segment.SameSign.{zero_same}
use Rattle.plan_plane.proofs.Segment.Facing.{facing, facing_from, facing_to, facing_zero}
use Rattle.plan_plane.proofs.Polygon.Edges.{ends_of_segments}
use Rattle.plan_plane.proofs.Segment.Between.{Between, between, swapped, on, nonneg_at, pos_at}
use Rattle.plan_plane.proofs.Segment.Part.{between_part}
use Rattle.plan_plane.proofs.Segment.Reversed.{on_reversed}
use Rattle.plan_plane.proofs.Segment.Same.{Same-swapped, on_same, same_true, same_from}
use Rattle.plan_cross.proofs.ParityLaw.Closed.{parity_constant}
use Rattle.plan_cross.proofs.ParityLaw.Position.{parity_same}
use Rattle.plan_poly.proofs.EvenOdd.Chains.{closed}
use Rattle.plan_poly.proofs.Loop.Loop.{MeetRight}

-- no point of the segment but v and x is in the polygon
abbrev pub OutOf : List Vector → Vector → Vector → Segment → Type 0
OutOf vs v x s = (y : Vector) → IsPoint y → On s y → ¬ (Same y v) → ¬ (Same y x) → ¬ (InPolygon vs y)

-- ---- a segment that has points of the chain at one end alone: the way to its other end misses the chain
abbrev pub OnlyAt : List Segment → Vector → Vector → Type 0
OnlyAt chain e o = (c : Vector) → IsPoint c → On (segment e o) c → Any (λ s. On s c) chain → Same c o

pub but_at_one_end : (chain : List Segment) (e o y : Vector) → IsPoint e → IsPoint o → IsPoint y → ¬ (Same o e) → OnlyAt chain e o → On (segment e o) y → ¬ (Same y o) → Misses (segment y e) chain
but_at_one_end chain e o y he ho hy differ only way apart k d within c =
    let m = between e o y he ho hy way in
    let n = between y e c.0 hy he c.1 c.2 in
    let at_o = only c.0 c.1 (on (between_part m (swapped n))) (k, get_or chain k d, within, default_free k d within, c.3) in
    omega (arith, linear, pos_at c.1 n (facing o e) (y_ahead m) (facing_to o e differ), zero_same (facing o e) o c.0 ho (Same-swapped c.0 o at_o) (facing_from o e))
  where
    default_free : (k : ℕ) (d : Segment) → k < length chain → get_or chain k (get_or chain k d) ≡ get_or chain k d
    default_free k d within = get_or_default chain k (get_or chain k d) d within

    y_ahead : Between e o y → pos 0 <ℤ dot (facing o e) y
    y_ahead m = by (order_of (pos 0) (dot (facing o e) y))
      where
        at_least : pos 0 ≤ℤ dot (facing o e) y
        at_least = nonneg_at m (facing o e) (le_of_lt (facing_to o e differ)) (le_of_eq (sym (facing_from o e)))

        by : Order (pos 0) (dot (facing o e) y) → pos 0 <ℤ dot (facing o e) y
        by (is_less h) = h
        by (is_equal z) = absurd (apart (Same-swapped o y (facing_zero o e y differ (omega (arith, linear, way.in_line, det_swapped o e y)) (sym z))))
        by (is_greater h) = absurd (omega (arith, linear, at_least))

-- ---- along a list of points
along : (chain : List Segment) → All HasPoints chain → IsClosed chain → (p : Vector) (ps : List Vector) → IsPoint p → All IsPoint ps → All (λ s. Misses s chain) (segments_from p ps) → All (λ q. parity chain q ≡ parity chain p) (p ∷ ps)
along chain h closed p [] hp hs m = All-cons (λ q. parity chain q ≡ parity chain p) p [] refl (All-nil (λ q. parity chain q ≡ parity chain p))
along chain h closed p (q ∷ qs) hp hs m =
    let hq = All-head IsPoint q qs hs in
    let step = parity_constant chain p q h closed hp hq (All-head (λ s. Misses s chain) (segment p q) (segments_from q qs) m) in
    let rest = along chain h closed q qs hq (All-tail IsPoint q qs hs) (All-tail (λ s. Misses s chain) (segment p q) (segments_from q qs) m) in
    All-cons (λ r. parity chain r ≡ parity chain p) p (q ∷ qs) refl (All-weaker (λ r. parity chain r ≡ parity chain q) (λ r. parity chain r ≡ parity chain p) (λ r e. e ∙ sym step) (q ∷ qs) rest)

-- ---- vertices off a polygon's edges, with segments between them that meet its edges at vertices alone
abbrev pub Off : List Vector → Vector → Type 0
Off vs y = All (λ s. ¬ (On s y)) (edges vs)

pub record Strand (vs : List Vector) (p : Vector) (ps : List Vector) : Type 0 where
  pub edge_points : All HasPoints (edges vs)
  pub points : All IsPoint (p ∷ ps)
  pub off : All (Off vs) (p ∷ ps)
  pub meets : All (λ s. All (MeetRight s) (edges vs)) (segments_from p ps)

strand_misses : (vs : List Vector) (p : Vector) (ps : List Vector) → Strand vs p ps → All (λ s. Misses s (edges vs)) (segments_from p ps)
strand_misses vs p ps t k d within j e below c =
    let s = get_or (segments_from p ps) k d in
    let o = get_or (edges vs) j e in
    let ends = ends_of_segments P p ps (All-head P p ps whole) (All-tail P p ps whole) k d within in
    let h = t.edge_points j e below in
    elim (t.meets k d within j e below c.0 c.1 c.2 c.3).0 [
      | inl same ↦ ends.0.1 j e below (on_same o.a o.b c.0 s.a h.0 h.1 c.1 ends.0.0 same c.3)
      | inr same ↦ ends.1.1 j e below (on_same o.a o.b c.0 s.b h.0 h.1 c.1 ends.1.0 same c.3)
    ]
  where
    P : Vector → Type 0
    P y = IsPoint y × Off vs y

    whole : All P (p ∷ ps)
    whole i f less = (t.points i f less, t.off i f less)

-- one of the vertices is even, so all are
pub outside : (vs : List Vector) (p : Vector) (ps : List Vector) → Strand vs p ps → (e o y : Vector) → Contains (p ∷ ps) e → IsPoint o → IsPoint y → ¬ (Same o e) → OnlyAt (edges vs) e o → On (segment e o) y → ¬ (Same y o) → parity (edges vs) y ≡ false
    → All (λ q. ¬ (InPolygon vs q)) (p ∷ ps)
outside vs p ps t e o y has ho hy differ only way apart even = all
  where
    he : IsPoint e
    he = All-contains IsPoint (p ∷ ps) e t.points has

    even_e : parity (edges vs) e ≡ false
    even_e = sym (parity_constant (edges vs) y e t.edge_points (closed vs) hy he (but_at_one_end (edges vs) e o y he ho hy differ only way apart)) ∙ even

    equal : All (λ q. parity (edges vs) q ≡ parity (edges vs) p) (p ∷ ps)
    equal = along (edges vs) t.edge_points (closed vs) p ps (All-head IsPoint p ps t.points) (All-tail IsPoint p ps t.points) (strand_misses vs p ps t)

    even_p : parity (edges vs) p ≡ false
    even_p = sym (All-contains (λ q. parity (edges vs) q ≡ parity (edges vs) p) (p ∷ ps) e equal has) ∙ even_e

    all : All (λ q. ¬ (InPolygon vs q)) (p ∷ ps)
    all k d within (inl m) = t.off k d within m.0 m.1 m.2 (subst (λ s. On s (get_or (p ∷ ps) k d)) (sym m.3) m.4)
    all k d within (inr odd) = true≢false (sym odd ∙ equal k d within ∙ even_p)

-- ---- edges
pub record OutVertex (vs : List Vector) (y : Vector) : Type 0 where
  pub point : IsPoint y
  pub off : Off vs y
  pub out : ¬ (InPolygon vs y)

pub record AnyVertex (vs : List Vector) (v x y : Vector) : Type 0 where
  pub point : IsPoint y
  pub place : (y ≡ v) ⊎ ((y ≡ x) ⊎ ¬ (InPolygon vs y))

in_polygon_same : (vs : List Vector) (z u : Vector) → All HasPoints (edges vs) → IsPoint z → IsPoint u → Same z u → InPolygon vs z → InPolygon vs u
in_polygon_same vs z u h hz hu e (inl m) =
    let s = m.1 in
    let p = subst HasPoints m.3 (h m.0 m.1 m.2) in
    inl (m.0, m.1, m.2, m.3, on_same s.a s.b z u p.0 p.1 hz hu e m.4)
in_polygon_same vs z u h hz hu e (inr odd) = inr (sym (parity_same (edges vs) z u hz hu e) ∙ odd)

-- from a vertex that is out to another one
pub edge_out : (vs : List Vector) (v x a b : Vector) → All HasPoints (edges vs) → OutVertex vs a → AnyVertex vs v x b → ¬ (Same b a) → All (MeetRight (segment a b)) (edges vs) → OutOf vs v x (segment a b)
edge_out vs v x a b h oa ab differ meets y hy way not_v not_x in_y = by (same y b) refl ab.place
  where
    only : OnlyAt (edges vs) a b
    only c hc k m =
        let s = get_or (edges vs) m.0 m.1 in
        let o = subst (λ s. On s c) (sym m.3) m.4 in
        let p = h m.0 m.1 m.2 in
        elim (meets m.0 m.1 m.2 c hc k o).0 [
          | inl e ↦ absurd (oa.off m.0 m.1 m.2 (on_same s.a s.b c a p.0 p.1 hc oa.point e o))
          | inr e ↦ e
        ]

    at_b : Same y b → (b ≡ v) ⊎ ((b ≡ x) ⊎ ¬ (InPolygon vs b)) → ⊥
    at_b e (inl f) = not_v (subst (Same y) f e)
    at_b e (inr (inl f)) = not_x (subst (Same y) f e)
    at_b e (inr (inr n)) = n (in_polygon_same vs y b h hy ab.point e in_y)

    away : ¬ (Same y b) → InPolygon vs y → ⊥
    away n (inl m) = n (only y hy way m)
    away n (inr odd) = oa.out (inr (sym (parity_constant (edges vs) y a h (closed vs) hy oa.point (but_at_one_end (edges vs) a b y oa.point ab.point hy differ only way n)) ∙ odd))

    by : (t : Bool) → same y b ≡ t → (b ≡ v) ⊎ ((b ≡ x) ⊎ ¬ (InPolygon vs b)) → ⊥
    by true e place = at_b (same_true y b e) place
    by false e place = away (λ s. true≢false (sym (same_from y b s) ∙ e)) in_y

pub edge_out_reversed : (vs : List Vector) (v x a b : Vector) → OutOf vs v x (segment b a) → OutOf vs v x (segment a b)
edge_out_reversed vs v x a b h y hy way = h y hy (on_reversed a b y way)

-- ---- the segments from x over vertices that have P to v
abbrev pub OneOf : (Vector → Type 0) → (Vector → Type 0) → Segment → Type 0
OneOf P Q s = (P s.a × Q s.b) ⊎ (Q s.a × P s.b)

onward : (P Q : Vector → Type 0) → ((y : Vector) → P y → Q y) → (a : Vector) (ys : List Vector) (v : Vector) → P a → All P ys → Q v → All (OneOf P Q) (segments_from a (ys ++ v ∷ []))
onward P Q weaker a [] v pa ps qv = All-cons (OneOf P Q) (segment a v) [] (inl (pa, qv)) (All-nil (OneOf P Q))
onward P Q weaker a (b ∷ ys) v pa ps qv =
    let pb = All-head P b ys ps in
    All-cons (OneOf P Q) (segment a b) (segments_from b (ys ++ v ∷ [])) (inl (pa, weaker b pb)) (onward P Q weaker b ys v pb (All-tail P b ys ps) qv)

pub strand_edges : (P Q : Vector → Type 0) → ((y : Vector) → P y → Q y) → (x b : Vector) (ys : List Vector) (v : Vector) → Q x → All P (b ∷ ys) → Q v → All (OneOf P Q) (segments_from x (b ∷ (ys ++ v ∷ [])))
strand_edges P Q weaker x b ys v qx ps qv =
    let pb = All-head P b ys ps in
    All-cons (OneOf P Q) (segment x b) (segments_from b (ys ++ v ∷ [])) (inr (qx, pb)) (onward P Q weaker b ys v pb (All-tail P b ys ps) qv)
