-- The points of the diagonal are points of the polygon: beside the diagonal a point is even in the first part and odd in the second.
use Rattle.std.proofs.Common.{inl, inr, pos, ◌<ℤ◌, ◌≡◌, true, List, All, get_or, sym, ap₂, subst, ◌∙◌, arith, ◌⊎◌, Any, Contains}
use Rattle.std.proofs.lemmas.List.Elements.{All-contains}
use Rattle.plan_exact.specs.Vectors.{dot, cross}
use Rattle.plan_exact.proofs.Laws.{linear}
use Rattle.plan_exact.proofs.Signs.{le_of_lt}
use Rattle.plan_exact.proofs.Vectors.{cross_on_left}
use Rattle.plan_spec.specs.Parity.{parity, xor}
use Rattle.plan_spec.specs.Polygon.{Inside, edges}
use Rattle.plan_spec.specs.Segment.{Segment, segment, HasPoints, Common, On, Misses}
use Rattle.plan_spec.specs.SimplePolygon.{InPolygon}
use Rattle.plan_spec.specs.Triangulation.{Triangle, corners}
use Rattle.plan_spec.specs.Vector.{Vector, IsPoint, turn, Same}
use Rattle.plan_plane.proofs.Segment.Apart.{misses_by, off_by}
use Rattle.plan_plane.proofs.Near.{step, step_point, step_between, along_zero}
use Rattle.plan_plane.proofs.Polygon.Holding.{inside_between}
use Rattle.plan_plane.proofs.Segment.Between.{between}
use Rattle.plan_plane.proofs.Segment.Same.{Same-swapped, on_same}
use Rattle.plan_plane.proofs.Segment.Whether.{any_on}
use Rattle.plan_cross.proofs.ParityLaw.Closed.{parity_constant}
use Rattle.plan_tri.proofs.Corner.Beside.{beside}
use Rattle.plan_tri.proofs.Corner.Corner.{InCorner, corner_between}
use Rattle.plan_tri.proofs.Cut.Halves.{OutOfWays, Halves, Whole, Inner, from_inner, in_corner, inner}
use Rattle.plan_tri.proofs.Region.Third.{Third, third}
use Rattle.plan_tri.proofs.Region.Triangulated.{Triangulated, HasSide}

-- ---- the way from the diagonal into that triangle
clear_of : {v w u g : Vector} (l m z y : Vector) (s : Segment) → HasPoints s → IsPoint z → IsPoint y → InCorner v w u g z → InCorner v w u g y → pos 0 <ℤ dot l z → pos 0 <ℤ dot l y → pos 0 <ℤ dot m z → pos 0 <ℤ dot m y → OutOfWays v w u g l m s → ¬ (Common (segment z y) s)
clear_of l m z y s hs hz hy iz iy lz ly mz my (inl clean) = λ c. clean c.0 c.1 c.3 (corner_between c.1 (between z y c.0 hz hy c.1 c.2) iz iy)
clear_of l m z y s hs hz hy iz iy lz ly mz my (inr (inl b)) = misses_by l z y s hz hy hs lz ly b.first b.second
clear_of l m z y s hs hz hy iz iy lz ly mz my (inr (inr b)) = misses_by m z y s hz hy hs mz my b.first b.second

off_of : {v w u g : Vector} (l m y : Vector) (s : Segment) → HasPoints s → IsPoint y → InCorner v w u g y → pos 0 <ℤ dot l y → pos 0 <ℤ dot m y → OutOfWays v w u g l m s → ¬ (On s y)
off_of l m y s hs hy iy ly my (inl clean) = λ o. clean y hy o iy
off_of l m y s hs hy iy ly my (inr (inl b)) = off_by l y s hy hs ly b.first b.second
off_of l m y s hs hy iy ly my (inr (inr b)) = off_by m y s hy hs my b.first b.second

odd_at : {v w u x g : Vector} {all one two : List Vector} {us : List Triangle} → Halves v w u x g one two → Whole v w u x g all one two → Triangulated two us → (z : Vector) → IsPoint z → On (segment v x) z → Inner v w u g z
    → (t : Triangle) → Third t v x → ((y : Vector) → IsPoint y → Inside (corners t) y → InPolygon two y) → parity (edges all) z ≡ true
odd_at {v} {w} {u} {x} {g} {all} {one} {two} h k d z hz o i t r within =
    let f = from_inner z r.s i in
    let n = f.least in
    let y = step n z r.s in
    let hy = step_point z r.s n hz (le_of_lt r.point) f.positive in
    let j = f.on n (omega (arith, linear)) in
    let l : pos 0 <ℤ turn v x y = omega (arith, linear, along_zero (cross v x) z r.s n o.in_line, r.left) in
    let iz = inside_between (corners t) r.at_v r.at_x (between v x z h.corner.point_v h.point_x hz o) in
    let iy = inside_between (corners t) iz r.at_s (step_between n z r.s (le_of_lt f.positive)) in
    let even = beside h.corner (cross v x) (cross_on_left v x) h.steep (edges one) h.points_one h.closed_one h.right_one h.clear_one y hy (in_corner j) l in
    let off : All (λ s. ¬ (On s y)) (edges two) = λ a e below. off_of (cross v x) (cross u v) y (get_or (edges two) a e) (h.points_two a e below) hy (in_corner j) l j.before (k.clear_two a e below) in
    let misses : Misses (segment z y) (edges all) = λ a e below. clear_of (cross v w) (cross u v) z y (get_or (edges all) a e) (k.points a e below) hz hy (in_corner i) (in_corner j) i.after j.after i.before j.before (k.clear a e below) in
    parity_constant (edges all) z y k.points k.closed hz hy misses ∙ k.parities y ∙ ap₂ xor even (odd off (within y hy iy))
  where
    odd : {y : Vector} → All (λ s. ¬ (On s y)) (edges two) → InPolygon two y → parity (edges two) y ≡ true
    odd {y} off (inl m) = absurd (off m.0 m.1 m.2 (subst (λ s. On s y) (sym m.3) m.4))
    odd {y} off (inr e) = e

pub diagonal : {v w u x g : Vector} {all one two : List Vector} {us : List Triangle} → Halves v w u x g one two → Whole v w u x g all one two → Triangulated two us → (z : Vector) → IsPoint z → On (segment v x) z → InPolygon all z
diagonal {v} {w} {u} {x} {g} {all} {one} {two} {us} h k d z hz o = by (any_on (edges all) z)
  where
    apart : (e : Vector) → IsPoint e → Any (λ s. On s e) (edges all) → All (λ s. ¬ (On s z)) (edges all) → ¬ (Same z e)
    apart e he m off same =
        let s = get_or (edges all) m.0 m.1 in
        let p = k.points m.0 m.1 m.2 in
        off m.0 m.1 m.2 (on_same s.a s.b e z p.0 p.1 he hz (Same-swapped z e same) (subst (λ s. On s e) (sym m.3) m.4))

    by : Any (λ s. On s z) (edges all) ⊎ All (λ s. ¬ (On s z)) (edges all) → InPolygon all z
    by (inl m) = inl m
    by (inr off) =
        let i = inner h z hz o (apart v h.corner.point_v k.has_v off) (apart x h.point_x k.has_x off) in
        let m = All-contains (λ s. Any (HasSide s) us) (edges two) (segment v x) d.covered h.has_diagonal in
        let t = get_or us m.0 m.1 in
        let has = d.vertices m.0 m.1 m.2 in
        let point = λ (y : Vector) (c : Contains two y). All-contains IsPoint two y k.vertices_two c in
        let r = third t v x (point t.a has.0) (point t.b has.1) (point t.c has.2) (d.left m.0 m.1 m.2) (subst (HasSide (segment v x)) (sym m.3) m.4) in
        inr (odd_at h k d z hz o i t r (d.within m.0 m.1 m.2))
