-- A point of the first part is even in the second one, where it is off its edges.
use Rattle.std.proofs.Common.{pos, ◌<ℤ◌, List, [], ◌∷◌, ◌≡◌, ◌⊎◌, ap, ◌∙◌, arith, inl, inr, sym, Any, Contains, get_or, subst, ◌+ℤ◌, ◌*ℤ◌, true, All, Bool, false, refl}
use Rattle.std.proofs.lemmas.Bool.{true≢false}
use Rattle.std.proofs.lemmas.List.Elements.{All-contains}
use Rattle.plan_exact.specs.Sign.{Sign, is_negative, is_zero, is_positive}
use Rattle.plan_exact.specs.Vectors.{cross, dot}
use Rattle.plan_exact.proofs.Laws.{linear}
use Rattle.plan_exact.proofs.Signs.{le_of_lt, sign_of, mul_pos_neg, mul_zero, pos_of_mul, zero_of_mul}
use Rattle.plan_exact.proofs.Vectors.{det_same, det_turned, cross_on_left, det_swapped}
use Rattle.plan_spec.specs.Parity.{parity}
use Rattle.plan_spec.specs.Polygon.{Inside, edges}
use Rattle.plan_spec.specs.Segment.{Segment, On, segment, Common, Misses}
use Rattle.plan_spec.specs.SimplePolygon.{InPolygon}
use Rattle.plan_spec.specs.Triangulation.{Triangle, corners}
use Rattle.plan_spec.specs.Vector.{Vector, IsPoint, turn, Same}
use Rattle.plan_plane.proofs.Segment.SameSign.{zero_same}
use Rattle.plan_plane.proofs.Near.{step, step_point, step_between, along_zero}
use Rattle.plan_plane.proofs.Polygon.Holding.{inside_between}
use Rattle.plan_plane.proofs.Polygon.Sides.{first_inside}
use Rattle.plan_plane.proofs.Polygon.Triangle.{held}
use Rattle.plan_plane.proofs.Segment.Between.{on, Between, between, dot_between, between_first, between_second}
use Rattle.plan_plane.proofs.Segment.OneLine.{in_line}
use Rattle.plan_plane.proofs.Segment.Same.{on_same, Same-swapped}
use Rattle.plan_plane.proofs.Segment.AtEnds.{second_weight, first_weight}
use Rattle.plan_cross.proofs.ParityLaw.Closed.{parity_constant}
use Rattle.plan_cross.proofs.ParityLaw.Route.{any_or_none}
use Rattle.plan_tri.proofs.Corner.Beside.{beside, off_chain}
use Rattle.plan_tri.proofs.Corner.Corner.{InCorner}
use Rattle.plan_tri.proofs.Cut.Halves.{Halves, Inner, from_inner, in_corner, inner}
use Rattle.plan_tri.proofs.Cut.Moved.{moved}
use Rattle.plan_tri.proofs.Cut.Outside.{OutOf}
use Rattle.plan_tri.proofs.Region.Triangulated.{Triangulated}

-- ---- a triangle of the first part's list that holds z, from a corner that is not in the second part
record Chosen (one two : List Vector) (z : Vector) : Type 0 where
  c : Vector
  q : Vector
  r : Vector
  point_c : IsPoint c
  point_q : IsPoint q
  point_r : IsPoint r
  left : pos 0 <ℤ turn c q r
  inside : Inside (c ∷ q ∷ r ∷ []) z
  outside : ¬ (InPolygon two c)
  within : (y : Vector) → IsPoint y → Inside (c ∷ q ∷ r ∷ []) y → InPolygon one y

abbrev Place : List Vector → Vector → Vector → Vector → Type 0
Place two v x y = (y ≡ v) ⊎ ((y ≡ x) ⊎ ¬ (InPolygon two y))

equal_flat : (a b c : Vector) → a ≡ b → turn a b c ≡ pos 0
equal_flat a b c e = ap (λ p. turn p b c) e ∙ det_same b c

rotated : (a b c z : Vector) → Inside (b ∷ c ∷ a ∷ []) z → Inside (a ∷ b ∷ c ∷ []) z
rotated a b c z h =
    let e : Segment = record { a = a; b = b } in
    held a b c z (h 2 e (omega arith)) (h 0 e (omega arith)) (h 1 e (omega arith))

choose : (one two : List Vector) (v x a b c z : Vector) → IsPoint a → IsPoint b → IsPoint c → pos 0 <ℤ turn a b c → Inside (a ∷ b ∷ c ∷ []) z → ((y : Vector) → IsPoint y → Inside (a ∷ b ∷ c ∷ []) y → InPolygon one y)
    → Place two v x a → Place two v x b → Place two v x c → Chosen one two z
choose one two v x a b c z ha hb hc left inside within = by
  where
    same_ab : a ≡ b → Chosen one two z
    same_ab e = absurd (omega (arith, linear, equal_flat a b c e))

    same_bc : b ≡ c → Chosen one two z
    same_bc e = absurd (omega (arith, linear, det_turned a b c, equal_flat b c a e))

    same_ca : c ≡ a → Chosen one two z
    same_ca e = absurd (omega (arith, linear, det_turned a b c, det_turned b c a, equal_flat c a b e))

    by : Place two v x a → Place two v x b → Place two v x c → Chosen one two z
    by (inr (inr o)) j k = record { c = a; q = b; r = c; point_c = ha; point_q = hb; point_r = hc; left = left; inside = inside; outside = o; within = within }
    by i (inr (inr o)) k = record { c = b; q = c; r = a; point_c = hb; point_q = hc; point_r = ha; left = omega (arith, linear, det_turned a b c); inside = rotated b c a z (rotated c a b z inside); outside = o; within = λ y hy h. within y hy (rotated a b c y h) }
    by i j (inr (inr o)) = record { c = c; q = a; r = b; point_c = hc; point_q = ha; point_r = hb; left = omega (arith, linear, det_turned a b c, det_turned b c a); inside = rotated c a b z inside; outside = o; within = λ y hy h. within y hy (rotated a b c y (rotated b c a y h)) }
    by (inl e) (inl f) k = same_ab (e ∙ sym f)
    by (inr (inl e)) (inr (inl f)) k = same_ab (e ∙ sym f)
    by i (inl e) (inl f) = same_bc (e ∙ sym f)
    by i (inr (inl e)) (inr (inl f)) = same_bc (e ∙ sym f)
    by (inl e) j (inl f) = same_ca (f ∙ sym e)
    by (inr (inl e)) j (inr (inl f)) = same_ca (f ∙ sym e)

abbrev HoldsIn : Vector → Triangle → Type 0
HoldsIn z t = Inside (corners t) z

found : (v w u x g z : Vector) (one two : List Vector) (ts : List Triangle) → Halves v w u x g one two → Triangulated one ts → Any (HoldsIn z) ts → Chosen one two z
found v w u x g z one two ts h d m =
    let t = get_or ts m.0 m.1 in
    let inside = subst (HoldsIn z) (sym m.3) m.4 in
    let has = d.vertices m.0 m.1 m.2 in
    let point = λ (y : Vector) (k : Contains one y). All-contains IsPoint one y h.vertices_one k in
    let place = λ (y : Vector) (k : Contains one y). All-contains (λ y. Place two v x y) one y h.outside_two k in
    choose one two v x t.a t.b t.c z (point t.a has.0) (point t.b has.1) (point t.c has.2) (d.left m.0 m.1 m.2) inside (d.within m.0 m.1 m.2) (place t.a has.0) (place t.b has.1) (place t.c has.2)

-- in the corner, left of the diagonal: not in the first part
pub not_in_one : {v w u x g : Vector} {one two : List Vector} → Halves v w u x g one two → (y : Vector) → IsPoint y → InCorner v w u g y → pos 0 <ℤ turn v x y → ¬ (InPolygon one y)
not_in_one {v} {w} {u} {x} {g} {one} h y hy i left = by
  where
    by : InPolygon one y → ⊥
    by (inl m) = off_chain (cross v x) (edges one) h.points_one h.clear_one y hy i left m.0 m.1 m.2 (subst (λ s. On s y) (sym m.3) m.4)
    by (inr odd) = true≢false (sym odd ∙ beside h.corner (cross v x) (cross_on_left v x) h.steep (edges one) h.points_one h.closed_one h.right_one h.clear_one y hy i left)

-- ---- the second part has the diagonal on its edge
on_diagonal : {v w u x g : Vector} {one two : List Vector} → Halves v w u x g one two → (y : Vector) → On (segment v x) y → InPolygon two y
on_diagonal {v} {w} {u} {x} h y o = let k = h.has_diagonal in inl (k.0, segment v x, k.1, k.2, o)

same_on : {v w u x g : Vector} {one two : List Vector} → Halves v w u x g one two → (y c : Vector) → IsPoint y → IsPoint c → On (segment v x) y → Same y c → On (segment v x) c
same_on {v} {w} {u} {x} h y c hy hc o e = on_same v x y c h.corner.point_v h.point_x hy hc e o

-- ---- y on the diagonal, inside the triangle: nothing of the triangle is left of the diagonal
none_left : {v w u x g z : Vector} {one two : List Vector} → Halves v w u x g one two → (t : Chosen one two z) → (y s : Vector) → IsPoint y → IsPoint s → Inside (t.c ∷ t.q ∷ t.r ∷ []) y → Inside (t.c ∷ t.q ∷ t.r ∷ []) s
    → On (segment v x) y → Inner v w u g y → pos 0 <ℤ turn v x s → ⊥
none_left {v} {w} {u} {x} h t y s hy hs iy is o i left =
    let f = from_inner y s i in
    let n = f.least in
    let to = step n y s in
    let ht = step_point y s n hy (le_of_lt hs) f.positive in
    let l : pos 0 <ℤ turn v x to = omega (arith, linear, along_zero (cross v x) y s n o.in_line) in
    not_in_one h to ht (in_corner (f.on n (omega (arith, linear)))) l (t.within to ht (inside_between (t.c ∷ t.q ∷ t.r ∷ []) iy is (step_between n y s (le_of_lt f.positive))))

-- the way from z to the corner c crosses the diagonal at y: one of z and c is left of it
crossed : {v w u x g z : Vector} {one two : List Vector} → Halves v w u x g one two → (t : Chosen one two z) → IsPoint z → (y : Vector) → IsPoint y → On (segment z t.c) y → Inside (t.c ∷ t.q ∷ t.r ∷ []) y
    → ¬ (Same y z) → ¬ (Same y t.c) → ¬ (Same y v) → ¬ (Same y x) → On (segment v x) y → ¬ (turn x t.c z ≡ pos 0) → ⊥
crossed {v} {w} {u} {x} {g} {z} h t hz y hy way iy not_z not_c not_v not_x o apart = by (sign_of (turn v x z))
  where
    b : Between z t.c y
    b = between z t.c y hz t.point_c hy way

    w1 : pos 0 <ℤ b.first
    w1 = first_weight b not_c

    w2 : pos 0 <ℤ b.second
    w2 = second_weight b not_z

    total : b.first *ℤ turn v x z +ℤ b.second *ℤ turn v x t.c ≡ pos 0
    total = omega (arith, linear, dot_between b (cross v x), ap (λ k. b.scale *ℤ k) o.in_line, mul_zero b.scale)

    i : Inner v w u g y
    i = inner h y hy o not_v not_x

    different : ¬ (Same v x)
    different e = omega (arith, linear, h.after, zero_same (cross v w) v x h.corner.point_v e (cross_on_left v w))

    by : Sign (turn v x z) → ⊥
    by (is_positive k) = none_left h t y z hy hz iy t.inside o i k
    by (is_negative k) =
        let m : pos 0 <ℤ (b.second *ℤ turn v x t.c) = omega (arith, linear, total, mul_pos_neg w1 k) in
        none_left h t y t.c hy t.point_c iy (first_inside t.c t.q t.r t.left) o i (pos_of_mul w2 m)
    by (is_zero e) =
        let m : b.second *ℤ turn v x t.c ≡ pos 0 = omega (arith, linear, total, ap (λ k. b.first *ℤ k) e, mul_zero b.first) in
        apart (in_line v x t.c z different (zero_of_mul b.second (turn v x t.c) w2 m) e)

-- ---- the way from z to the corner c, where z is on no line through c and an end of the diagonal
abbrev at_moved : {one two : List Vector} {z : Vector} → (t : Chosen one two z) → (to : Vector) → Inside (t.c ∷ t.q ∷ t.r ∷ []) to → Chosen one two to
at_moved t to i = record { c = t.c; q = t.q; r = t.r; point_c = t.point_c; point_q = t.point_q; point_r = t.point_r; left = t.left; inside = i; outside = t.outside; within = t.within }

not_end : (z c y e : Vector) → IsPoint y → On (segment z c) y → ¬ (turn e c z ≡ pos 0) → ¬ (Same y e)
not_end z c y e hy way apart same = apart (omega (arith, linear, zero_same (cross z c) y e hy same way.in_line, det_turned z c e, det_swapped c e z))

straight : {v w u x g z : Vector} {one two : List Vector} → Halves v w u x g one two → (t : Chosen one two z) → IsPoint z → All (λ s. ¬ (On s z)) (edges two) → parity (edges two) z ≡ true
    → ¬ (turn x t.c z ≡ pos 0) → ¬ (turn v t.c z ≡ pos 0) → ⊥
straight {v} {w} {u} {x} {g} {z} {one} {two} h t hz off odd apart_x apart_v = by (any_or_none (segment z t.c) (hz, t.point_c) (edges two) h.points_two)
  where
    at : (s : Segment) → (s ≡ segment v x) ⊎ OutOf one v x s → (y : Vector) → IsPoint y → On (segment z t.c) y → On s y → ⊥
    at s place y hy way o = go place
      where
        not_v : ¬ (Same y v)
        not_v = not_end z t.c y v hy way apart_v

        not_x : ¬ (Same y x)
        not_x = not_end z t.c y x hy way apart_x

        iy : Inside (t.c ∷ t.q ∷ t.r ∷ []) y
        iy = inside_between (t.c ∷ t.q ∷ t.r ∷ []) t.inside (first_inside t.c t.q t.r t.left) (between z t.c y hz t.point_c hy way)

        go : (s ≡ segment v x) ⊎ OutOf one v x s → ⊥
        go (inr out) = out y hy o not_v not_x (t.within y hy iy)
        go (inl e) =
            let d = subst (λ s. On s y) e o in
            crossed h t hz y hy way iy
            (λ same. All-contains (λ s. ¬ (On s z)) (edges two) (segment v x) off h.has_diagonal (same_on h y z hy hz d same))
            (λ same. t.outside (on_diagonal h t.c (same_on h y t.c hy t.point_c d same)))
            not_v not_x d apart_x

    by : Any (Common (segment z t.c)) (edges two) ⊎ Misses (segment z t.c) (edges two) → ⊥
    by (inl m) = let c = m.4 in at (get_or (edges two) m.0 m.1) (h.outside_one m.0 m.1 m.2) c.0 c.1 c.2 (subst (λ s. On s c.0) (sym m.3) c.3)
    by (inr m) = t.outside (inr (sym (parity_constant (edges two) z t.c h.points_two h.closed_two hz t.point_c m) ∙ odd))

-- ---- even
abbrev weight : Vector
weight = record { x = pos 0; y = pos 0; w = pos 1 }

weight_apart : (z : Vector) → IsPoint z → ¬ (dot weight z ≡ pos 0)
weight_apart z hz e = omega (arith, linear)

odd_nowhere : {v w u x g z : Vector} {one two : List Vector} → Halves v w u x g one two → Chosen one two z → IsPoint z → All (λ s. ¬ (On s z)) (edges two) → parity (edges two) z ≡ true → ⊥
odd_nowhere {v} {w} {u} {x} {g} {z} {one} {two} h t hz off odd =
    let on_x : On (segment v x) x = on (between_second v x h.point_x) in
    let on_v : On (segment v x) v = on (between_first v x h.corner.point_v) in
    let not_x : ¬ (Same t.c x) = λ e. t.outside (on_diagonal h t.c (same_on h x t.c h.point_x t.point_c on_x (Same-swapped t.c x e))) in
    let not_v : ¬ (Same t.c v) = λ e. t.outside (on_diagonal h t.c (same_on h v t.c h.corner.point_v t.point_c on_v (Same-swapped t.c v e))) in
    let m = moved (edges two) h.points_two h.closed_two t.c t.q t.r z x weight hz t.point_q t.point_r t.left t.inside off not_x (weight_apart z hz) in
    let k = moved (edges two) h.points_two h.closed_two t.c t.q t.r m.to v (cross x t.c) m.point t.point_q t.point_r t.left m.inside m.off not_v m.apart in
    straight h (at_moved t k.to k.inside) k.point k.off (k.same ∙ m.same ∙ odd) k.kept k.apart

pub even : {v w u x g : Vector} {one two : List Vector} {ts : List Triangle} → Halves v w u x g one two → Triangulated one ts → (z : Vector) → IsPoint z → InPolygon one z → All (λ s. ¬ (On s z)) (edges two) → parity (edges two) z ≡ false
even {v} {w} {u} {x} {g} {one} {two} {ts} h d z hz in_one off = by (parity (edges two) z) refl
  where
    by : (t : Bool) → parity (edges two) z ≡ t → t ≡ false
    by false e = refl
    by true e = absurd (odd_nowhere h (found v w u x g z one two ts h d (d.held z hz in_one)) hz off e)
