-- On the way from a point to one that a convex polygon holds there is a point that it holds: the first point itself, or one on an edge of which the first point is strictly outside. So along an upright line a polygon holds two points or is entered between them through an edge that is not upright.
use Rattle.std.proofs.Common.{◌≡◌, ◌⊎◌, inl, inr, ⊎_elim, pos, ◌-ℤ◌, ◌*ℤ◌, ◌≤ℤ◌, ◌<ℤ◌, List, [], ◌∷◌, All, Any, Contains, get_or, refl, subst, arith}
use Rattle.std.proofs.lemmas.List.Elements.{All-head, All-tail, All-nil, All-cons}
use Rattle.plan_exact.specs.Expr.{◌⊕◌, ◌⊖◌, ◌⊗◌}
use Rattle.plan_exact.specs.Vectors.{cross, env}
use Rattle.plan_exact.specs.Formal as F
use Rattle.plan_exact.specs.Formal.{A, B, C, D}
use Rattle.plan_exact.proofs.Laws.{linear}
use Rattle.plan_exact.proofs.Certificates.{eq_from}
use Rattle.plan_exact.proofs.Signs.{zeros, le_or_lt}
use Rattle.plan_spec.specs.Vector.{Vector, IsPoint, Same, SameX, turn}
use Rattle.plan_spec.specs.Segment.{Segment, On}
use Rattle.plan_spec.specs.Polygon.{OnOrLeft, Inside, edges}
use Rattle.plan_plane.proofs.Boundary.Sum.{IsSum, edge_of, on_edge}
use Rattle.plan_plane.proofs.Lists.{any_here, any_there}
use Rattle.plan_plane.proofs.Segment.Between.{Between, between_first, swapped, nonneg_at, zero_at, right_of, right_of_is}
use Rattle.plan_plane.proofs.Segment.Entry.{through, at_own}
use Rattle.plan_plane.proofs.Segment.Part.{between_part}
use Rattle.plan_plane.proofs.Segment.Same.{Same-swapped}
use Rattle.plan_plane.proofs.Segment.SameSign.{zero_same}
use Rattle.plan_slab.specs.Meets.{IsSloped}

-- z is on the line of the edge, and a is strictly outside of it
abbrev Enters : Vector → Vector → Segment → Type 0
Enters a z s = (turn s.a s.b z ≡ pos 0) × (turn s.a s.b a <ℤ pos 0)

record FirstIn (ss : List Segment) (a m : Vector) : Type 0 where
  at : Vector
  point : IsPoint at
  between : Between a m at
  held : All (OnOrLeft at) ss
  entering : (at ≡ a) ⊎ Any (Enters a at) ss

-- where the way from z to m crosses the line of s
record Crossed (s : Segment) (z m : Vector) : Type 0 where
  at : Vector
  point : IsPoint at
  between : Between z m at
  zero : turn s.a s.b at ≡ pos 0
  keeps : (t : Segment) → pos 0 ≤ℤ turn t.a t.b z → pos 0 ≤ℤ turn t.a t.b m → pos 0 ≤ℤ turn t.a t.b at

crossed : (s : Segment) (z m : Vector) → IsPoint z → IsPoint m → pos 0 ≤ℤ turn s.a s.b m → turn s.a s.b z <ℤ pos 0 → Crossed s z m
crossed s z m hz hm held outside =
    let l = cross s.a s.b in
    let e = through l l z m hz hm held outside (let zero = at_own l z m in omega (arith, linear)) in
    record { at = e.at; point = e.point; between = e.between; zero = ⊎_elim (λ p. p.0) (λ p. p.0) e.side; keeps = λ t h k. nonneg_at e.between (cross t.a t.b) h k }

first_in : (ss : List Segment) (a m : Vector) → IsPoint a → IsPoint m → All (OnOrLeft m) ss → FirstIn ss a m
first_in [] a m ha hm held = record { at = a; point = ha; between = between_first a m ha; held = All-nil (OnOrLeft a); entering = inl refl }
first_in (s ∷ ss) a m ha hm held = by (first_in ss a m ha hm (All-tail (OnOrLeft m) s ss held))
  where
    here : pos 0 ≤ℤ turn s.a s.b m
    here = All-head (OnOrLeft m) s ss held

    by : FirstIn ss a m → FirstIn (s ∷ ss) a m
    by e = elim (le_or_lt (pos 0) (turn s.a s.b e.at)) [
      | inl h ↦ record {
        at = e.at;
        point = e.point;
        between = e.between;
        held = All-cons (OnOrLeft e.at) s ss h e.held;
        entering = elim e.entering [ inl same ↦ inl same | inr some ↦ inr (any_there (Enters a e.at) s ss some) ];
      }
      | inr n ↦
          let c = crossed s e.at m e.point hm here n in
          let outside : turn s.a s.b a <ℤ pos 0 = elim (le_or_lt (pos 0) (turn s.a s.b a)) [
            | inl p ↦ absurd (let q = nonneg_at e.between (cross s.a s.b) p here in omega (arith, linear))
            | inr p ↦ p
          ] in
          record {
            at = c.at;
            point = c.point;
            between = swapped (between_part (swapped e.between) (swapped c.between));
            held = All-cons (OnOrLeft c.at) s ss (let zero = c.zero in omega (arith, linear)) (λ k d w. c.keeps (get_or ss k d) (e.held k d w) (All-tail (OnOrLeft m) s ss held k d w));
            entering = inr (any_here (Enters a c.at) s ss (c.zero, outside));
          }
    ]

-- ---- along an upright line
pub between_level : (a m z : Vector) → Between a m z → SameX a m → SameX a z
between_level a m z b e =
    let o = zero_at b (right_of a) (omega (arith, linear, right_of_is a a)) (omega (arith, linear, right_of_is a m)) in
    omega (arith, linear, right_of_is a z)

-- an upright edge says the same of points of one x
upright_zero : (s : Segment) (a z : Vector) → IsPoint z → SameX s.a s.b → SameX a z → turn s.a s.b z ≡ pos 0 → turn s.a s.b a ≡ pos 0
upright_zero s a z hz same e zero =
    let r : s.a.x *ℤ s.b.w -ℤ s.b.x *ℤ s.a.w ≡ pos 0 = omega (arith, linear) in
    let f : a.x *ℤ z.w -ℤ z.x *ℤ a.w ≡ pos 0 = omega (arith, linear) in
    eq_from (env [] (s.a ∷ s.b ∷ a ∷ z ∷ [])) D.w (C.w ⊗ F.det A B D ⊕ (F.cross A B).x ⊗ (C.x ⊗ D.w ⊖ D.x ⊗ C.w) ⊕ (D.y ⊗ C.w ⊖ C.y ⊗ D.w) ⊗ (A.x ⊗ B.w ⊖ B.x ⊗ A.w)) (F.det A B C) F.zero tt hz (search zeros)

pub held_along : (vs : List Vector) (a m : Vector) → IsSum vs → IsPoint a → IsPoint m → SameX a m → Inside vs m → ((z : Vector) → IsPoint z → SameX a z → Between a m z → ¬ (Same a z) → ¬ (Any (λ e. IsSloped e × On e z) (edges vs))) → Inside vs a
held_along vs a m is ha hm e inside unless = by (first_in (edges vs) a m ha hm inside)
  where
    by : FirstIn (edges vs) a m → Inside vs a
    by n = go n.entering
      where
        level : SameX a n.at
        level = between_level a m n.at n.between e

        go : (n.at ≡ a) ⊎ Any (Enters a n.at) (edges vs) → Inside vs a
        go (inl same) = subst (Inside vs) same n.held
        go (inr (k, s, within, f, (zero, outside))) =
            let has : Contains (edges vs) s = (k, within, f) in
            let sloped : IsSloped s = λ u. omega (arith, linear, upright_zero s a n.at n.point u level zero) in
            let other : ¬ (Same a n.at) = λ u. omega (arith, linear, zero_same (cross s.a s.b) n.at a n.point (Same-swapped a n.at u) zero) in
            absurd (unless n.at n.point level n.between other (k, s, within, f, (sloped, on_edge n.at (edge_of vs s is has) n.held zero)))
