-- The foot of a point on the line of an edge; which of two lines is lower at an x is the side of the one on which the foot on the other lies, and an order.
use Rattle.std.proofs.Common.{◌≡◌, pos, ◌-ℤ◌, ◌*ℤ◌, ◌<ℤ◌, [], ◌∷◌, refl, sym, subst, arith}
use Rattle.plan_exact.specs.Expr.{con, ◌⊕◌, ◌⊖◌, ◌⊗◌}
use Rattle.plan_exact.specs.Formal as F
use Rattle.plan_exact.specs.Formal.{A, B, C, D, E}
use Rattle.plan_exact.specs.Vectors.{env}
use Rattle.plan_exact.proofs.Ring.{ring}
use Rattle.plan_exact.proofs.Certificates.{lt_from}
use Rattle.plan_exact.proofs.Laws.{linear}
use Rattle.plan_exact.proofs.Signs.{signs, mul_pos, pos_of_mul, zero_of_mul}
use Rattle.plan_spec.specs.Vector.{Vector, IsPoint, LtX, LtY, SameX, SameY, turn}
use Rattle.plan_spec.specs.Segment.{Segment}
use Rattle.plan_spec.specs.Regions.{foot, mediant}
use Rattle.plan_spec.specs.Slabs.{InSlab}
use Rattle.plan_plane.proofs.Segment.Line.{formal_right}
use Rattle.plan_slab.specs.Levels.{run, Lower, Level}
use Rattle.plan_plane.proofs.Rising.ByCoordinate.{order_x}
use Rattle.plan_plane.proofs.Rising.Lists.{IsOrder}

abbrev formal_foot : F.Vec → F.Vec → F.Vec → F.Vec
formal_foot a b z = F.sum (F.scaled (b.x ⊗ z.w ⊖ z.x ⊗ b.w) a) (F.scaled (z.x ⊗ a.w ⊖ a.x ⊗ z.w) b)

pub foot_w : (s : Segment) (z : Vector) → (foot s z).w ≡ run s *ℤ z.w
foot_w s z = ring (env [] (s.a ∷ s.b ∷ z ∷ [])) (formal_foot A B C).w (formal_right A B ⊗ C.w) tt

pub foot_point : (s : Segment) (z : Vector) → pos 0 <ℤ run s → IsPoint z → IsPoint (foot s z)
foot_point s z hs hz = subst (λ y. pos 0 <ℤ y) (sym (foot_w s z)) (mul_pos hs hz)

pub foot_same_x : (s : Segment) (z : Vector) → SameX (foot s z) z
foot_same_x s z = ring (env [] (s.a ∷ s.b ∷ z ∷ [])) ((formal_foot A B C).x ⊗ C.w) (C.x ⊗ (formal_foot A B C).w) tt

pub foot_in_line : (s : Segment) (z : Vector) → turn s.a s.b (foot s z) ≡ pos 0
foot_in_line s z = ring (env [] (s.a ∷ s.b ∷ z ∷ [])) (F.det A B (formal_foot A B C)) F.zero tt

-- how far the foot on s is above t, by the sides of z, and by heights
pub foot_side : (s t : Segment) (z : Vector) → turn t.a t.b (foot s z) ≡ run s *ℤ turn t.a t.b z -ℤ run t *ℤ turn s.a s.b z
foot_side s t z = ring (env [] (s.a ∷ s.b ∷ t.a ∷ t.b ∷ z ∷ [])) (F.det C D (formal_foot A B E)) (formal_right A B ⊗ F.det C D E ⊖ formal_right C D ⊗ F.det A B E) tt

pub foot_level : (s t : Segment) (z : Vector) → turn t.a t.b (foot s z) ≡ (foot s z).y *ℤ run t -ℤ (foot t z).y *ℤ run s
foot_level s t z = ring (env [] (s.a ∷ s.b ∷ t.a ∷ t.b ∷ z ∷ [])) (F.det C D (formal_foot A B E)) ((formal_foot A B E).y ⊗ formal_right C D ⊖ (formal_foot C D E).y ⊗ formal_right A B) tt

-- ---- the mediant of two lines
pub mediant_point : (l r : Vector) → IsPoint l → IsPoint r → IsPoint (mediant l r)
mediant_point l r hl hr = omega (arith, linear)

pub mediant_inside : (l r : Vector) → LtX l r → InSlab l r (mediant l r)
mediant_inside l r h = (
  lt_from (env [] (l ∷ r ∷ [])) (con (pos 1)) (B.x ⊗ A.w ⊖ A.x ⊗ B.w) (A.x ⊗ (A.w ⊕ B.w)) ((A.x ⊕ B.x) ⊗ A.w) tt (search signs) (search signs),
  lt_from (env [] (l ∷ r ∷ [])) (con (pos 1)) (B.x ⊗ A.w ⊖ A.x ⊗ B.w) ((A.x ⊕ B.x) ⊗ B.w) (B.x ⊗ (A.w ⊕ B.w)) tt (search signs) (search signs),
)

-- ---- the order by height at one x
abbrev pub Runs : Segment → Type 0
Runs s = pos 0 <ℤ run s

abbrev height : Vector → Segment → Vector
height m s = record { x = (foot s m).y; y = pos 0; w = run s }

pub by_height : (m : Vector) → IsOrder Runs (Lower m) (Level m)
by_height m = record {
  refl = λ s hs. refl;
  sym = λ s t hs ht e. sym e;
  trans = λ s t u. order_x.trans (height m s) (height m t) (height m u);
  less = λ s t u. order_x.less (height m s) (height m t) (height m u);
  less_equal = λ s t u. order_x.less_equal (height m s) (height m t) (height m u);
  equal_less = λ s t u. order_x.equal_less (height m s) (height m t) (height m u);
  apart = λ s t. order_x.apart (height m s) (height m t);
  total = λ s t. order_x.total (height m s) (height m t);
}

-- ---- the same by the feet themselves
feet : (s t : Segment) (m : Vector) → (foot t m).y *ℤ (foot s m).w -ℤ (foot s m).y *ℤ (foot t m).w ≡ m.w *ℤ ((foot t m).y *ℤ run s -ℤ (foot s m).y *ℤ run t)
feet s t m = ring (env [] (s.a ∷ s.b ∷ t.a ∷ t.b ∷ m ∷ [])) ((formal_foot C D E).y ⊗ (formal_foot A B E).w ⊖ (formal_foot A B E).y ⊗ (formal_foot C D E).w) (E.w ⊗ ((formal_foot C D E).y ⊗ formal_right A B ⊖ (formal_foot A B E).y ⊗ formal_right C D)) tt

pub lower_by_feet : (s t : Segment) (m : Vector) → IsPoint m → LtY (foot s m) (foot t m) → Lower m s t
lower_by_feet s t m hm h =
    let d = (foot t m).y *ℤ run s -ℤ (foot s m).y *ℤ run t in
    let p : pos 0 <ℤ (m.w *ℤ d) = omega (arith, linear, feet s t m, h) in
    omega (arith, linear, pos_of_mul {b = d} hm p)

pub level_by_feet : (s t : Segment) (m : Vector) → IsPoint m → SameY (foot s m) (foot t m) → Level m s t
level_by_feet s t m hm e =
    let d = (foot t m).y *ℤ run s -ℤ (foot s m).y *ℤ run t in
    let z : m.w *ℤ d ≡ pos 0 = omega (arith, linear, feet s t m, e) in
    omega (arith, linear, zero_of_mul m.w d hm z)
