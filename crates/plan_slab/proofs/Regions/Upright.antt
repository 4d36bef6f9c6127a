-- A part of an edge is from left to right, or upright and from below; what is on an upright one.
use Rattle.std.proofs.Common.{◌≡◌, ◌⊎◌, inl, inr, pos, ◌-ℤ◌, ◌*ℤ◌, [], ◌∷◌, sym, arith}
use Rattle.plan_exact.specs.Expr.{con, ◌⊕◌, ◌⊖◌, ◌⊗◌, neg}
use Rattle.plan_exact.specs.Sign.{Order, is_less, is_equal, is_greater}
use Rattle.plan_exact.specs.Vectors.{env}
use Rattle.plan_exact.specs.Formal as F
use Rattle.plan_exact.specs.Formal.{A, B, C}
use Rattle.plan_exact.proofs.Certificates.{eq_from}
use Rattle.plan_exact.proofs.Laws.{linear}
use Rattle.plan_exact.proofs.Signs.{signs, zeros, order_of, le_or_lt}
use Rattle.plan_spec.specs.Vector.{Vector, IsPoint, LtX, LeY, LtY, SameX, Before}
use Rattle.plan_spec.specs.Segment.{Segment, On, HasPoints}
use Rattle.plan_plane.proofs.Rising.ByCoordinate.{order_x}
use Rattle.plan_plane.proofs.Segment.Between.{flip}
use Rattle.plan_plane.proofs.Segment.ByX.{leX_trans, between_one}

pub data Shape (p : Segment) : Type 0 where
  rises : LtX p.a p.b → Shape p
  upright : SameX p.a p.b → LeY p.a p.b → Shape p

pub shape : (p : Segment) → ¬ (Before p.b p.a) → Shape p
shape p onward = by (order_of (p.a.x *ℤ p.b.w) (p.b.x *ℤ p.a.w)) (le_or_lt (p.a.y *ℤ p.b.w) (p.b.y *ℤ p.a.w))
  where
    by : Order (p.a.x *ℤ p.b.w) (p.b.x *ℤ p.a.w) → LeY p.a p.b ⊎ LtY p.b p.a → Shape p
    by (is_less h) t = rises h
    by (is_greater h) t = absurd (onward (inl h))
    by (is_equal e) (inl h) = upright e h
    by (is_equal e) (inr h) = absurd (onward (inr (sym e, h)))

pub on_upright : (p : Segment) (z : Vector) → HasPoints p → IsPoint z → SameX p.a p.b → SameX p.a z → LeY p.a z → LeY z p.b → On p z
on_upright p z hp hz e f low high =
    let g : SameX p.b z = order_x.trans p.b p.a z hp.1 hp.0 hz (sym e) f in
    let e0 : p.a.x *ℤ p.b.w -ℤ p.b.x *ℤ p.a.w ≡ pos 0 = omega (arith, linear) in
    let f0 : p.a.x *ℤ z.w -ℤ z.x *ℤ p.a.w ≡ pos 0 = omega (arith, linear) in
    let g0 : p.b.x *ℤ z.w -ℤ z.x *ℤ p.b.w ≡ pos 0 = omega (arith, linear) in
    record {
      in_line = eq_from (env [] (p.a ∷ p.b ∷ z ∷ [])) (con (pos 1)) (neg A.y ⊗ (B.x ⊗ C.w ⊖ C.x ⊗ B.w) ⊕ B.y ⊗ (A.x ⊗ C.w ⊖ C.x ⊗ A.w) ⊕ neg C.y ⊗ (A.x ⊗ B.w ⊖ B.x ⊗ A.w)) (F.det A B C) F.zero tt (search signs) (search zeros);
      within_x = inl (omega (arith, linear), omega (arith, linear));
      within_y = inl (low, high);
    }

pub record IsUpright (p : Segment) (z : Vector) : Type 0 where
  pub level : SameX p.a z
  pub low : LeY p.a z
  pub high : LeY z p.b

pub upright_at : (p : Segment) (z : Vector) → HasPoints p → IsPoint z → SameX p.a p.b → LeY p.a p.b → On p z → IsUpright p z
upright_at p z hp hz e up h =
    let w = by h.within_y in
    record { level = between_one p.a p.b z hp.0 hp.1 hz e h.within_x; low = w.0; high = w.1 }
  where
    by : (LeY p.a z × LeY z p.b) ⊎ (LeY p.b z × LeY z p.a) → LeY p.a z × LeY z p.b
    by (inl w) = w
    by (inr w) = (leX_trans (flip p.a) (flip p.b) (flip z) hp.0 hp.1 hz up w.0, leX_trans (flip z) (flip p.a) (flip p.b) hz hp.0 hp.1 w.1 up)
