-- The point by which a lot is tested is a point of it.
use Rattle.std.proofs.Common.{◌≡◌, inl, inr, pos, ◌+ℤ◌, ◌-ℤ◌, ◌*ℤ◌, ◌<ℤ◌, [], ◌∷◌, ap, ◌∙◌, arith}
use Rattle.plan_exact.specs.Expr.{con, neg, ◌⊕◌, ◌⊖◌, ◌⊗◌}
use Rattle.plan_exact.specs.Vectors.{sum, scaled, env}
use Rattle.plan_exact.specs.Formal as F
use Rattle.plan_exact.specs.Formal.{A, B, C}
use Rattle.plan_exact.proofs.Certificates.{lt_from, eq_from}
use Rattle.plan_exact.proofs.Laws.{linear}
use Rattle.plan_exact.proofs.RingVectors.{ring_vectors}
use Rattle.plan_exact.proofs.Signs.{signs, zeros, mul_pos, mul_pos_neg, mul_of_zero, le_or_lt}
use Rattle.plan_exact.proofs.Vectors.{det_combination_3}
use Rattle.plan_spec.specs.Vector.{Vector, IsPoint, LtX, LtY, SameX, turn}
use Rattle.plan_spec.specs.Segment.{Segment}
use Rattle.plan_spec.specs.Slabs.{InSlab, Below}
use Rattle.plan_spec.specs.Regions.{InCell, InWall, mediant, foot, halfway, cell_spot}
use Rattle.plan_slab.specs.Levels.{run}
use Rattle.plan_slab.proofs.Order.Across.{IsSlab}
use Rattle.plan_slab.proofs.Order.Feet.{foot_point, foot_in_line, mediant_inside}
use Rattle.plan_slab.proofs.Order.OneOrder.{foot_inside}

-- ---- halfway between two points
halfway_is : (u v : Vector) → halfway u v ≡ sum (scaled v.w u) (scaled u.w v)
halfway_is u v = ring_vectors (env [] (u ∷ v ∷ [])) (record { x = A.x ⊗ B.w ⊕ B.x ⊗ A.w; y = A.y ⊗ B.w ⊕ B.y ⊗ A.w; w = con (pos 2) ⊗ (A.w ⊗ B.w) }) (F.sum (F.scaled B.w A) (F.scaled A.w B)) tt

pub halfway_point : (u v : Vector) → IsPoint u → IsPoint v → IsPoint (halfway u v)
halfway_point u v hu hv = omega (arith, linear, mul_pos hu hv)

halfway_turn : (s : Segment) (u v : Vector) → turn s.a s.b (halfway u v) ≡ v.w *ℤ turn s.a s.b u +ℤ u.w *ℤ turn s.a s.b v
halfway_turn s u v = ap (turn s.a s.b) (halfway_is u v) ∙ det_combination_3 v.w u.w u v s.a s.b

halfway_right : (l u v : Vector) → IsPoint u → IsPoint v → LtX l u → LtX l v → LtX l (halfway u v)
halfway_right l u v hu hv p q = lt_from (env [] (l ∷ u ∷ v ∷ [])) (con (pos 1)) (C.w ⊗ (B.x ⊗ A.w ⊖ A.x ⊗ B.w) ⊕ B.w ⊗ (C.x ⊗ A.w ⊖ A.x ⊗ C.w)) (A.x ⊗ (con (pos 2) ⊗ (B.w ⊗ C.w))) ((B.x ⊗ C.w ⊕ C.x ⊗ B.w) ⊗ A.w) tt (search signs) (search signs)

halfway_left : (r u v : Vector) → IsPoint u → IsPoint v → LtX u r → LtX v r → LtX (halfway u v) r
halfway_left r u v hu hv p q = lt_from (env [] (r ∷ u ∷ v ∷ [])) (con (pos 1)) (C.w ⊗ (A.x ⊗ B.w ⊖ B.x ⊗ A.w) ⊕ B.w ⊗ (A.x ⊗ C.w ⊖ C.x ⊗ A.w)) ((B.x ⊗ C.w ⊕ C.x ⊗ B.w) ⊗ A.w) (A.x ⊗ (con (pos 2) ⊗ (B.w ⊗ C.w))) tt (search signs) (search signs)

-- ---- a cell
module _ (l r : Vector) (slab : IsSlab l r) where
  inside : (s : Segment) → LtX s.a s.b → IsPoint (foot s (mediant l r)) × InSlab l r (foot s (mediant l r))
  inside s rises =
      let m = mediant l r in
      let hm : IsPoint m = let a = slab.left_point in let b = slab.right_point in omega (arith, linear) in
      let runs : pos 0 <ℤ run s = omega (arith, linear) in
      (foot_point s m runs hm, foot_inside l r s m slab runs hm (mediant_inside l r slab.wide))

  pub cell_spot_inside : (s t : Segment) → LtX s.a s.b → LtX t.a t.b → Below l r s t → IsPoint (cell_spot l r s t) × InCell l r s t (cell_spot l r s t)
  cell_spot_inside s t hs ht below = (
    halfway_point u v iu.0 iv.0,
    record {
      after = halfway_right l u v iu.0 iv.0 iu.1.0 iv.1.0;
      before = halfway_left r u v iu.0 iv.0 iu.1.1 iv.1.1;
      above = omega (arith, linear, halfway_turn s u v, mul_of_zero v.w (turn s.a s.b u) zu, mul_pos iu.0 sv);
      below = omega (arith, linear, halfway_turn t u v, mul_of_zero u.w (turn t.a t.b v) zv, mul_pos_neg iv.0 tu);
    },
  )
    where
      u : Vector
      u = foot s (mediant l r)

      v : Vector
      v = foot t (mediant l r)

      iu : IsPoint u × InSlab l r u
      iu = inside s hs

      iv : IsPoint v × InSlab l r v
      iv = inside t ht

      zu : turn s.a s.b u ≡ pos 0
      zu = foot_in_line s (mediant l r)

      zv : turn t.a t.b v ≡ pos 0
      zv = foot_in_line t (mediant l r)

      sv : pos 0 <ℤ turn s.a s.b v
      sv = below v iv.0 iv.1 (omega (arith, linear, zv))

      tu : turn t.a t.b u <ℤ pos 0
      tu = elim (le_or_lt (pos 0) (turn t.a t.b u)) [
        | inl h ↦ absurd (omega (arith, linear, zu, below u iu.0 iu.1 h))
        | inr h ↦ h
      ]

-- ---- a wall
pub wall_spot_inside : (l m n : Vector) → IsPoint l → IsPoint m → IsPoint n → SameX l m → SameX l n → LtY m n → IsPoint (halfway m n) × InWall l m n (halfway m n)
wall_spot_inside l m n hl hm hn e f lt =
    let e0 : l.x *ℤ m.w -ℤ m.x *ℤ l.w ≡ pos 0 = omega (arith, linear) in
    let f0 : l.x *ℤ n.w -ℤ n.x *ℤ l.w ≡ pos 0 = omega (arith, linear) in (
      halfway_point m n hm hn,
      record {
        at = eq_from (env [] (l ∷ m ∷ n ∷ [])) (con (pos 1)) (neg C.w ⊗ (A.x ⊗ B.w ⊖ B.x ⊗ A.w) ⊕ neg B.w ⊗ (A.x ⊗ C.w ⊖ C.x ⊗ A.w)) ((B.x ⊗ C.w ⊕ C.x ⊗ B.w) ⊗ A.w) (A.x ⊗ (con (pos 2) ⊗ (B.w ⊗ C.w))) tt (search signs) (search zeros);
        above = lt_from (env [] (m ∷ n ∷ [])) (con (pos 1)) (A.w ⊗ (B.y ⊗ A.w ⊖ A.y ⊗ B.w)) (A.y ⊗ (con (pos 2) ⊗ (A.w ⊗ B.w))) ((A.y ⊗ B.w ⊕ B.y ⊗ A.w) ⊗ A.w) tt (search signs) (search signs);
        below = lt_from (env [] (m ∷ n ∷ [])) (con (pos 1)) (B.w ⊗ (B.y ⊗ A.w ⊖ A.y ⊗ B.w)) ((A.y ⊗ B.w ⊕ B.y ⊗ A.w) ⊗ B.w) (B.y ⊗ (con (pos 2) ⊗ (A.w ⊗ B.w))) tt (search signs) (search signs);
      },
    )
