-- A triangle holds its corners, and a point of it on the line of a side is on the side: its weight at the third corner is 0.
use Rattle.std.proofs.Common.{sym, ◌≡◌, pos, ◌≤ℤ◌, arith, ◌<ℤ◌, [], ◌∷◌}
use Rattle.plan_exact.specs.Expr.{con, ◌⊕◌, ◌⊗◌}
use Rattle.plan_exact.specs.Formal.{A, B, C, D}
use Rattle.plan_exact.specs.Formal as F
use Rattle.plan_exact.specs.Vectors.{env}
use Rattle.plan_exact.proofs.Certificates.{eq_from}
use Rattle.plan_exact.proofs.Laws.{linear}
use Rattle.plan_exact.proofs.RingVectors.{vector_path}
use Rattle.plan_exact.proofs.Signs.{le_of_eq, le_of_lt, signs, zeros}
use Rattle.plan_exact.proofs.Vectors.{cross_on_left, cross_on_right, det_turned}
use Rattle.plan_spec.specs.Polygon.{Inside}
use Rattle.plan_spec.specs.Vector.{Vector, turn}
use Rattle.plan_plane.proofs.Polygon.Triangle.{held}
use Rattle.plan_plane.proofs.Segment.Between.{Between}

-- ---- a triangle holds its corners
pub first_inside : (a b c : Vector) → pos 0 <ℤ turn a b c → Inside (a ∷ b ∷ c ∷ []) a
first_inside a b c h = held a b c a (le_of_eq (sym (cross_on_left a b))) (omega (arith, linear, det_turned a b c)) (le_of_eq (sym (cross_on_right c a)))

pub second_inside : (a b c : Vector) → pos 0 <ℤ turn a b c → Inside (a ∷ b ∷ c ∷ []) b
second_inside a b c h = held a b c b (le_of_eq (sym (cross_on_right a b))) (le_of_eq (sym (cross_on_left b c))) (omega (arith, linear, det_turned a b c, det_turned b c a))

pub third_inside : (a b c : Vector) → pos 0 <ℤ turn a b c → Inside (a ∷ b ∷ c ∷ []) c
third_inside a b c h = held a b c c (le_of_lt h) (le_of_eq (sym (cross_on_right b c))) (le_of_eq (sym (cross_on_left c a)))

-- ---- on the sides of the triangle of v, w and u
pub on_first : (v w u c : Vector) → pos 0 <ℤ turn u v w → turn v w c ≡ pos 0 → pos 0 ≤ℤ turn w u c → pos 0 ≤ℤ turn u v c → Between v w c
on_first v w u c h e hf hb =
    let xs = env [] (v ∷ w ∷ u ∷ c ∷ []) in
    record {
      scale = turn u v w;
      first = turn w u c;
      second = turn u v c;
      scale_positive = h;
      first_nonneg = hf;
      second_nonneg = hb;
      is_sum = vector_path
          (eq_from xs (con (pos 1)) (C.x ⊗ F.det A B D) (F.det C A B ⊗ D.x) (F.det B C D ⊗ A.x ⊕ F.det C A D ⊗ B.x) tt (search signs) (search zeros))
          (eq_from xs (con (pos 1)) (C.y ⊗ F.det A B D) (F.det C A B ⊗ D.y) (F.det B C D ⊗ A.y ⊕ F.det C A D ⊗ B.y) tt (search signs) (search zeros))
          (eq_from xs (con (pos 1)) (C.w ⊗ F.det A B D) (F.det C A B ⊗ D.w) (F.det B C D ⊗ A.w ⊕ F.det C A D ⊗ B.w) tt (search signs) (search zeros));
    }

pub on_last : (v w u c : Vector) → pos 0 <ℤ turn u v w → turn u v c ≡ pos 0 → pos 0 ≤ℤ turn w u c → pos 0 ≤ℤ turn v w c → Between u v c
on_last v w u c h e hf ha =
    let xs = env [] (v ∷ w ∷ u ∷ c ∷ []) in
    record {
      scale = turn u v w;
      first = turn v w c;
      second = turn w u c;
      scale_positive = h;
      first_nonneg = ha;
      second_nonneg = hf;
      is_sum = vector_path
          (eq_from xs (con (pos 1)) (B.x ⊗ F.det C A D) (F.det C A B ⊗ D.x) (F.det A B D ⊗ C.x ⊕ F.det B C D ⊗ A.x) tt (search signs) (search zeros))
          (eq_from xs (con (pos 1)) (B.y ⊗ F.det C A D) (F.det C A B ⊗ D.y) (F.det A B D ⊗ C.y ⊕ F.det B C D ⊗ A.y) tt (search signs) (search zeros))
          (eq_from xs (con (pos 1)) (B.w ⊗ F.det C A D) (F.det C A B ⊗ D.w) (F.det A B D ⊗ C.w ⊕ F.det B C D ⊗ A.w) tt (search signs) (search zeros));
    }

pub on_third : (v w u c : Vector) → pos 0 <ℤ turn u v w → turn w u c ≡ pos 0 → pos 0 ≤ℤ turn v w c → pos 0 ≤ℤ turn u v c → Between u w c
on_third v w u c h e ha hb =
    let xs = env [] (v ∷ w ∷ u ∷ c ∷ []) in
    record {
      scale = turn u v w;
      first = turn v w c;
      second = turn u v c;
      scale_positive = h;
      first_nonneg = ha;
      second_nonneg = hb;
      is_sum = vector_path
          (eq_from xs (con (pos 1)) (A.x ⊗ F.det B C D) (F.det C A B ⊗ D.x) (F.det A B D ⊗ C.x ⊕ F.det C A D ⊗ B.x) tt (search signs) (search zeros))
          (eq_from xs (con (pos 1)) (A.y ⊗ F.det B C D) (F.det C A B ⊗ D.y) (F.det A B D ⊗ C.y ⊕ F.det C A D ⊗ B.y) tt (search signs) (search zeros))
          (eq_from xs (con (pos 1)) (A.w ⊗ F.det B C D) (F.det C A B ⊗ D.w) (F.det A B D ⊗ C.w ⊕ F.det C A D ⊗ B.w) tt (search signs) (search zeros));
    }
