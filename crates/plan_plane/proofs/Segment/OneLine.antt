-- Two points of the line through v and x are in line with x, since a line through two points is one line.
use Rattle.std.proofs.Common.{◌≡◌, ◌⊎◌, inl, inr, pos, ◌*ℤ◌, [], ◌∷◌, arith}
use Rattle.plan_exact.specs.Expr.{con, ◌⊕◌, ◌⊗◌, neg}
use Rattle.plan_exact.specs.Formal.{A, B, C, D}
use Rattle.plan_exact.specs.Formal as F
use Rattle.plan_exact.specs.Vectors.{env}
use Rattle.plan_exact.proofs.Certificates.{eq_from}
use Rattle.plan_exact.proofs.Laws.{linear}
use Rattle.plan_exact.proofs.Signs.{signs, zeros, zero_or_zero}
use Rattle.plan_spec.specs.Vector.{Vector, Same, turn}
use Rattle.plan_plane.proofs.Segment.Line.{right, above, formal_right, formal_above}

-- ---- two points of a line, and a third one of it
pub in_line : (v x t z : Vector) → ¬ (Same v x) → turn v x t ≡ pos 0 → turn v x z ≡ pos 0 → turn x t z ≡ pos 0
in_line v x t z apart ht hz = by (zero_or_zero (turn x t z) (right v x) hor) (zero_or_zero (turn x t z) (above v x) ver)
  where
    hor : turn x t z *ℤ right v x ≡ pos 0
    hor = eq_from (env [] (v ∷ x ∷ t ∷ z ∷ [])) (con (pos 1)) (formal_right B C ⊗ F.det A B D ⊕ neg (formal_right B D) ⊗ F.det A B C) (F.det B C D ⊗ formal_right A B) F.zero tt (search signs) (search zeros)

    ver : turn x t z *ℤ above v x ≡ pos 0
    ver = eq_from (env [] (v ∷ x ∷ t ∷ z ∷ [])) (con (pos 1)) (formal_above B C ⊗ F.det A B D ⊕ neg (formal_above B D) ⊗ F.det A B C) (F.det B C D ⊗ formal_above A B) F.zero tt (search signs) (search zeros)

    by : (turn x t z ≡ pos 0) ⊎ (right v x ≡ pos 0) → (turn x t z ≡ pos 0) ⊎ (above v x ≡ pos 0) → turn x t z ≡ pos 0
    by (inl h) s = h
    by r (inl h) = h
    by (inr h) (inr k) = absurd (apart (omega (arith, linear), omega (arith, linear)))
