-- The laws of `dot`, `cross` and `det`.
use Rattle.std.proofs.Common.{◌≡◌, ℤ, pos, ◌+ℤ◌, ◌-ℤ◌, ◌*ℤ◌, neg_ℤ, [], ◌∷◌}
use Rattle.plan_exact.specs.Expr.{◌⊕◌, ◌⊖◌, ◌⊗◌, neg}
use Rattle.plan_exact.specs.Vectors.{Vector, sum, opposite, scaled, dot, cross, det, env}
use Rattle.plan_exact.specs.Formal as F
use Rattle.plan_exact.specs.Formal.{A, B, C, D, E, J, K}
use Rattle.plan_exact.proofs.Ring.{ring}

-- ---- dot
pub dot_opposite : (a b : Vector) → dot (opposite a) b ≡ neg_ℤ (dot a b)
dot_opposite a b = ring (env [] (a ∷ b ∷ [])) (F.dot (F.opposite A) B) (neg (F.dot A B)) tt

pub dot_combination_right : (j k : ℤ) (a b c : Vector) → dot c (sum (scaled j a) (scaled k b)) ≡ j *ℤ dot c a +ℤ k *ℤ dot c b
dot_combination_right j k a b c = ring (env (j ∷ k ∷ []) (a ∷ b ∷ c ∷ [])) (F.dot C (F.sum (F.scaled J A) (F.scaled K B))) (J ⊗ F.dot C A ⊕ K ⊗ F.dot C B) tt

-- ---- cross
-- the line through a and b has them both, and the meeting point of two lines is on both
pub cross_on_left : (a b : Vector) → dot (cross a b) a ≡ pos 0
cross_on_left a b = ring (env [] (a ∷ b ∷ [])) (F.dot (F.cross A B) A) F.zero tt

pub cross_on_right : (a b : Vector) → dot (cross a b) b ≡ pos 0
cross_on_right a b = ring (env [] (a ∷ b ∷ [])) (F.dot (F.cross A B) B) F.zero tt

-- ---- det
pub det_turned : (a b c : Vector) → det a b c ≡ det b c a
det_turned a b c = ring (env [] (a ∷ b ∷ c ∷ [])) (F.det A B C) (F.det B C A) tt

pub det_swapped : (a b c : Vector) → det a b c ≡ neg_ℤ (det b a c)
det_swapped a b c = ring (env [] (a ∷ b ∷ c ∷ [])) (F.det A B C) (neg (F.det B A C)) tt

pub det_swapped_right : (a b c : Vector) → det a b c ≡ neg_ℤ (det a c b)
det_swapped_right a b c = ring (env [] (a ∷ b ∷ c ∷ [])) (F.det A B C) (neg (F.det A C B)) tt

pub det_same : (a b : Vector) → det a a b ≡ pos 0
det_same a b = ring (env [] (a ∷ b ∷ [])) (F.det A A B) F.zero tt

pub det_combination_3 : (j k : ℤ) (a b c d : Vector) → det c d (sum (scaled j a) (scaled k b)) ≡ j *ℤ det c d a +ℤ k *ℤ det c d b
det_combination_3 j k a b c d = ring (env (j ∷ k ∷ []) (a ∷ b ∷ c ∷ d ∷ [])) (F.det C D (F.sum (F.scaled J A) (F.scaled K B))) (J ⊗ F.det C D A ⊕ K ⊗ F.det C D B) tt

-- ---- four vectors: each line l has the relation between them (Cramer)
pub four_dot : (a b c d l : Vector) → det b c d *ℤ dot l a -ℤ det a c d *ℤ dot l b +ℤ det a b d *ℤ dot l c -ℤ det a b c *ℤ dot l d ≡ pos 0
four_dot a b c d l = ring (env [] (a ∷ b ∷ c ∷ d ∷ l ∷ [])) (F.det B C D ⊗ F.dot E A ⊖ F.det A C D ⊗ F.dot E B ⊕ F.det A B D ⊗ F.dot E C ⊖ F.det A B C ⊗ F.dot E D) F.zero tt
