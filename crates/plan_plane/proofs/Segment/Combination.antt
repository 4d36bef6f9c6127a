-- A combination of the ends of a segment, with weights that are not negative, is on the segment.
use Rattle.std.proofs.Common.{ℤ, pos, ◌≤ℤ◌, [], ◌∷◌}
use Rattle.plan_exact.specs.Expr.{con}
use Rattle.plan_exact.specs.Vectors.{sum, scaled, env}
use Rattle.plan_spec.specs.Vector.{Vector}
use Rattle.plan_exact.specs.Formal as F
use Rattle.plan_exact.specs.Formal.{A}
use Rattle.plan_exact.proofs.RingVectors.{ring_vectors}
use Rattle.plan_exact.proofs.Signs.{signs}
use Rattle.plan_spec.specs.Segment.{On, segment}
use Rattle.plan_plane.proofs.Segment.Between.{Between, on}

pub between_combination : (j k : ℤ) (a b : Vector) → pos 0 ≤ℤ j → pos 0 ≤ℤ k → Between a b (sum (scaled j a) (scaled k b))
between_combination j k a b hj hk = record {
  scale = pos 1;
  first = j;
  second = k;
  scale_positive = search signs;
  first_nonneg = hj;
  second_nonneg = hk;
  is_sum = ring_vectors (env [] (sum (scaled j a) (scaled k b) ∷ [])) (F.scaled (con (pos 1)) A) A tt;
}

pub on_combination : (j k : ℤ) (a b : Vector) → pos 0 ≤ℤ j → pos 0 ≤ℤ k → On (segment a b) (sum (scaled j a) (scaled k b))
on_combination j k a b hj hk = on (between_combination j k a b hj hk)
