-- A point of a part of a segment is on the segment: put the one combination into the other.
use Rattle.std.proofs.Common.{◌+ℤ◌, ◌*ℤ◌, [], ◌∷◌, ap, ◌∙◌, arith}
use Rattle.plan_exact.specs.Expr.{◌⊕◌, ◌⊗◌}
use Rattle.plan_exact.specs.Formal.{A, B, J, K, L, M}
use Rattle.plan_exact.specs.Formal as F
use Rattle.plan_exact.specs.Vectors.{sum, scaled, env}
use Rattle.plan_spec.specs.Vector.{Vector, IsPoint}
use Rattle.plan_spec.specs.Segment.{Segment, HasPoints, On}
use Rattle.plan_spec.specs.Weights.{weighted}
use Rattle.plan_exact.proofs.Laws.{linear}
use Rattle.plan_exact.proofs.RingVectors.{ring_vectors}
use Rattle.plan_exact.proofs.Signs.{mul_nonneg, mul_pos, le_of_lt}
use Rattle.plan_plane.proofs.Segment.Between.{Between}
use Rattle.plan_plane.proofs.Segment.Convexity.{convex}
use Rattle.plan_plane.proofs.Segment.Same.{on_same}
use Rattle.plan_plane.proofs.Segment.Weights.{weights_on, weights_point}

-- ---- a point of a segment's part is on the segment
pub between_part : {a b z c : Vector} → Between a b z → Between a z c → Between a b c
between_part {a} {b} {z} {c} m n =
    let step1 = ring_vectors (env (m.scale ∷ n.scale ∷ []) (c ∷ [])) (F.scaled (J ⊗ K) A) (F.scaled J (F.scaled K A)) tt in
    let step2 = ring_vectors (env (m.scale ∷ n.first ∷ n.second ∷ []) (a ∷ z ∷ [])) (F.scaled J (F.sum (F.scaled K A) (F.scaled L B))) (F.sum (F.scaled (J ⊗ K) A) (F.scaled L (F.scaled J B))) tt in
    let step3 = ring_vectors (env ((m.scale *ℤ n.first) ∷ n.second ∷ m.first ∷ m.second ∷ []) (a ∷ b ∷ [])) (F.sum (F.scaled J A) (F.scaled K (F.sum (F.scaled L A) (F.scaled M B)))) (F.sum (F.scaled (J ⊕ K ⊗ L) A) (F.scaled (K ⊗ M) B)) tt in
    record {
      scale = m.scale *ℤ n.scale;
      first = m.scale *ℤ n.first +ℤ n.second *ℤ m.first;
      second = n.second *ℤ m.second;
      scale_positive = mul_pos m.scale_positive n.scale_positive;
      first_nonneg = omega (arith, linear, mul_nonneg (le_of_lt m.scale_positive) n.first_nonneg, mul_nonneg n.second_nonneg m.first_nonneg);
      second_nonneg = mul_nonneg n.second_nonneg m.second_nonneg;
      is_sum = step1 ∙ ap (scaled m.scale) n.is_sum ∙ step2 ∙ ap (λ k. sum (scaled (m.scale *ℤ n.first) a) (scaled n.second k)) m.is_sum ∙ step3;
    }

-- ---- of any part
pub on_part_of : (e p : Segment) (z : Vector) → HasPoints e → HasPoints p → IsPoint z → On e p.a → On e p.b → On p z → On e z
on_part_of e p z he hp hz ha hb on_p =
    let w = weights_on p.a p.b z hp.0 hp.1 hz on_p in
    on_same e.a e.b (weighted p.a p.b w.at) z he.0 he.1 (weights_point p.a p.b w.at hp.0 hp.1 w.weights) hz w.same
    (convex e.a e.b p.a p.b w.at.s w.at.t he.0 he.1 hp.0 hp.1 ha hb w.weights.first w.weights.second)
