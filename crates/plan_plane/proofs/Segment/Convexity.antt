-- A segment is convex: a combination of two of its points is on it, since it is a combination of the ends.
use Rattle.std.proofs.Common.{◌≡◌, ℤ, pos, ◌+ℤ◌, ◌*ℤ◌, ◌≤ℤ◌, [], ◌∷◌, ap₂, ◌∙◌}
use Rattle.plan_exact.specs.Expr.{◌⊕◌, ◌⊗◌}
use Rattle.plan_exact.specs.Vectors.{sum, scaled, env}
use Rattle.plan_exact.specs.Formal as F
use Rattle.plan_exact.specs.Formal.{A, B, J, K, L, M, N}
use Rattle.plan_exact.proofs.RingVectors.{ring_vectors}
use Rattle.plan_exact.proofs.Signs.{signs}
use Rattle.plan_spec.specs.Vector.{Vector, IsPoint}
use Rattle.plan_spec.specs.Segment.{On, segment}
use Rattle.plan_plane.proofs.Segment.Between.{Between, between, on}

-- two combinations of a and b, combined
combined_twice : (a b z u : Vector) (i j k f l m g n : ℤ) → scaled k z ≡ sum (scaled f a) (scaled l b) → scaled m u ≡ sum (scaled g a) (scaled n b) → scaled (k *ℤ m) (sum (scaled i z) (scaled j u)) ≡ sum (scaled ((i *ℤ m) *ℤ f +ℤ (j *ℤ k) *ℤ g) a) (scaled ((i *ℤ m) *ℤ l +ℤ (j *ℤ k) *ℤ n) b)
combined_twice a b z u i j k f l m g n p q =
    ring_vectors (env (i ∷ j ∷ k ∷ m ∷ []) (z ∷ u ∷ [])) (F.scaled (L ⊗ M) (F.sum (F.scaled J A) (F.scaled K B))) (F.sum (F.scaled (J ⊗ M) (F.scaled L A)) (F.scaled (K ⊗ L) (F.scaled M B))) tt
    ∙ ap₂ (λ v w. sum (scaled (i *ℤ m) v) (scaled (j *ℤ k) w)) p q
    ∙ ring_vectors (env ((i *ℤ m) ∷ (j *ℤ k) ∷ f ∷ l ∷ g ∷ n ∷ []) (a ∷ b ∷ [])) (F.sum (F.scaled J (F.sum (F.scaled L A) (F.scaled M B))) (F.scaled K (F.sum (F.scaled N A) (F.scaled (F.number 5) B)))) (F.sum (F.scaled (J ⊗ L ⊕ K ⊗ N) A) (F.scaled (J ⊗ M ⊕ K ⊗ F.number 5) B)) tt

pub convex : (a b z u : Vector) (i j : ℤ) → IsPoint a → IsPoint b → IsPoint z → IsPoint u → On (segment a b) z → On (segment a b) u → pos 0 ≤ℤ i → pos 0 ≤ℤ j → On (segment a b) (sum (scaled i z) (scaled j u))
convex a b z u i j ha hb hz hu h k hi hj =
    let v = between a b z ha hb hz h in
    let w = between a b u ha hb hu k in
    let hf = v.first_nonneg in
    let hl = v.second_nonneg in
    let hg = w.first_nonneg in
    let hn = w.second_nonneg in
    let hk = v.scale_positive in
    let hm = w.scale_positive in
    let m : Between a b (sum (scaled i z) (scaled j u)) = record {
      scale = v.scale *ℤ w.scale;
      first = (i *ℤ w.scale) *ℤ v.first +ℤ (j *ℤ v.scale) *ℤ w.first;
      second = (i *ℤ w.scale) *ℤ v.second +ℤ (j *ℤ v.scale) *ℤ w.second;
      scale_positive = search signs;
      first_nonneg = search signs;
      second_nonneg = search signs;
      is_sum = combined_twice a b z u i j v.scale v.first v.second w.scale w.first w.second v.is_sum w.is_sum;
    } in
    on m
