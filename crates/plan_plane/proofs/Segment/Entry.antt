-- On the way from a point outside two half-planes to a point inside both there is a point on the side of one of them, where it comes in.
use Rattle.std.proofs.Common.{◌≡◌, ◌⊎◌, pos, ◌≤ℤ◌, neg_ℤ, inl, ◌<ℤ◌, [], ◌∷◌, arith, inr, ◌-ℤ◌, ◌*ℤ◌}
use Rattle.plan_exact.specs.Expr.{con, neg, ◌⊖◌, ◌⊗◌, ◌⊕◌}
use Rattle.plan_exact.specs.Formal.{A, B, C, D}
use Rattle.plan_exact.specs.Formal as F
use Rattle.plan_exact.specs.Vectors.{dot, sum, scaled, env}
use Rattle.plan_exact.proofs.Certificates.{le_from}
use Rattle.plan_exact.proofs.Laws.{linear}
use Rattle.plan_exact.proofs.Ring.{ring}
use Rattle.plan_exact.proofs.RingVectors.{ring_vectors}
use Rattle.plan_exact.proofs.Signs.{signs, mul_nonneg, mul_pos, le_of_lt, le_or_lt}
use Rattle.plan_spec.specs.Vector.{Vector, IsPoint}
use Rattle.plan_plane.proofs.Segment.Between.{Between}

-- ---- from a point outside to one inside: the point of the segment where it comes in
pub record Entry (l m a z : Vector) : Type 0 where
  pub at : Vector
  pub point : IsPoint at
  pub between : Between a z at
  pub side : ((dot l at ≡ pos 0) × (pos 0 ≤ℤ dot m at)) ⊎ ((dot m at ≡ pos 0) × (pos 0 ≤ℤ dot l at))

pub entry_at : Vector → Vector → Vector → Vector
entry_at l a z = sum (scaled (dot l z) a) (scaled (neg_ℤ (dot l a)) z)

-- where l is 0
pub through : (l m a z : Vector) → IsPoint a → IsPoint z → pos 0 ≤ℤ dot l z → dot l a <ℤ pos 0 → pos 0 ≤ℤ dot m (entry_at l a z) → Entry l m a z
unfolding entry_at
through l m a z ha hz lz la h =
    let k : pos 0 <ℤ neg_ℤ (dot l a) = omega (arith, linear) in
    record {
      at = entry_at l a z;
      point = omega (arith, linear, mul_nonneg lz (le_of_lt ha), mul_pos k hz);
      between = record {
        scale = pos 1;
        first = dot l z;
        second = neg_ℤ (dot l a);
        scale_positive = search signs;
        first_nonneg = lz;
        second_nonneg = le_of_lt k;
        is_sum = ring_vectors (env [] (entry_at l a z ∷ [])) (F.scaled (con (pos 1)) A) A tt;
      };
      side = inl (ring (env [] (l ∷ a ∷ z ∷ [])) (F.dot A (F.sum (F.scaled (F.dot A C) B) (F.scaled (neg (F.dot A B)) C))) F.zero tt, h);
    }

entry_swapped : {l m a z : Vector} → Entry m l a z → Entry l m a z
entry_swapped {l} {m} e = record { at = e.at; point = e.point; between = e.between; side = by e.side }
  where
    by : ((dot m e.at ≡ pos 0) × (pos 0 ≤ℤ dot l e.at)) ⊎ ((dot l e.at ≡ pos 0) × (pos 0 ≤ℤ dot m e.at)) → ((dot l e.at ≡ pos 0) × (pos 0 ≤ℤ dot m e.at)) ⊎ ((dot m e.at ≡ pos 0) × (pos 0 ≤ℤ dot l e.at))
    by (inl h) = inr h
    by (inr h) = inl h

-- what m is where l is 0
at_entry : (l m a z : Vector) → dot m (entry_at l a z) ≡ dot l z *ℤ dot m a -ℤ dot l a *ℤ dot m z
unfolding entry_at
at_entry l m a z = ring (env [] (l ∷ m ∷ a ∷ z ∷ [])) (F.dot B (F.sum (F.scaled (F.dot A D) C) (F.scaled (neg (F.dot A C)) D))) (F.dot A D ⊗ F.dot B C ⊖ F.dot A C ⊗ F.dot B D) tt

at_entry_opposite : (l m a z : Vector) → dot l (entry_at m a z) ≡ neg_ℤ (dot m (entry_at l a z))
unfolding entry_at
at_entry_opposite l m a z =
    ring (env [] (l ∷ m ∷ a ∷ z ∷ [])) (F.dot A (F.sum (F.scaled (F.dot B D) C) (F.scaled (neg (F.dot B C)) D))) (neg (F.dot B (F.sum (F.scaled (F.dot A D) C) (F.scaled (neg (F.dot A C)) D)))) tt

pub at_own : (l a z : Vector) → dot l (entry_at l a z) ≡ pos 0
unfolding entry_at
at_own l a z = ring (env [] (l ∷ a ∷ z ∷ [])) (F.dot A (F.sum (F.scaled (F.dot A C) B) (F.scaled (neg (F.dot A B)) C))) F.zero tt

by_first : (l m a z : Vector) → IsPoint a → IsPoint z → pos 0 ≤ℤ dot l z → pos 0 ≤ℤ dot m z → dot l a <ℤ pos 0 → Entry l m a z
by_first l m a z ha hz lz mz la = by (le_or_lt (pos 0) (dot m (entry_at l a z))) (le_or_lt (pos 0) (dot m a))
  where
    by : (pos 0 ≤ℤ dot m (entry_at l a z)) ⊎ (dot m (entry_at l a z) <ℤ pos 0) → (pos 0 ≤ℤ dot m a) ⊎ (dot m a <ℤ pos 0) → Entry l m a z
    by (inl h) s = through l m a z ha hz lz la h
    by (inr n) (inr ma) = entry_swapped (through m l a z ha hz mz ma (omega (arith, linear, at_entry_opposite l m a z)))
    by (inr n) (inl ma) =
        let k : pos 0 ≤ℤ (dot l z *ℤ dot m a -ℤ dot l a *ℤ dot m z) = le_from (env [] (l ∷ m ∷ a ∷ z ∷ [])) (con (pos 1)) (F.dot A D ⊗ F.dot B C ⊕ neg (F.dot A C) ⊗ F.dot B D) F.zero (F.dot A D ⊗ F.dot B C ⊖ F.dot A C ⊗ F.dot B D) tt (search signs) (search signs) in
        absurd (omega (arith, linear, at_entry l m a z))

pub entry : (l m a z : Vector) → IsPoint a → IsPoint z → pos 0 ≤ℤ dot l z → pos 0 ≤ℤ dot m z → (dot l a <ℤ pos 0) ⊎ (dot m a <ℤ pos 0) → Entry l m a z
entry l m a z ha hz lz mz (inl la) = by_first l m a z ha hz lz mz la
entry l m a z ha hz lz mz (inr ma) = entry_swapped (by_first m l a z ha hz mz lz ma)
