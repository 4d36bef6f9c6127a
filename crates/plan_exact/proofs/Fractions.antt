-- Fractions x / z with a positive z, compared by products: the order is transitive. Two points of the plane are so compared by a coordinate.
use Rattle.std.proofs.Common.{ℤ, pos, ◌*ℤ◌, ◌≤ℤ◌, ◌<ℤ◌, [], ◌∷◌}
use Rattle.plan_exact.specs.Expr.{var, ◌⊕◌, ◌⊖◌, ◌⊗◌}
use Rattle.plan_exact.proofs.Certificates.{le_from, lt_from}
use Rattle.plan_exact.proofs.Signs.{signs}

-- from a / p ≤ b / q and b / q ≤ c / r, a / p ≤ c / r: q times the difference is r times the first and p times the second
pub le_trans : (a p b q c r : ℤ) → pos 0 <ℤ p → pos 0 <ℤ q → pos 0 <ℤ r → (a *ℤ q) ≤ℤ (b *ℤ p) → (b *ℤ r) ≤ℤ (c *ℤ q) → (a *ℤ r) ≤ℤ (c *ℤ p)
le_trans a p b q c r hp hq hr h k =
    le_from (a ∷ p ∷ b ∷ q ∷ c ∷ r ∷ []) (var 3) (var 5 ⊗ (var 2 ⊗ var 1 ⊖ var 0 ⊗ var 3) ⊕ var 1 ⊗ (var 4 ⊗ var 3 ⊖ var 2 ⊗ var 5)) (var 0 ⊗ var 5) (var 4 ⊗ var 1) tt hq (search signs)

pub lt_le_trans : (a p b q c r : ℤ) → pos 0 <ℤ p → pos 0 <ℤ q → pos 0 <ℤ r → (a *ℤ q) <ℤ (b *ℤ p) → (b *ℤ r) ≤ℤ (c *ℤ q) → (a *ℤ r) <ℤ (c *ℤ p)
lt_le_trans a p b q c r hp hq hr h k =
    lt_from (a ∷ p ∷ b ∷ q ∷ c ∷ r ∷ []) (var 3) (var 5 ⊗ (var 2 ⊗ var 1 ⊖ var 0 ⊗ var 3) ⊕ var 1 ⊗ (var 4 ⊗ var 3 ⊖ var 2 ⊗ var 5)) (var 0 ⊗ var 5) (var 4 ⊗ var 1) tt hq (search signs)

pub le_lt_trans : (a p b q c r : ℤ) → pos 0 <ℤ p → pos 0 <ℤ q → pos 0 <ℤ r → (a *ℤ q) ≤ℤ (b *ℤ p) → (b *ℤ r) <ℤ (c *ℤ q) → (a *ℤ r) <ℤ (c *ℤ p)
le_lt_trans a p b q c r hp hq hr h k =
    lt_from (a ∷ p ∷ b ∷ q ∷ c ∷ r ∷ []) (var 3) (var 5 ⊗ (var 2 ⊗ var 1 ⊖ var 0 ⊗ var 3) ⊕ var 1 ⊗ (var 4 ⊗ var 3 ⊖ var 2 ⊗ var 5)) (var 0 ⊗ var 5) (var 4 ⊗ var 1) tt hq (search signs)
