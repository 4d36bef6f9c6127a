-- The words of `Spot` over expressions, as `Formal` has those of vectors: identities of spots are then one `ring` call.
use Rattle.std.proofs.Common.{ℕ, ℤ, pos, ◌+◌, ◌*◌, List, [], ◌∷◌, ◌++◌}
use Rattle.plan_exact.specs.Expr.{Expr, var, con, ◌⊕◌, ◌⊖◌, ◌⊗◌, neg}
use Rattle.plan_exact.specs.Formal as F
use Rattle.plan_spec.specs.Vector.{Vector}
use Rattle.plan_grid.specs.declared.spot.Spot.{Spot}

-- both coordinates of each spot
abbrev pub coordinates : List Spot → List ℤ
coordinates [] = []
coordinates (a ∷ rest) = a.x ∷ a.y ∷ coordinates rest

-- those of some spots, and then a point
abbrev pub places : List Spot → Vector → List ℤ
places spots z = coordinates spots ++ z.x ∷ z.y ∷ z.w ∷ []

pub record Pair : Type 0 where
  pub x : Expr
  pub y : Expr

-- the spot of that number
abbrev pub P : ℕ → Pair
P i = record { x = var (2 * i); y = var (2 * i + 1) }

-- the point after n spots
abbrev pub Z : ℕ → F.Vec
Z n = record { x = var (2 * n); y = var (2 * n + 1); w = var (2 * n + 2) }

abbrev pub seen : Pair → F.Vec
seen p = record { x = p.x; y = p.y; w = con (pos 1) }

abbrev pub plus : Pair → Pair → Pair
plus p q = record { x = p.x ⊕ q.x; y = p.y ⊕ q.y }

abbrev pub way : Pair → Pair → Pair
way p q = record { x = q.x ⊖ p.x; y = q.y ⊖ p.y }

abbrev pub opposite : Pair → Pair
opposite p = record { x = neg p.x; y = neg p.y }

abbrev pub cross : Pair → Pair → Expr
cross d e = d.x ⊗ e.y ⊖ d.y ⊗ e.x

abbrev pub beside : Pair → Pair → F.Vec → Expr
beside v d z = d.x ⊗ (z.y ⊖ v.y ⊗ z.w) ⊖ d.y ⊗ (z.x ⊖ v.x ⊗ z.w)
