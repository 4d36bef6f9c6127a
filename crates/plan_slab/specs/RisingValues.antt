-- Fractions by rising value.
use Rattle.std.specs.Prelude.{List, All, Any, AllPairs, Contains}
use Rattle.plan_grid.specs.Fraction.{Fraction, SameValue, IsRatio}
use Rattle.plan_convex.specs.Parameter.{Less}

-- ys has the values of xs by rising value, each once
pub record IsRisingOf (xs ys : List Fraction) : Type 0 where
  pub ratios : All IsRatio ys
  pub rising : AllPairs Less ys
  pub each : (f : Fraction) → Contains ys f → Contains xs f
  pub all : All (λ f. Any (SameValue f) ys) xs
