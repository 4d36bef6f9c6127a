-- What was put behind a list of points.
use Rattle.std.specs.Prelude.{List, ◌++◌, All}
use Rattle.std.specs.List.{AllZip}
use Rattle.plan_spec.specs.Vector.{Vector, Same}
use Rattle.plan_grid.specs.Bounds.{IsInRange}

-- the new points are the old ones, and behind them points at these positions, in lowest terms
pub record AreLonger (vs old new : List Vector) : Type 0 where
  pub alike : (before : List Vector) → AllZip Same old before → AllZip Same new (before ++ vs)
  pub lowest : All IsInRange old → All IsInRange new
