-- Frames as the definitions see them.
use Rattle.std.specs.Prelude.{◌⊎◌}
use Rattle.plan_spec.specs.Vector.{Vector, LtX, LtY}
use Rattle.plan_spec.specs.Frame as spec
use Rattle.plan_grid.specs.declared.frame.Frame.{Frame}
use Rattle.plan_grid.specs.Spot.{spot_seen}

-- a frame as a frame of the plane
abbrev pub frame_seen : Frame → spec.Frame
frame_seen f = record { low = spot_seen f.low; high = spot_seen f.high }

-- z is strictly beyond a side of the frame
abbrev pub IsPast : spec.Frame → Vector → Type 0
IsPast frame z = LtX z frame.low ⊎ (LtX frame.high z ⊎ (LtY z frame.low ⊎ LtY frame.high z))
