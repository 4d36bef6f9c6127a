-- Frames, and what is on their sides or beyond them.
use Rattle.std.specs.Prelude.{◌⊎◌}
use Rattle.plan_spec.specs.Vector.{Vector, LeX, LeY}

-- an axis-parallel rectangle, by its lower left and its upper right corner
pub record Frame : Type 0 where
  pub low : Vector
  pub high : Vector

-- z is on a side of the frame, or beyond it
abbrev pub OnOrBeyond : Frame → Vector → Type 0
OnOrBeyond frame z = LeX z frame.low ⊎ (LeX frame.high z ⊎ (LeY z frame.low ⊎ LeY frame.high z))
