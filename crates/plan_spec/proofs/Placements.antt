-- What a placement touches, tried on worked cases: a triangle as the robot, and an L as the obstacle.
use Rattle.std.proofs.Common.{◌≡◌, inl, inr, pos, negsuc, false, List, [], ◌∷◌, refl}
use Rattle.std.specs.Int.Signed.{le_z_yes, lt_z_yes}
use Rattle.plan_spec.specs.Vector.{Vector, spot}
use Rattle.plan_spec.specs.Parity.{parity}
use Rattle.plan_spec.specs.Polygon.{edges}
use Rattle.plan_spec.specs.SimplePolygon.{InPolygon}
use Rattle.plan_spec.specs.Placement.{Scene, Meets, Leaves, IsTouched}

abbrev robot : List Vector
robot = spot (pos 0) (pos 0) ∷ spot (pos 2) (pos 0) ∷ spot (pos 0) (pos 2) ∷ []

abbrev ell : List Vector
ell = spot (pos 0) (pos 0) ∷ spot (pos 4) (pos 0) ∷ spot (pos 4) (pos 2) ∷ spot (pos 2) (pos 2) ∷ spot (pos 2) (pos 4) ∷ spot (pos 0) (pos 4) ∷ []

-- the foot of the L is odd, its notch even
in_foot : InPolygon ell (spot (pos 3) (pos 1))
in_foot = inr refl

in_notch : parity (edges ell) (spot (pos 3) (pos 3)) ≡ false
in_notch = refl

-- (4/3, 4/3) is a point of the robot at (1, 1) and of the L
meets_ell : Meets robot ell (spot (pos 1) (pos 1))
meets_ell = (record { x = pos 4; y = pos 4; w = pos 3 }, lt_z_yes tt, inr refl, inr refl)

-- at (-5, 3) the robot has the corner (-5, 3), left of the frame: its number is 0, though there is an obstacle
abbrev scene : Scene
scene = record {
  frame = record { low = spot (pos 0) (pos 0); high = spot (pos 10) (pos 8) };
  robot = robot;
  obstacles = record { id = 7; shape = ell } ∷ [];
}

leaves_frame : Leaves robot scene.frame (spot (negsuc 4) (pos 3))
leaves_frame = (record { x = negsuc 17; y = pos 14; w = pos 4 }, lt_z_yes tt, inr refl, inl (le_z_yes tt))

number : IsTouched scene (spot (negsuc 4) (pos 3)) 0
number = inl (refl, leaves_frame)
