-- What the definitions of polygons say together, over every rational point.
use Rattle.std.specs.Prelude.{◌≡◌, ◌↔◌, pos, [], ◌∷◌}
use Rattle.plan_spec.specs.Vector.{Vector, IsPoint, turn}
use Rattle.plan_spec.specs.Polygon.{Inside}
use Rattle.plan_spec.specs.SimplePolygon.{InPolygon}
use Rattle.plan_grid.specs.Triangle.{counterclockwise_triangle}

-- a triangle that is not flat, whichever way its vertices are given, has the same points by its three sides and by the even-odd rule
abbrev pub ThreeSides : Type 0
ThreeSides =
    (a b c z : Vector) → IsPoint a → IsPoint b → IsPoint c → IsPoint z → ¬ (turn a b c ≡ pos 0)
    → InPolygon (a ∷ b ∷ c ∷ []) z ↔ Inside (counterclockwise_triangle (a ∷ b ∷ c ∷ [])) z
