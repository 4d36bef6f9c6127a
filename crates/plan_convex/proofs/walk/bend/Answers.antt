-- How the edges turn is their orientation as seen from the origin.
use Rattle.std.proofs.Common.{◌≡◌, pos, ◌∙◌, ap₂, subst, [], ◌∷◌}
use Rattle.plan_exact.specs.Expr.{con}
use Rattle.plan_exact.specs.Formal as F
use Rattle.plan_exact.proofs.Ring.{ring}
use Rattle.plan_spec.specs.Vector.{turn, spot}
use Rattle.plan_grid.specs.declared.spot.Spot.{Spot}
use Rattle.plan_grid.specs.Order.{IsSign}
use Rattle.plan_grid.specs.Spot.{spot_seen, cross}
use Rattle.plan_grid.proofs.FormalSpots as S
use Rattle.plan_grid.proofs.FormalSpots.{coordinates, P}
use Rattle.plan_convex.proofs.walk.bend.Goals as goal

-- as seen from the origin
turn_is_cross : (e f : Spot) → turn (spot (pos 0) (pos 0)) (spot_seen e) (spot_seen f) ≡ cross e f
turn_is_cross e f = ring (coordinates (e ∷ f ∷ [])) (F.det (record { x = F.zero; y = F.zero; w = con (pos 1) }) (S.seen (P 0)) (S.seen (P 1))) (S.cross (P 0) (P 1)) tt

pub returns : goal.returns
returns c = subst (IsSign c.orientation.result) (turn_is_cross c.edge.result c.edge-2.result ∙ ap₂ cross c.edge.ensures c.edge-2.ensures) c.orientation.ensures
