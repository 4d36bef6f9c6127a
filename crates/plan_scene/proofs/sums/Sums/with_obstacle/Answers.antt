-- The next triangle's sums are put behind those of the triangles before it.
use Rattle.std.proofs.Common.{map, take_all, subst}
use Rattle.plan_spec.specs.Sums.{part, parts_of}
use Rattle.plan_grid.proofs.Spots.{origin}
use Rattle.plan_tri.specs.Triangle.{triangle_seen, triangles_seen}
use Rattle.plan_scene.specs.Built.{Adds}
use Rattle.plan_scene.proofs.Building.{adds_none, flat_mapped_step}
use Rattle.plan_scene.proofs.sums.Sums.with_obstacle.Goals as goal

pub loop-piece-init : goal.loop-piece-init
loop-piece-init c = adds_none c.args.self

pub loop-piece-preserved : goal.loop-piece-preserved
loop-piece-preserved c =
    flat_mapped_step (λ t. map (part c.args.id t) (triangles_seen c.args.robot.now)) triangle_seen c.args.pieces.now c.loop-piece.piece-index (record { a = origin; b = origin; c = origin }) c.args.self c.loop-piece.sums c.in_ok-sums.sums c.loop-piece-test.true c.loop-piece.invariant
    c.in_ok-sums.ensures

pub returns : goal.returns
returns c = subst (λ l. Adds (parts_of (triangles_seen c.args.robot.now) c.args.id (triangles_seen l)) c.args.self c.loop-piece.sums) (take_all c.loop-piece.piece-index c.args.pieces.now c.loop-piece-test.false) c.loop-piece.invariant
