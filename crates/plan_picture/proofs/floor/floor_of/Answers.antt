-- The copies are in range as what they are copies of, and each obstacle of a first scene is a simple polygon.
use Rattle.std.proofs.Common.{All, map, ap, sym, subst, ◌∙◌}
use Rattle.plan_poly.specs.Polygon.{IsSimpleList}
use Rattle.plan_top.specs.First.{given_of, obstacle_of}
use Rattle.plan_picture.proofs.Obstacles.{copies_fit, all_simple}
use Rattle.plan_picture.proofs.floor.floor_of.Goals as goal

pub first_stand-requires-clause-obstacles : goal.first_stand-requires-clause-obstacles
first_stand-requires-clause-obstacles g c κs within =
    copies_fit c.in_ok-own_obstacles.own_obstacles.items c.args.obstacles.items (c.in_ok-own_obstacles.ensures ∙ ap (map obstacle_of) c.as_slice-2.ensures.value) c.requires.obstacles

pub name_places-requires : goal.name_places-requires
name_places-requires g c =
    let own = c.in_ok-own_obstacles.own_obstacles.items in
    subst (All (λ o. IsSimpleList o.spots.items)) (sym c.as_slice-3.ensures.value)
    (all_simple (given_of c.args.frame c.in_ok-own_robot.own_robot.items own) c.in-Ok-Ok.stand c.args.obstacles.items (c.in_ok-own_obstacles.ensures ∙ ap (map obstacle_of) c.as_slice-2.ensures.value) (rw c.in-Ok-Ok.field-0-is at c.in-Ok-Ok.ensures))
