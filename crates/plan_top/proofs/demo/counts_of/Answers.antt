-- The floor is that of the number: it is refused for its size alone, and its rounds are played.
use Rattle.std.proofs.Common.{ap, subst, ◌∙◌}
use Rattle.plan_demo.specs.Demo.{after_obstacles}
use Rattle.plan_reply.specs.First.{IsFirst}
use Rattle.plan_top.specs.First.{given_of, IsRefusedBy}
use Rattle.plan_top.proofs.Demonstrated.{given_floor, counted}
use Rattle.plan_top.proofs.TooLargeAlone.{too_large_alone}
use Rattle.plan_top.proofs.demo.counts_of.Goals as goal

pub returns-in-Err : goal.returns-in-Err
returns-in-Err g c =
    let number = c.args.number in
    let given = given_of c.frame.result c.in-Ok.robot.items c.in-Ok-obstacles.obstacles.items in
    let is_given = given_floor number c.of-draws.result c.frame.result c.in-Ok.robot.items c.in-Ok-obstacles.obstacles.items c.of-draws.ensures c.frame.ensures.seen c.in-Ok.ensures.seen c.in-Ok-obstacles.ensures.seen in
    let refused : IsRefusedBy given c.in-Err.refusal = rw c.in-Err.is at c.in_ok-stand.ensures in
    let alone = too_large_alone number given is_given c.in-Err.refusal refused in
    (alone, record { given = given; is_given = is_given; is_refused = subst (IsRefusedBy given) alone refused })

pub returns : goal.returns
returns g c =
    let number = c.args.number in
    let given = given_of c.frame.result c.in-Ok.robot.items c.in-Ok-obstacles.obstacles.items in
    let is_given = given_floor number c.of-draws.result c.frame.result c.in-Ok.robot.items c.in-Ok-obstacles.obstacles.items c.of-draws.ensures c.frame.ensures.seen c.in-Ok.ensures.seen c.in-Ok-obstacles.ensures.seen in
    let first : IsFirst given c.in-Ok-2.stand = rw c.in-Ok-2.is at c.in_ok-stand.ensures in
    counted number c.obstacles.new.self given c.in-Ok-2.stand c.of-turns.result c.play.new.self is_given first (c.in-Ok-obstacles.ensures.state ∙ ap (after_obstacles 40) c.of-draws.ensures) c.of-turns.ensures c.in_ok-play.ensures
