-- What is given by the edits is what is given by the obstacles.
use Rattle.std.proofs.Common.{map, ap, subst, ◌∙◌}
use Rattle.plan_scene.specs.Scene.{scene}
use Rattle.plan_reply.specs.First as reply
use Rattle.plan_reply.specs.First.{IsFirst, IsRefusedFirst}
use Rattle.plan_reply.specs.declared.fault.FirstFault.TheVariants as first
use Rattle.plan_top.proofs.first.first_stand.Goals as goal

pub returns-in-Ok : goal.returns-in-Ok
returns-in-Ok g c =
    let given = ap (λ es. map (λ e. reply.obstacle_of e) es) c.deref.ensures.value ∙ c.in_ok-adds.ensures.given in
    subst (λ os. IsFirst (scene c.args.robot.items c.args.frame os) c.in-Ok.stand) given c.in-Ok.ensures

pub returns-in-Err-TooManyRegions : goal.returns-in-Err-TooManyRegions
returns-in-Err-TooManyRegions g c =
    let given = ap (λ es. map (λ e. reply.obstacle_of e) es) c.deref.ensures.value ∙ c.in_ok-adds.ensures.given in
    subst (λ os. IsRefusedFirst (scene c.args.robot.items c.args.frame os) first.TooManyRegions) given (rw c.in-Err-TooManyRegions.field-0-is at c.in-Err-TooManyRegions.ensures)
