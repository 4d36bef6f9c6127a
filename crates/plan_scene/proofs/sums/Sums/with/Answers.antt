-- One element is put behind each of the three lists.
use Rattle.plan_scene.proofs.Building.{pushed}
use Rattle.plan_scene.proofs.sums.Sums.with.Goals as goal

pub returns : goal.returns
returns c p own meaning =
    pushed c.args.self (record { list = c.push-3.new.self; bounds = c.push.new.self; owners = c.push-2.new.self }) c.args.id c.args.next c.bounds.result p
    c.in_ok-push-3.ensures.items c.in_ok-push.ensures.items c.in_ok-push-2.ensures.items (rw c.spots.ensures.value at c.bounds.ensures) own (record { convex = c.spots.ensures.convex; meaning = meaning })
