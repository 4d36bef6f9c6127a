-- The next obstacle is put behind where its id is lesser.
use Rattle.std.proofs.Common.{◌++◌, ◌∷◌, [], append-nil, take_all, ap, sym, ◌∙◌, arith}
use Rattle.std.specs.List.{filter}
use Rattle.plan_scene.specs.Scene.{is_lesser}
use Rattle.plan_scene.proofs.Filtered.{kept, passed, less_true, less_false}
use Rattle.plan_scene.proofs.obstacle.push_lesser.Goals as goal
use Rattle.plan_scene.proofs.obstacle.push_lesser.Goals.{then-id+in_ok-share+in_ok-push, else-id}

pub loop-obstacle-init : goal.loop-obstacle-init
loop-obstacle-init c = sym (append-nil c.args.list.now.items)

pub loop-obstacle-preserved : goal.loop-obstacle-preserved
loop-obstacle-preserved c = elim c.if-id.branch [
  | then-id+in_ok-share+in_ok-push w ↦ kept (is_lesser c.args.id) c.args.list.now.items c.loop-obstacle.list.items c.args.obstacles.now c.loop-obstacle.obstacle-index c.obstacle-item.result c.loop-obstacle-test.true c.obstacle-item.is c.loop-obstacle.invariant c.if-id.list.items
      (less_true c.obstacle-item.result.id c.args.id (let h = w.if-id.true in omega (arith, c.id.ensures))) (ap (λ l. l.items) w.list-is ∙ w.in_ok-push.ensures.items ∙ ap (λ o. c.loop-obstacle.list.items ++ o ∷ []) w.in_ok-share.ensures)
  | else-id w ↦ ap (λ l. l.items) w.list-is ∙ passed (is_lesser c.args.id) c.args.list.now.items c.loop-obstacle.list.items c.args.obstacles.now c.loop-obstacle.obstacle-index c.obstacle-item.result c.loop-obstacle-test.true c.obstacle-item.is c.loop-obstacle.invariant
      (less_false c.obstacle-item.result.id c.args.id (let h = w.if-id.false in omega (arith, c.id.ensures)))
]

pub returns : goal.returns
returns c = c.loop-obstacle.invariant ∙ ap (λ l. c.args.list.now.items ++ filter (is_lesser c.args.id) l) (take_all c.loop-obstacle.obstacle-index c.args.obstacles.now c.loop-obstacle-test.false)
