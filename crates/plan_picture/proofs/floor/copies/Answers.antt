-- One copy more, for the obstacle that comes next.
use Rattle.std.proofs.Common.{◌≡◌, [], ◌∷◌, ◌++◌, map, take, refl, ap, ap₂, sym, ◌∙◌}
use Rattle.std.proofs.lemmas.List.{map-append, take_more, take_all}
use Rattle.plan_wire.specs.declared.documents.Shape.{Shape}
use Rattle.plan_scene.specs.Scene.{obstacle}
use Rattle.plan_top.specs.First.{obstacle_of}
use Rattle.plan_picture.proofs.floor.copies.Goals as goal

pub loop-obstacle-preserved : goal.loop-obstacle-preserved
loop-obstacle-preserved c =
    let o = c.obstacle-item.result in
    let all = c.args.obstacles.now in
    let i = c.loop-obstacle.obstacle-index in
    let before = c.loop-obstacle.copies.items in
    let copy : Shape = record { id = o.id; spots = c.in_ok-from_slice.field-0 } in
    let pushed : c.push.new.self.items ≡ before ++ copy ∷ [] = rw (c.push.ensures.items, ← c.map_err.ensures.variant, c.in_ok-map_err.was) refl in
    ap (map obstacle_of) pushed ∙ map-append obstacle_of before (copy ∷ [])
    ∙ ap₂ (λ os p. os ++ p ∷ []) c.loop-obstacle.invariant (ap (obstacle o.id) (c.in_ok-from_slice.ensures.items ∙ c.as_slice.ensures.value))
    ∙ sym (map-append obstacle_of (take i all) (o ∷ [])) ∙ ap (map obstacle_of) (sym (take_more all i o c.loop-obstacle-test.true ∙ ap (λ y. take i all ++ y ∷ []) (sym c.obstacle-item.is)))

pub returns : goal.returns
returns c = c.loop-obstacle.invariant ∙ ap (map obstacle_of) (take_all c.loop-obstacle.obstacle-index c.args.obstacles.now c.loop-obstacle-test.false)
