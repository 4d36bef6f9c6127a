-- One edit more, for the obstacle that comes next.
use Rattle.std.proofs.Common.{◌≡◌, ◌∷◌, [], ◌++◌, map, refl, ap, ◌∙◌}
use Rattle.std.specs.Vec.Iter.{into_iter_items, into_iter_len}
use Rattle.plan_wire.specs.Bounds.{ShapeFits}
use Rattle.plan_scene.specs.declared.edit.Edit.TheVariants.{Add}
use Rattle.plan_reply.specs.First as reply
use Rattle.plan_reply.specs.First.{IsAdd}
use Rattle.plan_top.specs.First.{obstacle_of}
use Rattle.plan_top.proofs.Adds.{adds}
use Rattle.plan_top.proofs.OneByOne.{all_seen, next_fits, one_more}
use Rattle.plan_top.proofs.first.adds_of.Goals as goal

pub loop-id-preserved : goal.loop-id-preserved
loop-id-preserved c =
    let at = c.loop-id in
    let s = c.in-Some.field-0 in
    let left = into_iter_items at.id-iterator in
    let rest = into_iter_items c.next.new.self in
    let fits = next_fits ShapeFits IsAdd obstacle_of (λ e. reply.obstacle_of e) _ at.yielded left (into_iter_len at.id-iterator) at.adds.items at.invariant s rest c.in-Some.ensures.steps.0 in
    let pushed : c.push.new.self.items ≡ at.adds.items ++ Add s.id s.spots ∷ [] = rw (c.push.ensures.items, ← c.map_err.ensures.variant, c.in_ok-map_err.was) refl in
    one_more ShapeFits IsAdd obstacle_of (λ e. reply.obstacle_of e) _ at.yielded left (into_iter_len at.id-iterator) at.adds.items at.invariant s rest (into_iter_len c.next.new.self) (Add s.id s.spots) c.push.new.self.items c.in-Some.ensures.steps pushed (adds s fits) refl

pub returns-clause-given : goal.returns-clause-given
returns-clause-given c =
    let at = c.loop-id in
    all_seen ShapeFits IsAdd obstacle_of (λ e. reply.obstacle_of e) _ at.yielded (into_iter_items at.id-iterator) (into_iter_len at.id-iterator) at.adds.items at.invariant c.in-None.ensures.steps.0
    ∙ ap (map obstacle_of) c.into_iter-id-iterator.ensures.into_iter_gives.0
