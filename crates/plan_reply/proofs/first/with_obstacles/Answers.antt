-- The loop puts in one obstacle after another, and leaves at the first that is refused.
use Rattle.std.proofs.Common.{rules, ◌≡◌, ◌<◌, ℕ, List, map, get_or, length, sym, ◌∙◌, subst, ap, arith}
use Rattle.std.proofs.lemmas.List.{length-map, get_or-map}
use Rattle.plan_scene.specs.Edits.{IsAdded, IsNotAdded}
use Rattle.plan_scene.specs.declared.edit.Edit.{Edit}
use Rattle.plan_reply.specs.First.{IsAdd, obstacle_of}
use Rattle.plan_reply.specs.Step.{IsCause}
use Rattle.plan_reply.proofs.Made.{one_more, refused_at, as_added, as_not_added}
use Rattle.plan_reply.proofs.first.with_obstacles.Goals as goal

here : (adds : List Edit) (i : ℕ) (e : Edit) → i < length adds → e ≡ get_or adds i e → get_or (map obstacle_of adds) i (obstacle_of e) ≡ obstacle_of e
here adds i e within is = get_or-map obstacle_of adds i e (obstacle_of e) within ∙ ap obstacle_of (sym is)

pub returns-in-Err : goal.returns-in-Err
returns-in-Err c =
    let adds = c.args.adds.now in
    let e = c.index-adds-at.result in
    let long = length-map adds obstacle_of in
    let within : c.loop-at.at < length adds = c.loop-at-test.true in
    let is_add : IsAdd e = subst IsAdd (sym c.index-adds-at.is) (c.requires.adds c.loop-at.at e within) in
    let cause : IsCause c.in-Err.fault = search rules in
    refused_at (map obstacle_of adds) c.loop-at.at (obstacle_of e) c.args.alone c.loop-at.scene c.in-Err.fault (omega arith) c.loop-at.invariant
    (subst (λ o. IsNotAdded c.loop-at.scene o.id o.spots c.in-Err.fault) (sym (here adds c.loop-at.at e within c.index-adds-at.is)) (as_not_added c.loop-at.scene e c.in-Err.fault is_add c.in-Err.ensures)) cause

pub loop-at-preserved : goal.loop-at-preserved
loop-at-preserved c =
    let adds = c.args.adds.now in
    let e = c.index-adds-at.result in
    let long = length-map adds obstacle_of in
    let within : c.loop-at.at < length adds = c.loop-at-test.true in
    let is_add : IsAdd e = subst IsAdd (sym c.index-adds-at.is) (c.requires.adds c.loop-at.at e within) in
    one_more (map obstacle_of adds) c.loop-at.at (obstacle_of e) c.args.alone c.loop-at.scene c.in-Ok.next (omega arith) c.loop-at.invariant
    (subst (λ o. IsAdded c.loop-at.scene o.id o.spots c.in-Ok.next) (sym (here adds c.loop-at.at e within c.index-adds-at.is)) (as_added c.loop-at.scene c.in-Ok.next e is_add c.in-Ok.ensures))
