-- One place more, for the obstacle that comes next.
use Rattle.std.proofs.Common.{◌≡◌, ◌+◌, [], ◌∷◌, ◌++◌, map, take, refl, ap, sym, subst, ◌∙◌}
use Rattle.std.specs.List.{AllZip}
use Rattle.std.proofs.lemmas.List.{map-append, take_more}
use Rattle.plan_plane.proofs.Lists.{zip_push}
use Rattle.plan_top.specs.First.{obstacle_of}
use Rattle.plan_picture.specs.Floor.{IsNamePlace}
use Rattle.plan_picture.proofs.names.name_places.Goals as goal

pub loop-obstacle-preserved : goal.loop-obstacle-preserved
loop-obstacle-preserved c =
    let o = c.obstacle-item.result in
    let all = c.args.obstacles.now in
    let i = c.loop-obstacle.obstacle-index in
    let before = c.loop-obstacle.places.items in
    let place = c.in_ok-place.place in
    let pushed : c.push.new.self.items ≡ before ++ place ∷ [] = rw (c.push.ensures.items, ← c.map_err.ensures.variant, c.in_ok-map_err.was) refl in
    let taken : map obstacle_of (take (i + 1) all) ≡ map obstacle_of (take i all) ++ obstacle_of o ∷ [] =
    ap (map obstacle_of) (take_more all i o c.loop-obstacle-test.true ∙ ap (λ y. take i all ++ y ∷ []) (sym c.obstacle-item.is)) ∙ map-append obstacle_of (take i all) (o ∷ []) in
    subst (λ ps. AllZip IsNamePlace (map obstacle_of (take (i + 1) all)) ps) (sym pushed)
    (subst (λ os. AllZip IsNamePlace os (before ++ place ∷ [])) (sym taken) (zip_push IsNamePlace (map obstacle_of (take i all)) before (obstacle_of o) place c.loop-obstacle.invariant c.in_ok-place.ensures))
