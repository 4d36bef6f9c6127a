-- The next obstacle widens the box.
use Rattle.std.proofs.Common.{◌≡◌, ◌+◌, ◌∷◌, pos, drop, map, ap, sym, ◌∙◌}
use Rattle.std.proofs.lemmas.List.{drop_more}
use Rattle.plan_svg.specs.Page.{with_spots}
use Rattle.plan_top.specs.First.{obstacle_of}
use Rattle.plan_picture.specs.Floor.{at}
use Rattle.plan_picture.specs.Picture.{with_obstacles}
use Rattle.plan_picture.proofs.picture.with_obstacles.Goals as goal

pub loop-obstacle-preserved : goal.loop-obstacle-preserved
loop-obstacle-preserved c =
    let box = c.loop-obstacle.frame in
    let i = c.loop-obstacle.obstacle-index in
    let all = c.args.obstacles.now in
    let o = c.obstacle-item.result in
    let rest = map obstacle_of (drop (i + 1) all) in
    let next : c.with_spots-frame.result ≡ with_spots box (at (pos 0) (pos 0)) o.spots.items = c.with_spots-frame.ensures.value ∙ ap (with_spots box (at (pos 0) (pos 0))) c.as_slice.ensures.value in (
      ap (λ f. with_obstacles f rest) next ∙ ap (λ l. with_obstacles box (map obstacle_of l)) (sym (drop_more all i o c.loop-obstacle-test.true ∙ ap (λ y. y ∷ drop (i + 1) all) (sym c.obstacle-item.is))) ∙ c.loop-obstacle.invariant.0,
      λ h. c.with_spots-frame.ensures.fits (c.loop-obstacle.invariant.1 h),
    )
