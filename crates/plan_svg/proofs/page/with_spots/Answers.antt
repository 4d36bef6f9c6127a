-- The next spot widens the box, and it is in range.
use Rattle.std.proofs.Common.{arith, ◌≡◌, ◌+◌, pos, neg_ℤ, ◌≤ℤ◌, drop, get_or, ap, sym, subst, ◌∙◌}
use Rattle.std.proofs.lemmas.Int.{ints}
use Rattle.std.proofs.lemmas.List.{drop_more}
use Rattle.plan_grid.specs.declared.spot.Spot.{Spot}
use Rattle.plan_grid.specs.Spot.{IsWithin, plus}
use Rattle.plan_svg.specs.Page.{IsPageBox, with_spot, with_spots}
use Rattle.plan_svg.proofs.Boxes.{with_spot_fits}
use Rattle.plan_svg.proofs.page.with_spots.Goals as goal

pub loop-spot-preserved : goal.loop-spot-preserved
loop-spot-preserved c =
    let box = c.loop-spot.frame in
    let at = c.args.at in
    let spots = c.args.spots.now in
    let i = c.loop-spot.spot-index in
    let s : Spot = get_or spots i (record { x = pos 0; y = pos 0 }) in
    let rest = drop (i + 1) spots in
    let next : c.with_spot-frame.result ≡ with_spot box (plus s at) = c.with_spot-frame.ensures ∙ ap (with_spot box) c.plus.ensures in
    let w : IsWithin 1023 s = c.requires.spots i (record { x = pos 0; y = pos 0 }) c.loop-spot-test.true in
    let o : IsWithin 2046 at = c.requires.at in (
      ap (λ f. with_spots f at rest) next ∙ ap (with_spots box at) (sym (drop_more spots i (record { x = pos 0; y = pos 0 }) c.loop-spot-test.true)) ∙ c.loop-spot.invariant.0,
      λ h. subst IsPageBox (sym next)
          (with_spot_fits box (plus s at) (omega (arith, ints, w.x, o.x)) (omega (arith, ints, w.x, o.x)) (omega (arith, ints, w.y, o.y)) (omega (arith, ints, w.y, o.y)) (c.loop-spot.invariant.1 h)),
    )
