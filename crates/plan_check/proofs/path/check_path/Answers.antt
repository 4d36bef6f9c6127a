-- Each return tells what the tests so far have found.
use Rattle.std.proofs.Common.{◌≡◌, [], refl, sym, subst, ◌∙◌}
use Rattle.plan_spec.specs.Vector.{Same}
use Rattle.plan_spec.specs.Route.{IsClearPolyline, StartsAt, EndsAt}
use Rattle.plan_spec.specs.Reply.{touches, IsFirstPathFault}
use Rattle.plan_grid.specs.Frame.{frame_seen}
use Rattle.plan_grid.specs.Spot.{spot_seen}
use Rattle.plan_convex.specs.Piece.{sums_seen}
use Rattle.plan_check.proofs.Each.{untrue}
use Rattle.plan_check.proofs.PathFaults.{starts_at, ends_at, is_some, not_empty, clear, first_touching}
use Rattle.plan_check.proofs.path.check_path.Goals as goal

pub returns-then-not-is_at : goal.returns-then-not-is_at
returns-then-not-is_at c scene told =
    let ps = c.as_slice-points.result.now in
    let s = spot_seen c.args.query.start in
    let p = c.index-points-0.result in
    let some = is_some ps c.if-is_empty.ensures in
    subst (λ l. (¬ (l ≡ [])) × ¬ (StartsAt s l)) (c.as_slice-points.ensures.value ∙ c.path.view_is)
    (not_empty ps some, λ starts. untrue (c.if-not-is_at.ensures.1 (subst (λ v. Same v s) (sym c.index-points-0.is) ((starts_at s p ps some).0 starts))))

pub returns-then-not-is_at-2 : goal.returns-then-not-is_at-2
returns-then-not-is_at-2 c scene told =
    let ps = c.as_slice-points.result.now in
    let s = spot_seen c.args.query.start in
    let g = spot_seen c.args.query.goal in
    let p = c.index-points-0.result in
    let q = c.index-points-points.result in
    let some = is_some ps c.if-is_empty.ensures in
    subst (λ l. StartsAt s l × ¬ (EndsAt g l)) (c.as_slice-points.ensures.value ∙ c.path.view_is) (
      (starts_at s p ps some).1 (subst (λ v. Same v s) c.index-points-0.is (c.if-not-is_at.ensures.0 refl)),
      λ ends. untrue (c.if-not-is_at-2.ensures.1 (subst (λ v. Same v g) (sym c.index-points-points.is) ((ends_at g q ps some).0 ends))),
    )

pub returns-in-None : goal.returns-in-None
returns-in-None c scene told =
    let ps = c.as_slice-points.result.now in
    let s = spot_seen c.args.query.start in
    let g = spot_seen c.args.query.goal in
    let p = c.index-points-0.result in
    let q = c.index-points-points.result in
    let some = is_some ps c.if-is_empty.ensures in
    subst (IsClearPolyline scene s g) (c.as_slice-points.ensures.value ∙ c.path.view_is)
    (clear scene (sums_seen c.args.sums.now) (frame_seen c.args.room) told s g ps some
    ((starts_at s p ps some).1 (subst (λ v. Same v s) c.index-points-0.is (c.if-not-is_at.ensures.0 refl)))
    ((ends_at g q ps some).1 (subst (λ v. Same v g) c.index-points-points.is (c.if-not-is_at-2.ensures.0 refl)))
    c.in-None.ensures)

pub returns-in-Some : goal.returns-in-Some
returns-in-Some c scene told =
    let ps = c.as_slice-points.result.now in
    let s = spot_seen c.args.query.start in
    let g = spot_seen c.args.query.goal in
    let p = c.index-points-0.result in
    let q = c.index-points-points.result in
    let some = is_some ps c.if-is_empty.ensures in
    subst (λ l. IsFirstPathFault scene s g l (touches c.in-Some.k)) (c.as_slice-points.ensures.value ∙ c.path.view_is) (
      (starts_at s p ps some).1 (subst (λ v. Same v s) c.index-points-0.is (c.if-not-is_at.ensures.0 refl)),
      (ends_at g q ps some).1 (subst (λ v. Same v g) c.index-points-points.is (c.if-not-is_at-2.ensures.0 refl)),
      first_touching scene (sums_seen c.args.sums.now) (frame_seen c.args.room) told ps c.in-Some.k c.in-Some.ensures,
    )
