-- Each refusal tells what the tests before it have found.
use Rattle.std.proofs.Common.{◌+◌, ◌-◌, ◌*◌, ◌≤◌, length, sym, ap, subst, ◌∙◌, arith}
use Rattle.plan_spec.specs.SimplePolygon.{IsSimple}
use Rattle.plan_grid.specs.Spot.{spots_seen}
use Rattle.plan_scene.specs.Scene.{sum_count}
use Rattle.plan_scene.specs.Built.{IsKept}
use Rattle.plan_scene.specs.Edits.{sums_with}
use Rattle.plan_scene.proofs.Past.{untrue}
use Rattle.plan_scene.proofs.Read.{same_count}
use Rattle.plan_scene.proofs.scene.Scene.with.Goals as goal

pub returns-then-len-eq64 : goal.returns-then-len-eq64
returns-then-len-eq64 c = (
  λ h. untrue (c.if-has.ensures.1 h),
  subst (λ l. IsSimple (spots_seen l)) c.in-Ok.ensures.items c.in_ok-polygon.ensures.given_simple.simple,
  omega (arith, c.len.ensures, c.if-len-eq64.true, c.self.inside.obstacles.ok, ap (λ s. length s.obstacles) c.self.view_is),
)

pub returns-then-count-gt512 : goal.returns-then-count-gt512
returns-then-count-gt512 c =
    let k = subst (λ s. IsKept s c.self.inside.room c.self.inside.sums) c.self.view_is c.self.invariant in
    let other = c.if-len-eq64.false in (
      λ h. untrue (c.if-has.ensures.1 h),
      subst (λ l. IsSimple (spots_seen l)) c.in-Ok.ensures.items c.in_ok-polygon.ensures.given_simple.simple,
      omega (arith, k.is_scene.few, c.len.ensures, other, c.self.inside.obstacles.ok, ap (λ s. length s.obstacles) c.self.view_is),
      c.count_with-count.ensures,
      c.if-count-gt512.true,
    )

pub with_polygon-requires-clause-few_sums : goal.with_polygon-requires-clause-few_sums
with_polygon-requires-clause-few_sums c =
    let s = c.args.self.now in
    let many = same_count c.in-Ok.list.items c.in_ok-polygon.polygon c.in_ok-polygon.ensures ∙ ap length c.in-Ok.ensures.items in
    let few : sums_with s c.args.spots.now ≤ 512 = omega (arith, c.count_with-count.ensures, c.if-count-gt512.false) in
    subst (λ n. sum_count s.robot s.obstacles + (n - 2) * (length s.robot - 2) ≤ 512) (sym many) few
