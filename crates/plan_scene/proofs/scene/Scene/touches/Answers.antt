-- Beyond the room the number is 0; else it is the owner of the first sum that holds the placement.
use Rattle.std.proofs.Common.{pos, ◌<ℤ◌, refl, subst, arith}
use Rattle.plan_exact.proofs.Laws.{linear}
use Rattle.plan_spec.specs.Placement.{IsClear, IsTouched}
use Rattle.plan_spec.specs.Frame.{OnOrBeyond}
use Rattle.plan_grid.specs.Frame.{frame_seen}
use Rattle.plan_scene.specs.Scene.{scene_seen}
use Rattle.plan_scene.specs.Built.{IsKept, IsFirstOwner, HoldsNone}
use Rattle.plan_scene.proofs.Past.{untrue}
use Rattle.plan_scene.proofs.Kept.{count_owners, frame_touched, none_clear, first_touched, told}
use Rattle.plan_scene.proofs.scene.Scene.touches.Goals as goal

pub returns-then-is_on_or_beyond_at : goal.returns-then-is_on_or_beyond_at
returns-then-is_on_or_beyond_at c =
    frame_touched c.args.self.now c.self.inside.room c.self.inside.sums (subst (λ s. IsKept s c.self.inside.room c.self.inside.sums) c.self.view_is c.self.invariant) c.args.z.now (let h = c.w.ensures.in_range.weight in omega (arith, linear))
    (c.if-is_on_or_beyond_at.ensures.0 refl)

pub first_owner-requires-clause-owners : goal.first_owner-requires-clause-owners
first_owner-requires-clause-owners c =
    count_owners c.args.self.now c.self.inside.room c.self.inside.sums (subst (λ s. IsKept s c.self.inside.room c.self.inside.sums) c.self.view_is c.self.invariant)

pub returns : goal.returns
returns c =
    let s = c.args.self.now in
    let room = c.self.inside.room in
    let sums = c.self.inside.sums in
    let k = subst (λ s. IsKept s c.self.inside.room c.self.inside.sums) c.self.view_is c.self.invariant in
    let z = c.args.z.now in
    let hz : pos 0 <ℤ c.args.z.now.w = let h = c.w.ensures.in_range.weight in omega (arith, linear) in
    let inside : ¬ (OnOrBeyond (frame_seen room) z) = λ h. untrue (c.if-is_on_or_beyond_at.ensures.1 h) in
    told c.first_owner.result (HoldsNone sums z) (IsClear (scene_seen s) z) (IsFirstOwner sums z) (IsTouched (scene_seen s) z) (none_clear s room sums k z hz inside) (first_touched s room sums k z hz inside) c.first_owner.ensures
