-- The owners are kept beside the sums.
use Rattle.std.proofs.Common.{◌<◌, length, subst, ◌∙◌, arith}
use Rattle.plan_spec.specs.Sums.{parts}
use Rattle.plan_scene.specs.Scene.{scene_seen}
use Rattle.plan_scene.specs.Built.{IsKept}
use Rattle.plan_scene.proofs.Kept.{owner_is, owner_within, count_parts_seen}
use Rattle.plan_scene.proofs.scene.Scene.owner.Goals as goal

pub index-requires : goal.index-requires
index-requires c =
    let s = c.args.self.now in
    let k = subst (λ s. IsKept s c.self.inside.room c.self.inside.sums) c.self.view_is c.self.invariant in
    let within : c.args.sum < length (parts (scene_seen s)) = omega (arith, c.requires, count_parts_seen s c.self.inside.room c.self.inside.sums k) in
    let h = owner_within s c.self.inside.room c.self.inside.sums k c.args.sum within in
    omega (arith, h, c.self.inside.sums.owners.ok)

pub returns : goal.returns
returns c d =
    let s = c.args.self.now in
    let k = subst (λ s. IsKept s c.self.inside.room c.self.inside.sums) c.self.view_is c.self.invariant in
    let within : c.args.sum < length (parts (scene_seen s)) = omega (arith, c.requires, count_parts_seen s c.self.inside.room c.self.inside.sums k) in
    c.index.ensures ∙ owner_is s c.self.inside.room c.self.inside.sums k c.args.sum c.index.result.now d within
