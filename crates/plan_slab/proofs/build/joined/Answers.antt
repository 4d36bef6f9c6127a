-- One list more.
use Rattle.std.proofs.Common.{ap, ◌∙◌, take_all}
use Rattle.std.specs.List.{flat_map}
use Rattle.plan_slab.proofs.SlabParts.{flat_more}
use Rattle.plan_slab.proofs.build.joined.Goals as goal

pub loop-i-init : goal.loop-i-init
loop-i-init c = c.new-all.ensures.items

pub loop-i-preserved : goal.loop-i-preserved
loop-i-preserved c = c.in_ok-extend_from_slice.ensures.items ∙ flat_more (λ w. w.items) c.args.lists.now c.loop-i.i c.index-lists-i.result c.loop-i.all.items c.deref.result.now c.loop-i.invariant c.loop-i-test.true c.index-lists-i.is c.deref.ensures.value

pub returns : goal.returns
returns c = c.loop-i.invariant ∙ ap (flat_map (λ w. w.items)) (take_all c.loop-i.i c.args.lists.now c.loop-i-test.false)
