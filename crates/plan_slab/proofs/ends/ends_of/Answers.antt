-- The ends of one slab more.
use Rattle.std.proofs.Common.{map, arith}
use Rattle.std.proofs.lemmas.List.{length-map}
use Rattle.plan_slab.specs.Ends.{AreEndsOf}
use Rattle.plan_slab.specs.Seen.{strand_seen}
use Rattle.plan_slab.specs.SlabsSeen.{slabs_seen}
use Rattle.plan_slab.proofs.OneByOne.{has_none, has_more, has_mapped}
use Rattle.plan_slab.proofs.SlabEnds.{are_ends}
use Rattle.plan_slab.proofs.ends.ends_of.Goals as goal

pub loop-k-init : goal.loop-k-init
loop-k-init c = rw c.new-ends.ensures.items (has_none _)

pub loop-k-preserved : goal.loop-k-preserved
loop-k-preserved c = rw c.in_ok-push.ensures.items (has_more _ c.loop-k.k c.loop-k.ends.items c.in_ok-row.row c.loop-k.invariant c.in_ok-row.ensures)

pub returns : goal.returns
returns c =
    let spans = map (λ v. v.items) c.args.spans.now in
    let σ = slabs_seen c.args.lines.now spans (map (λ v. v.items) c.args.marks.now) in
    are_ends σ c.loop-k.k (map (λ v. v.items) c.loop-k.ends.items) (omega (arith, length-map c.args.spans.now (λ v. v.items), length-map spans (map strand_seen))) (has_mapped (λ v. v.items) (AreEndsOf σ) c.loop-k.k c.loop-k.ends.items c.loop-k.invariant)
