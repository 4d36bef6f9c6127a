-- The ends of the first slabs.
use Rattle.std.proofs.Common.{map}
use Rattle.plan_slab.specs.Ends.{AreEndsOf}
use Rattle.plan_slab.specs.SlabsSeen.{slabs_seen}
use Rattle.plan_slab.proofs.OneByOne.{HasEach}
use Rattle.plan_slab.proofs.ends.ends_of.Given as goal

abbrev pub invariant-loop-k : goal.invariant-loop-k
invariant-loop-k l = HasEach (λ k v. AreEndsOf (slabs_seen l.lines (map (λ w. w.items) l.spans) (map (λ w. w.items) l.marks)) k v.items) l.k l.ends.items
