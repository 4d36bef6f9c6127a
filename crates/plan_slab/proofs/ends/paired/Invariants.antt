-- The pairs so far.
use Rattle.plan_slab.proofs.OneByOne.{HasEach}
use Rattle.plan_slab.proofs.SlabEnds.{IsPairAt}
use Rattle.plan_slab.proofs.ends.paired.Given as goal

abbrev pub invariant-loop-i : goal.invariant-loop-i
invariant-loop-i l = HasEach (IsPairAt l.lefts l.rights) l.i l.pairs.items
