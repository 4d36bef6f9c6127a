-- The vertices so far are those of a merge of the two walks, of whose edges each step takes one or two.
use Rattle.std.proofs.Common.{◌+◌}
use Rattle.plan_convex.proofs.Merge.{IsMerge}
use Rattle.plan_convex.proofs.minkowski.merged.Given as goal

abbrev pub invariant-loop-a : goal.invariant-loop-a
invariant-loop-a l = IsMerge l.initial.a l.initial.b l.a l.b l.vertices

abbrev pub decreases-loop-a : goal.decreases-loop-a
decreases-loop-a l = l.a.edges_left + l.b.edges_left
