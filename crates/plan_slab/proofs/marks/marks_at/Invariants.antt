-- The heights of the bars so far.
use Rattle.plan_slab.proofs.HeightLists.{HeightsSoFar}
use Rattle.plan_slab.proofs.marks.marks_at.Given as goal

abbrev pub invariant-loop-bar : goal.invariant-loop-bar
invariant-loop-bar l = HeightsSoFar l.line l.bars l.bar-index l.marks.items
