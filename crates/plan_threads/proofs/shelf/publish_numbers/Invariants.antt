-- There is room for the numbers that are left.
use Rattle.std.proofs.Common.{◌+◌, ◌≤◌, length}
use Rattle.plan_shelf.specs.Tied.{IsTied}
use Rattle.plan_threads.proofs.shelf.publish_numbers.Given as goal

abbrev pub invariant-loop-k : goal.invariant-loop-k
invariant-loop-k g l = IsTied l.editor × (length l.editor.list + l.last ≤ 2049 + l.k)
