-- What is counted, and what is left.
use Rattle.std.proofs.Common.{◌≡◌, ◌+◌, ◌*◌, ◌≤◌, length}
use Rattle.plan_spec.specs.Frame as spec
use Rattle.plan_convex.proofs.EdgeNumbers.{left_from}
use Rattle.plan_convex.proofs.numbering.edge_count.Given as goal

abbrev pub invariant-loop-sum : goal.invariant-loop-sum
invariant-loop-sum l = ((room : spec.Frame) → l.count + length (left_from l.sums l.sum-index room) ≡ 4 + length (left_from l.sums 0 room)) × (l.count ≤ 4 + 6 * l.sum-index)
