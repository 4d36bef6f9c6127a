-- The gaps so far, and those that are left.
use Rattle.std.proofs.Common.{◌≡◌, ◌++◌, drop}
use Rattle.plan_bound.specs.Gaps.{gaps}
use Rattle.plan_bound.proofs.gaps.gaps.Given as goal

abbrev pub invariant-loop-part : goal.invariant-loop-part
invariant-loop-part l = l.found.items ++ gaps l.from l.within.to (drop l.part-index l.parts) ≡ gaps l.within.from l.within.to l.parts
