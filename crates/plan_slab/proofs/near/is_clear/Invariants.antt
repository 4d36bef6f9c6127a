-- The sums so far do not hold z.
use Rattle.std.proofs.Common.{ℕ, ◌<◌, get_or}
use Rattle.plan_slab.specs.Near.{IsHeldAt}
use Rattle.plan_slab.proofs.near.is_clear.Given as goal

abbrev pub invariant-loop-i : goal.invariant-loop-i
invariant-loop-i l = (k : ℕ) (d : ℕ) → k < l.i-index → ¬ (IsHeldAt l.sums l.boxes l.z (get_or l.near k d))
