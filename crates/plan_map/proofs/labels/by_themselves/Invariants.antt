use Rattle.std.proofs.Common.{◌≡◌, ℕ, ◌<◌, length, get_or, Some}
use Rattle.plan_map.specs.Search.{at}
use Rattle.plan_map.proofs.labels.by_themselves.Given as goal

abbrev pub invariant-loop-i : goal.invariant-loop-i
invariant-loop-i l = record {
  size : length l.found.items ≡ l.i;
  each : (n m : ℕ) → n < l.i → at l.labels n ≡ Some m → get_or l.found.items n 0 ≡ m;
}
