use Rattle.std.proofs.Common.{◌≡◌, ℕ, ◌<◌, ◌≤◌, Some}
use Rattle.plan_map.specs.Search.{at}
use Rattle.plan_map.proofs.search.first_nearer.Given as goal

abbrev pub invariant-loop-region : goal.invariant-loop-region
invariant-loop-region l = record {
  begun : l.from ≤ l.region;
  none : (n : ℕ) → l.from ≤ n → n < l.region → ¬ (at l.distances n ≡ Some l.left);
}
