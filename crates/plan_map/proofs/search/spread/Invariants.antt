-- By what is left to visit.
use Rattle.std.proofs.Common.{◌≡◌, ◌-◌, length}
use Rattle.std.specs.List.{range_with_len}
use Rattle.plan_map.specs.Search.{state, visits}
use Rattle.plan_map.proofs.search.spread.Given as goal

abbrev pub invariant-loop-region : goal.invariant-loop-region
invariant-loop-region l = record {
  size : length l.distances.items ≡ length l.fn.distances.items;
  left : visits (range_with_len l.region (l.to - l.region)) l.steps (state l.seen.items l.distances.items) ≡ visits (range_with_len l.from (l.to - l.from)) l.steps (state l.fn.seen.items l.fn.distances.items);
}
