-- The numbers of the spans so far, the last of which is not beyond that of the next span.
use Rattle.std.proofs.Common.{◌<◌, ◌≤◌, length, map, get_or}
use Rattle.plan_spec.specs.Slabs.{nothing}
use Rattle.plan_spec.specs.Neighbours.{meets}
use Rattle.plan_slab.specs.Seen.{marks_seen, strand_seen}
use Rattle.plan_slab.proofs.MarkNumbers.{IsNumberAt}
use Rattle.plan_slab.proofs.OneByOne.{HasEach}
use Rattle.plan_slab.proofs.ends.numbers_on.Given as goal

abbrev pub invariant-loop-i : goal.invariant-loop-i
invariant-loop-i l = record {
  numbers : HasEach (IsNumberAt (map strand_seen l.spans) (marks_seen l.line l.marks)) l.i l.numbers.items;
  next : l.i < length (map strand_seen l.spans) → l.at ≤ meets (get_or (map strand_seen l.spans) l.i nothing) (marks_seen l.line l.marks);
}
