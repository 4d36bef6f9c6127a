-- The ends, sorted and without pairs.
use Rattle.std.proofs.Common.{map, subst, sym}
use Rattle.std.proofs.lemmas.Result.{IfOk-weaker}
use Rattle.plan_cross.specs.Segment.{segment_seen}
use Rattle.plan_cross.specs.Ends.{AreOddEnds}
use Rattle.plan_cross.proofs.OddEnds.{are_odd_ends}
use Rattle.plan_cross.proofs.ends.odd_ends.Goals as goal

pub returns : goal.returns
returns c =
    let found = c.in_ok-ends.ensures in
    let odd = are_odd_ends (map segment_seen c.args.segments.now) c.in_ok-ends.ends.items c.sort_unstable.new.self.items found.value c.sort_unstable.ensures.permutation c.sort_unstable.ensures.sorted found.points in
    IfOk-weaker c.unpaired.result _ (λ found. AreOddEnds (map segment_seen c.args.segments.now) found.items)
    (λ found e. subst (AreOddEnds (map segment_seen c.args.segments.now)) (sym e) odd) (rw c.deref.ensures.value at c.unpaired.ensures)
