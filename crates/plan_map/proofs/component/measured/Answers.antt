use Rattle.plan_map.proofs.Graph.Joined.{one_measured, one_unmeasured}
use Rattle.plan_map.proofs.component.measured.Goals as goal
use Rattle.plan_map.proofs.component.measured.Goals.{in-Some+in_ok-push, in_default}

pub loop-i-preserved : goal.loop-i-preserved
loop-i-preserved c =
    elim c.match-distances-i.branch [
      | in-Some+in_ok-push w ↦ rw (w.found-is, w.in_ok-push.ensures.items) (one_measured c.loop-i.invariant (record { distance = w.in-Some.field-0; is_some = w.in-Some.is }))
      | in_default w ↦ rw w.found-is (one_unmeasured c.loop-i.invariant w.in_default.is)
    ]
