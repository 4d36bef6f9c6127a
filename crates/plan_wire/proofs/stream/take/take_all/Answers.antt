-- What was taken before a read that gave nothing is what was taken at all, and a read that gave something is counted.
use Rattle.std.proofs.Common.{arith}
use Rattle.std.proofs.lemmas.Grind.{common_steps}
use Rattle.plan_wire.proofs.Streams.{takes_at_most, reads_at_most}
use Rattle.plan_wire.proofs.stream.take.take_all.Goals as goal

pub returns-in_err-n-clause-left : goal.returns-in_err-n-clause-left
returns-in_err-n-clause-left g c =
    rw c.in_err-n.ensures.kept (takes_at_most _ _ _ _ (omega arith) c.loop-room.invariant.taken)

pub returns-then-n-eq0-clause-left : goal.returns-then-n-eq0-clause-left
returns-then-n-eq0-clause-left g c =
    reads_at_most _ _ _ _ _ _ _ (omega arith) c.loop-room.invariant.taken c.in_ok-n.ensures.taken

pub returns-in_err-extend_from_slice-clause-left :
    goal.returns-in_err-extend_from_slice-clause-left
returns-in_err-extend_from_slice-clause-left g c =
    reads_at_most _ _ _ _ _ _ _ (grind (arith, common_steps, c.in_ok-n.ensures.within)) c.loop-room.invariant.taken c.in_ok-n.ensures.taken
