-- The search has found it, or it is not there.
use Rattle.std.proofs.Common.{arith}
use Rattle.plan_exact.proofs.Laws.{linear}
use Rattle.plan_cross.proofs.Searched.{found}
use Rattle.plan_cross.proofs.ends.stands_in.Goals as goal

pub returns : goal.returns
returns c =
    let range = c.w.ensures.in_range in
    found c.args.points.now c.args.p.now c.binary_search.result c.is_ok.result c.is_ok.ensures.value c.requires.rises c.requires.points (omega (arith, linear, range.weight)) c.binary_search.ensures.bound c.binary_search.ensures.position
