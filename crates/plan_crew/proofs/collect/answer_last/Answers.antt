-- Each turn adds an answer of the last entry.
use Rattle.std.proofs.Common.{rules, ◌≡◌, ◌+◌, ◌-◌, length, take, slice_get, Some, [], ◌∷◌, ◌++◌, arith}
use Rattle.plan_shelf.specs.Told.{told_list}
use Rattle.plan_crew.specs.Lane.{Says}
use Rattle.plan_crew.proofs.Prefixes.{prefix_self}
use Rattle.plan_crew.proofs.Answering.{one_more, take_next, map_next}
use Rattle.plan_crew.proofs.collect.answer_last.Goals as goal

pub loop-next-preserved : goal.loop-next-preserved
loop-next-preserved g c =
    let inv = c.loop-next.invariant in
    let last = c.args.last.now in
    let list = told_list last in
    let at : length list - 1 ≡ last.place = omega (arith, last.counted) in
    let there : slice_get list last.place ≡ Some c.deref.result.now = search rules in
    let named : c.version-version.result ≡ g.J.Job.version_of c.deref.result.now = search rules in
    let answered : g.J.Job.gives c.args.job.now c.deref.result.now c.index-questions-next.result c.in_ok-answer.answer = search rules in
    let grown : c.push.new.self.items ≡ c.loop-next.said.items ++ record { version = c.version-version.result; answer = c.in_ok-answer.answer } ∷ [] = search rules in
    let asked : take (c.loop-next.next + 1) c.args.questions.now ≡ take c.loop-next.next c.args.questions.now ++ c.index-questions-next.result ∷ [] = take_next _ _ _ c.loop-next-test.true c.index-questions-next.is in
    let says : Says g.J.Job.version_of (g.J.Job.gives c.args.job.now) list (length list - 1) c.index-questions-next.result (c.version-version.result, c.in_ok-answer.answer) =
    record { entry = c.deref.result.now; there = rw at there; version_is = named; answer_is = answered } in (
      omega (arith, c.loop-next-test.true),
      rw (grown, map_next _ c.loop-next.said.items (record { version = c.version-version.result; answer = c.in_ok-answer.answer }), asked)
          (one_more _ _ list list (length list - 1) _ _ _ _ (prefix_self list) (omega arith) inv.1 says),
    )
