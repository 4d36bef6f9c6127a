-- Each turn adds the answer of the last entry of the list so far.
use Rattle.std.proofs.Common.{rules, subst, List, ◌≡◌, ◌+◌, ◌≤◌, ◌-◌, length, take, map, [], ◌∷◌, ◌++◌, refl, ◌∙◌, arith}
use Rattle.plan_crew.specs.Lane.{Answers}
use Rattle.plan_crew.proofs.Prefixes.{prefix_self, prefix_trans, prefix_length}
use Rattle.plan_crew.proofs.Answering.{one_more, take_next, take_whole, map_next}
use Rattle.plan_crew.proofs.lane.answer_lane.Goals as goal

pub loop-next-init : goal.loop-next-init
loop-next-init g c = (refl, omega arith, prefix_self _, rw c.new-said.ensures.items tt)

pub loop-next-preserved : goal.loop-next-preserved
loop-next-preserved g c =
    let inv = c.loop-next.invariant in
    let one = c.in_ok-one.ensures in
    let list = prefix_trans c.args.reader.now.list c.loop-next.reader.list c.ask.new.reader.list inv.2 one.list in
    let longer : length c.args.reader.now.list ≤ length c.ask.new.reader.list = prefix_length _ _ list in
    let grown : c.push.new.self.items ≡ c.loop-next.said.items ++ c.in_ok-one.one ∷ [] = search rules in
    let asked : take (c.loop-next.next + 1) c.args.questions.now ≡ take c.loop-next.next c.args.questions.now ++ c.index-questions-next.result ∷ [] = take_next _ _ _ c.loop-next-test.true c.index-questions-next.is in (
      one.shelf ∙ inv.0,
      omega (arith, c.loop-next-test.true),
      list,
      rw (grown, map_next _ c.loop-next.said.items c.in_ok-one.one, asked) (one_more _ _ _ _ _ _ _ _ _ one.list (omega (arith, longer)) inv.3 one.said),
    )

pub returns-clause-said : goal.returns-clause-said
returns-clause-said g c =
    let all = take_whole c.args.questions.now c.loop-next.next c.loop-next-test.false in
    subst (λ (qs : List _). Answers g.J.Job.version_of (g.J.Job.gives c.args.job.now) c.loop-next.reader.list (length c.args.reader.now.list - 1) qs (map (λ s. (s.version, s.answer)) c.loop-next.said.items)) all c.loop-next.invariant.3

pub returns-in_err-one-clause-shelf : goal.returns-in_err-one-clause-shelf
returns-in_err-one-clause-shelf g c = c.ask.ensures.shelf ∙ c.loop-next.invariant.0

pub returns-in_err-one-clause-list : goal.returns-in_err-one-clause-list
returns-in_err-one-clause-list g c = prefix_trans c.args.reader.now.list c.loop-next.reader.list c.ask.new.reader.list c.loop-next.invariant.2 c.ask.ensures.list

pub returns-in_err-map_err-clause-shelf : goal.returns-in_err-map_err-clause-shelf
returns-in_err-map_err-clause-shelf g c = c.ask.ensures.shelf ∙ c.loop-next.invariant.0

pub returns-in_err-map_err-clause-list : goal.returns-in_err-map_err-clause-list
returns-in_err-map_err-clause-list g c = prefix_trans c.args.reader.now.list c.loop-next.reader.list c.ask.new.reader.list c.loop-next.invariant.2 c.ask.ensures.list

pub returns-clause-shelf : goal.returns-clause-shelf
returns-clause-shelf g c = c.loop-next.invariant.0

pub returns-clause-list : goal.returns-clause-list
returns-clause-list g c = c.loop-next.invariant.2
