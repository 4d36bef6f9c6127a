-- Each turn makes one change, and there is room for one less.
use Rattle.std.proofs.Common.{rules, ◌≡◌, ◌+◌, take, [], ◌∷◌, ◌++◌, ◌∙◌, arith}
use Rattle.plan_crew.proofs.Prefixes.{prefix_trans}
use Rattle.plan_crew.proofs.Answering.{take_next, map_next}
use Rattle.plan_crew.proofs.Editing.{one_edit_more, edit_length, edit_version}
use Rattle.plan_crew.proofs.edits.edit_all.Goals as goal

pub loop-next-preserved : goal.loop-next-preserved
loop-next-preserved g c =
    let inv = c.loop-next.invariant in
    let one = c.in_ok-end.ensures in
    let grown : c.push.new.self.items ≡ c.loop-next.ends.items ++ c.in_ok-end.end ∷ [] = search rules in
    let asked : take (c.loop-next.next + 1) c.args.edits.now ≡ take c.loop-next.next c.args.edits.now ++ c.index-edits-next.result ∷ [] = take_next _ _ _ c.loop-next-test.true c.index-edits-next.is in (
      one.tied,
      one.shelf ∙ inv.1,
      prefix_trans c.args.editor.now.list c.loop-next.editor.list c.edit_one.new.editor.list inv.2 one.list,
      omega (arith, c.loop-next-test.true),
      rw (grown, map_next _ c.loop-next.ends.items c.in_ok-end.end, asked) (one_edit_more _ _ _ _ _ _ _ _ _ inv.4 one.end),
      omega (arith, edit_length _ _ _ _ _ _ one.end, inv.5, c.loop-next-test.true),
      edit_version _ _ _ _ _ _ _ _ ((g.met.J.Job g.world.𝓛 g.world.𝓜 g.world.𝓡 ((λ s x. x), (λ x. x), (λ x. x), (λ x. x))).rises c.args.job.now) one.end (omega (arith, c.loop-next-test.true)) inv.6,
    )

pub returns-in_err-end-clause-shelf : goal.returns-in_err-end-clause-shelf
returns-in_err-end-clause-shelf g c = c.edit_one.ensures.shelf ∙ c.loop-next.invariant.1

pub returns-in_err-end-clause-list : goal.returns-in_err-end-clause-list
returns-in_err-end-clause-list g c = prefix_trans c.args.editor.now.list c.loop-next.editor.list c.edit_one.new.editor.list c.loop-next.invariant.2 c.edit_one.ensures.list

pub returns-in_err-map_err-clause-shelf : goal.returns-in_err-map_err-clause-shelf
returns-in_err-map_err-clause-shelf g c = c.edit_one.ensures.shelf ∙ c.loop-next.invariant.1

pub returns-in_err-map_err-clause-list : goal.returns-in_err-map_err-clause-list
returns-in_err-map_err-clause-list g c = prefix_trans c.args.editor.now.list c.loop-next.editor.list c.edit_one.new.editor.list c.loop-next.invariant.2 c.edit_one.ensures.list

pub returns-clause-shelf : goal.returns-clause-shelf
returns-clause-shelf g c = c.loop-next.invariant.1

pub returns-clause-list : goal.returns-clause-list
returns-clause-list g c = c.loop-next.invariant.2
