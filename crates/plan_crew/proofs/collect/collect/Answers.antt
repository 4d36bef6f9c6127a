-- Each turn one lane more is answered.
use Rattle.std.proofs.Common.{rules, ◌≡◌, ◌+◌, map, take, [], ◌∷◌, ◌++◌, sym, ap, ◌∙◌, arith}
use Rattle.plan_shelf.specs.Told.{told_list}
use Rattle.plan_crew.specs.Lane.{Answers}
use Rattle.plan_crew.proofs.Answering.{map_next}
use Rattle.plan_crew.proofs.Working.{zip_push, take_map, taken_said, one_lane}
use Rattle.plan_crew.proofs.collect.collect.Goals as goal

pub loop-next-preserved : goal.loop-next-preserved
loop-next-preserved g c =
    let inv = c.loop-next.invariant in
    let version = g.J.Job.version_of in
    let answer = g.J.Job.gives c.args.job.now in
    let list = c.args.editor.now.list in
    let lanes = c.args.lanes.now in
    let lane = c.index-lanes-next.result in
    let told : told_list c.in_ok-last.last ≡ list = c.in_ok-last.ensures.told.1 in
    let asks : c.as_slice.result.now ≡ lane.items = c.as_slice.ensures.value in
    let grown : c.push.new.self.items ≡ c.loop-next.all.items ++ c.in_ok-lane.lane ∷ [] = search rules in
    let asked : take (c.loop-next.next + 1) (map (λ v. v.items) lanes) ≡ take c.loop-next.next (map (λ v. v.items) lanes) ++ lane.items ∷ [] = take_map (λ v. v.items) lanes c.loop-next.next lane c.loop-next-test.true c.index-lanes-next.is in (
      omega (arith, c.loop-next-test.true),
      c.take_said-said.ensures.readers ∙ inv.1,
      λ j d le. c.take_said-said.ensures.others j d (omega (arith, le)) ∙ inv.2 j d (omega (arith, le)),
      λ from lt all.
          let has = taken_said version answer list from c.args.works.now c.loop-next.works lanes c.loop-next.next lane c.take_said-said.result all inv.1 (λ d. inv.2 c.loop-next.next d (omega arith)) (λ d within. c.take_said-said.ensures.said d within) (λ le. c.take_said-said.ensures.nobody le) c.loop-next-test.true in
          let one = one_lane version answer list (told_list c.in_ok-last.last) from lane.items c.as_slice.result.now _ c.take_said-said.result (map (λ s. (s.version, s.answer)) c.in_ok-lane.lane.items) told asks (ap (λ v. v.items) (sym c.index-lanes-next.is)) lt has (λ f l h. c.in_ok-lane.ensures.said f l h) in
          rw (grown, map_next _ c.loop-next.all.items c.in_ok-lane.lane, asked) (zip_push (Answers version answer list from) _ _ _ _ (inv.3 from lt all) one),
    )
