-- The parts of a round, put together.
use Rattle.std.proofs.Common.{◌≡◌, map, All, subst, sym, ap, ◌∙◌}
use mathlib.Core.List.{IsPrefix}
use Rattle.plan_crew.specs.Edited.{AreEdits, end_seen}
use Rattle.plan_crew.specs.Round.{IsRound}
use Rattle.plan_crew.proofs.Replying.{round_of}
use Rattle.plan_crew.proofs.Working.{all_trans, all_of_shelf, worked_goes, equal_readers, all_said}
use Rattle.plan_crew.proofs.rounds.in_works.Goals as goal

pub returns-in_err-edits-clause-readers : goal.returns-in_err-edits-clause-readers
returns-in_err-edits-clause-readers g c =
    all_trans c.args.works.now c.inform_all.new.works c.beside.new.works c.inform_all.ensures.readers (worked_goes g.J.Job.version_of (g.J.Job.gives c.args.job.now) c.inform_all.new.works c.beside.new.works c.args.lanes.now c.beside.ensures.lanes)

pub settle_all-requires-clause-shelf : goal.settle_all-requires-clause-shelf
settle_all-requires-clause-shelf g c κs within =
    let goes = all_trans c.args.works.now c.inform_all.new.works c.beside.new.works c.inform_all.ensures.readers (worked_goes g.J.Job.version_of (g.J.Job.gives c.args.job.now) c.inform_all.new.works c.beside.new.works c.args.lanes.now c.beside.ensures.lanes) in
    let shelf : c.args.editor.now.shelf ≡ c.beside.new.editor.shelf = sym (c.beside.ensures.shelf ∙ ap (λ e. e.shelf) c.inform_all.ensures.same) in
    subst (λ b. All (λ w. w.reader.shelf ≡ b) c.beside.new.works) shelf (all_of_shelf c.args.works.now c.beside.new.works c.args.editor.now.shelf c.requires.readers goes)

pub returns-in_err-settle_all-clause-readers : goal.returns-in_err-settle_all-clause-readers
returns-in_err-settle_all-clause-readers g c =
    let goes = all_trans c.args.works.now c.inform_all.new.works c.beside.new.works c.inform_all.ensures.readers (worked_goes g.J.Job.version_of (g.J.Job.gives c.args.job.now) c.inform_all.new.works c.beside.new.works c.args.lanes.now c.beside.ensures.lanes) in
    all_trans c.args.works.now c.beside.new.works c.settle_all.new.works goes c.settle_all.ensures.readers

pub returns-in_err-lanes-clause-readers : goal.returns-in_err-lanes-clause-readers
returns-in_err-lanes-clause-readers g c =
    let goes = all_trans c.args.works.now c.inform_all.new.works c.beside.new.works c.inform_all.ensures.readers (worked_goes g.J.Job.version_of (g.J.Job.gives c.args.job.now) c.inform_all.new.works c.beside.new.works c.args.lanes.now c.beside.ensures.lanes) in
    let then = all_trans c.args.works.now c.beside.new.works c.settle_all.new.works goes c.settle_all.ensures.readers in
    all_trans c.args.works.now c.settle_all.new.works c.collect.new.works then (equal_readers c.settle_all.new.works c.collect.new.works c.collect.ensures.readers)

pub returns-clause-readers : goal.returns-clause-readers
returns-clause-readers g c =
    let goes = all_trans c.args.works.now c.inform_all.new.works c.beside.new.works c.inform_all.ensures.readers (worked_goes g.J.Job.version_of (g.J.Job.gives c.args.job.now) c.inform_all.new.works c.beside.new.works c.args.lanes.now c.beside.ensures.lanes) in
    let then = all_trans c.args.works.now c.beside.new.works c.settle_all.new.works goes c.settle_all.ensures.readers in
    all_trans c.args.works.now c.settle_all.new.works c.collect.new.works then (equal_readers c.settle_all.new.works c.collect.new.works c.collect.ensures.readers)

pub returns-clause-round : goal.returns-clause-round
returns-clause-round g c =
    let version = g.J.Job.version_of in
    let outcome = g.J.Job.makes c.args.job.now in
    let answer = g.J.Job.gives c.args.job.now in
    let before = c.args.editor.now.list in
    let after = c.beside.new.editor.list in
    let ends = map (λ e. end_seen e) c.in_ok-edits.edits.items in
    let edits : AreEdits version outcome before after c.args.edits.now ends = subst (λ e. AreEdits version outcome e.list after c.args.edits.now ends) c.inform_all.ensures.same c.in_ok-edits.ensures.ends in
    let settled : c.settle_all.new.editor.list ≡ after = ap (λ e. e.list) c.settle_all.ensures.same in
    let last : c.collect.new.editor.list ≡ after = ap (λ e. e.list) c.collect.ensures.same ∙ settled in
    let all = all_said version answer before after c.inform_all.new.works c.beside.new.works c.settle_all.new.works c.args.lanes.now c.in_ok-inform_all.ensures.told c.beside.ensures.lanes c.in_ok-settle_all.ensures.settled in
    let grown = subst (λ e. IsPrefix e.list after) c.inform_all.ensures.same c.beside.ensures.list in
    let made = round_of version outcome answer ((g.met.J.Job g.world.𝓛 g.world.𝓜 g.world.𝓡 ((λ s x. x), (λ x. x), (λ x. x), (λ x. x))).rises c.args.job.now)
    before after c.settle_all.new.editor.list c.settle_all.new.works c.args.lanes.now c.args.edits.now ends _ edits settled grown c.in_ok-lanes.ensures.published all (λ from lt said. c.in_ok-lanes.ensures.said from lt said) in
    subst (λ l. IsRound version outcome answer before l c.args.edits.now ends (map (λ v. v.items) c.args.lanes.now) (map (λ v. map (λ s. (s.version, s.answer)) v.items) c.in_ok-lanes.lanes.items)) (sym last) made
