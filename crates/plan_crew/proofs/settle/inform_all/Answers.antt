-- Each turn one reader more knows of the list.
use Rattle.std.proofs.Common.{◌<◌, ◌≤◌, length, refl, sym, ap, ◌∙◌, arith}
use Rattle.plan_crew.proofs.Working.{all_self, all_length, all_set, shelf_at, below_set}
use Rattle.plan_crew.proofs.settle.inform_all.Goals as goal

pub loop-k-init : goal.loop-k-init
loop-k-init g c = (refl, all_self c.args.works.now, λ j d lt. absurd (omega (arith, lt)))

pub inform-requires-clause-shelf : goal.inform-requires-clause-shelf
inform-requires-clause-shelf g c κs within =
    let inv = c.loop-k.invariant in
    let within : c.loop-k.k < length c.loop-k.works = omega (arith, c.loop-k-test.true, all_length c.args.works.now c.loop-k.works inv.1) in
    shelf_at c.args.works.now c.loop-k.works c.args.editor.now.shelf c.loop-k.k c.index-works-k.result c.requires.shelf inv.1 within ∙ ap (λ e. e.shelf) (sym inv.0)

pub returns-in_err-inform-clause-readers : goal.returns-in_err-inform-clause-readers
returns-in_err-inform-clause-readers g c =
    let inv = c.loop-k.invariant in
    let within : c.loop-k.k < length c.loop-k.works = omega (arith, c.loop-k-test.true, all_length c.args.works.now c.loop-k.works inv.1) in
    all_set c.args.works.now c.loop-k.works c.loop-k.k c.inform.new.work c.index-works-k.result within inv.1 c.inform.ensures.reader

pub loop-k-preserved : goal.loop-k-preserved
loop-k-preserved g c =
    let inv = c.loop-k.invariant in
    let within : c.loop-k.k < length c.loop-k.works = omega (arith, c.loop-k-test.true, all_length c.args.works.now c.loop-k.works inv.1) in
    let told : length c.args.editor.now.list ≤ length c.inform.new.work.reader.list = rw (ap (λ e. e.list) (sym inv.0)) c.in_ok-inform.ensures.told in (
      c.inform.ensures.same ∙ inv.0,
      all_set c.args.works.now c.loop-k.works c.loop-k.k c.inform.new.work c.index-works-k.result within inv.1 c.inform.ensures.reader,
      λ j d lt. below_set (λ i e w. length c.args.editor.now.list ≤ length w.reader.list) c.loop-k.works c.loop-k.k c.inform.new.work j d within (λ i e l. inv.2 i e l) (λ e. told) lt,
    )
