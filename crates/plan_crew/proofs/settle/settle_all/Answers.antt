-- Each turn one reader more settles.
use Rattle.std.proofs.Common.{◌≡◌, ◌<◌, length, get_or, refl, sym, ap, ◌∙◌, subst, arith}
use Rattle.plan_crew.specs.Works.{Settles}
use Rattle.plan_crew.proofs.Working.{all_self, all_length, all_set, shelf_at, below_set_at, above_set}
use Rattle.plan_crew.proofs.settle.settle_all.Goals as goal

pub loop-k-init : goal.loop-k-init
loop-k-init g c = (refl, all_self c.args.works.now, λ j d lt. absurd (omega (arith, lt)), λ j d le. refl)

pub settle-requires-clause-shelf : goal.settle-requires-clause-shelf
settle-requires-clause-shelf g c κs within =
    let inv = c.loop-k.invariant in
    let within : c.loop-k.k < length c.loop-k.works = omega (arith, c.loop-k-test.true, all_length c.args.works.now c.loop-k.works inv.1) in
    shelf_at c.args.works.now c.loop-k.works c.args.editor.now.shelf c.loop-k.k c.index-works-k.result c.requires.shelf inv.1 within ∙ ap (λ e. e.shelf) (sym inv.0)

pub returns-in_err-settle-clause-readers : goal.returns-in_err-settle-clause-readers
returns-in_err-settle-clause-readers g c =
    let inv = c.loop-k.invariant in
    let within : c.loop-k.k < length c.loop-k.works = omega (arith, c.loop-k-test.true, all_length c.args.works.now c.loop-k.works inv.1) in
    all_set c.args.works.now c.loop-k.works c.loop-k.k c.settle.new.work c.index-works-k.result within inv.1 c.settle.ensures.reader

pub loop-k-preserved : goal.loop-k-preserved
loop-k-preserved g c =
    let inv = c.loop-k.invariant in
    let long = all_length c.args.works.now c.loop-k.works inv.1 in
    let within : c.loop-k.k < length c.loop-k.works = omega (arith, c.loop-k-test.true, long) in
    let old : get_or c.loop-k.works c.loop-k.k c.index-works-k.result ≡ get_or c.args.works.now c.loop-k.k c.index-works-k.result = inv.3 c.loop-k.k c.index-works-k.result (omega arith) in
    let settled : Settles c.args.editor.now.list (get_or c.args.works.now c.loop-k.k c.index-works-k.result) c.settle.new.work =
    subst (λ w. Settles c.args.editor.now.list w c.settle.new.work) old (subst (λ e. Settles e.list (get_or c.loop-k.works c.loop-k.k c.index-works-k.result) c.settle.new.work) inv.0 c.in_ok-settle.ensures.settled) in (
      c.settle.ensures.same ∙ inv.0,
      all_set c.args.works.now c.loop-k.works c.loop-k.k c.settle.new.work c.index-works-k.result within inv.1 c.settle.ensures.reader,
      λ j d lt. below_set_at (Settles c.args.editor.now.list) c.args.works.now c.loop-k.works c.loop-k.k c.index-works-k.result c.settle.new.work j d long within inv.2 settled lt,
      λ j d le. above_set c.loop-k.works c.loop-k.k c.settle.new.work j d (omega (arith, le)) ∙ inv.3 j d (omega (arith, le)),
    )
