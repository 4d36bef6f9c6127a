-- The exchange may be made: where it finds the length that was seen, what was seen is the whole history.
use Rattle.std.proofs.Common.{ap, sym, ◌∙◌, length}
use Rattle.std.specs.Arc.{arc_value}
use Rattle.plan_shelf.proofs.Adding.{adds_moves}
use Rattle.plan_shelf.proofs.history.add.Goals as goal

pub compare_exchange-found-requires : goal.compare_exchange-found-requires
compare_exchange-found-requires g c =
    let h = c.requires.head in
    let offer = c.plain-offer.ensures in
    let pen = c.no_pen-pen.ensures in
    let book = ap (λ s. s.book) c.again-seen.ensures in
    let log = ap (λ s. s.log) c.again-seen.ensures in (
      ap (λ w. w.tracked) h,
      book ∙ sym (ap (λ w. w.book) h),
      pen.0 ∙ (book ∙ sym (ap (λ w. w.book) h)),
      offer.0,
      rw (ap (λ w. w.key) h, pen.1, offer.1, offer.3, c.from-old.ensures) (adds_moves c.again-seen.result.log (arc_value c.args.entry.now) c.args.count (ap length log ∙ sym c.requires.count)),
    )
