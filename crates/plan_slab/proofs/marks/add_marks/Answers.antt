-- Two heights of an upright bar, one of any other.
use Rattle.std.proofs.Common.{refl, [], ◌∷◌, ◌++◌, append_assoc, ap, ◌∙◌}
use Rattle.std.proofs.lemmas.List.Elements.{All-cons, All-nil}
use Rattle.plan_slab.specs.Heights.{IsHeight}
use Rattle.plan_slab.specs.LineMarks.{both, one}
use Rattle.plan_slab.proofs.marks.add_marks.Goals as goal

pub returns-in_ok-push-2 : goal.returns-in_ok-push-2
returns-in_ok-push-2 c =
    let f = c.heights_of_ends-low.result.0 in
    let g = c.heights_of_ends-low.result.1 in
    let h = c.heights_of_ends-low.ensures in
    let old = c.args.marks.now.items in (
      f ∷ g ∷ [],
      c.in_ok-push-2.ensures.items ∙ ap (λ xs. xs ++ g ∷ []) c.in_ok-push.ensures.items ∙ append_assoc old (f ∷ []) (g ∷ []),
      All-cons IsHeight f (g ∷ []) h.low_bounded (All-cons IsHeight g [] h.high_bounded (All-nil IsHeight)),
      both f g (c.if-is_upright.ensures.0 refl) h.low h.high,
    )

pub returns-in_ok-push-3 : goal.returns-in_ok-push-3
returns-in_ok-push-3 c =
    let f = c.height_of.result in (
      f ∷ [],
      c.in_ok-push-3.ensures.items,
      All-cons IsHeight f [] c.height_of.ensures.bounded (All-nil IsHeight),
      one f (λ u. let e = c.if-is_upright.ensures.1 u in cc) c.height_of.ensures.in_line,
    )
