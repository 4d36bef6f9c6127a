-- Each test of the code is the test of the definition: not right is at most, right is less, above is negative.
use Rattle.std.proofs.Common.{refl, ◌∙◌, sym}
use Rattle.plan_exact.proofs.Tests.{lt_is, le_is_not}
use Rattle.plan_poly.proofs.edge.stands_over_from.Goals as goal
use Rattle.plan_poly.proofs.edge.stands_over_from.Goals.{then-not-is_past, else-not-is_past}

pub returns-then-is_past : goal.returns-then-is_past
returns-then-is_past c =
    let starts = le_is_not _ _ _ c.is_past.ensures in
    let above = lt_is _ _ _ c.is_above.ensures in
    let true_here = c.if-is_past.true in
    elim c.if-not-is_past.branch [
      | then-not-is_past w ↦ let ends = lt_is _ _ _ w.is_past-then-not-is_past.ensures in rw (starts, ends, above, w.if-not-is_past.true, sym w.value-is ∙ true_here) refl
      | else-not-is_past w ↦ let e = w.value-is in absurd (cc)
    ]

pub returns-else-is_past : goal.returns-else-is_past
returns-else-is_past c =
    let starts = le_is_not _ _ _ c.is_past.ensures in
    let false_here = c.if-is_past.false in
    elim c.if-not-is_past.branch [
      | then-not-is_past w ↦ let ends = lt_is _ _ _ w.is_past-then-not-is_past.ensures in rw (starts, ends, w.if-not-is_past.true, sym w.value-is, false_here) refl
      | else-not-is_past w ↦ rw (starts, false_here, w.if-not-is_past.false) refl
    ]
