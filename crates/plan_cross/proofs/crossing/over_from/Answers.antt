-- Each test of the code is the test of the definition: not right is at most, right is less, above is negative.
use Rattle.std.proofs.Common.{refl, ◌∙◌, sym}
use Rattle.plan_exact.proofs.Tests.{lt_is, le_is_not}
use Rattle.plan_cross.proofs.crossing.over_from.Goals as goal
use Rattle.plan_cross.proofs.crossing.over_from.Goals.{then-not-is_right, else-not-is_right}

pub returns-then-is_right : goal.returns-then-is_right
returns-then-is_right c =
    let starts = le_is_not _ _ _ c.is_right.ensures in
    let above = lt_is _ _ _ c.is_above.ensures in
    let true_here = c.if-is_right.true in
    elim c.if-not-is_right.branch [
      | then-not-is_right w ↦ let ends = lt_is _ _ _ w.is_right-then-not-is_right.ensures in rw (starts, ends, above, w.if-not-is_right.true, sym w.value-is ∙ true_here) refl
      | else-not-is_right w ↦ let e = w.value-is in absurd (cc)
    ]

pub returns-else-is_right : goal.returns-else-is_right
returns-else-is_right c =
    let starts = le_is_not _ _ _ c.is_right.ensures in
    let false_here = c.if-is_right.false in
    elim c.if-not-is_right.branch [
      | then-not-is_right w ↦ let ends = lt_is _ _ _ w.is_right-then-not-is_right.ensures in rw (starts, ends, w.if-not-is_right.true, sym w.value-is, false_here) refl
      | else-not-is_right w ↦ rw (starts, false_here, w.if-not-is_right.false) refl
    ]
