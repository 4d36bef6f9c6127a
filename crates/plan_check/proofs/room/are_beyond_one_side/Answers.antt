-- Where the box is on or beyond a side both ends are, and the other way round.
use Rattle.std.proofs.Common.{inl, inr, ⊎_elim, refl}
use Rattle.plan_check.proofs.Each.{untrue}
use Rattle.plan_check.proofs.WholeBoxes.{beyond}
use Rattle.plan_check.proofs.room.are_beyond_one_side.Goals as goal

pub returns-then-is_beside : goal.returns-then-is_beside
returns-then-is_beside c =
    let b = beyond c.args.room c.whole_box-reach.result c.args.p.now c.args.q.now c.whole_box-reach.ensures in
    (λ e. b.0 (inl (c.if-is_beside.ensures.0 refl)), λ h. refl)

pub returns : goal.returns
returns c =
    let b = beyond c.args.room c.whole_box-reach.result c.args.p.now c.args.q.now c.whole_box-reach.ensures in
    (λ e. b.0 (inr (c.is_above_or_below.ensures.0 e)), λ h. ⊎_elim (λ k. absurd (untrue (c.if-is_beside.ensures.1 k))) c.is_above_or_below.ensures.1 (b.1 h))
