-- An end that is not strictly inside the room, or a sum.
use Rattle.std.proofs.Common.{inl, inr, ⊎_elim, refl, arith}
use Rattle.plan_exact.proofs.Laws.{linear}
use Rattle.plan_check.proofs.Each.{untrue}
use Rattle.plan_check.proofs.path.touches.Goals as goal

pub returns-then-has_end_beyond-clause-touches : goal.returns-then-has_end_beyond-clause-touches
returns-then-has_end_beyond-clause-touches c =
    let p = c.w.ensures.in_range in
    let q = c.w-2.ensures.in_range in
    (λ e. ((omega (arith, linear, p.weight), omega (arith, linear, q.weight)), inl (c.if-has_end_beyond.ensures.0 refl)), λ h. refl)

pub returns-clause-touches : goal.returns-clause-touches
returns-clause-touches c =
    let p = c.w.ensures.in_range in
    let q = c.w-2.ensures.in_range in (
      λ e. ((omega (arith, linear, p.weight), omega (arith, linear, q.weight)), inr (c.some_meets.ensures.0 e)),
      λ h. ⊎_elim (λ k. absurd (untrue (c.if-has_end_beyond.ensures.1 k))) c.some_meets.ensures.1 h.1,
    )
