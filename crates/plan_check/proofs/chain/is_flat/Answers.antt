-- Points that are equal are at one position.
use Rattle.std.proofs.Common.{◌∙◌, sym, arith}
use Rattle.plan_exact.proofs.Laws.{linear}
use Rattle.plan_plane.proofs.Segment.Same.{same_true, same_from}
use Rattle.plan_cross.proofs.Equal.{equal_is_same}
use Rattle.plan_check.proofs.chain.is_flat.Goals as goal

pub returns-clause-flat : goal.returns-clause-flat
returns-clause-flat c =
    let s = c.args.segment.now in
    let a = c.w.ensures.in_range in
    let b = c.w-2.ensures.in_range in
    let equal = c.eq.ensures ∙ equal_is_same s.a s.b (omega (arith, linear, a.weight)) (omega (arith, linear, b.weight)) in
    (λ e. same_true s.a s.b (sym equal ∙ e), λ h. equal ∙ same_from s.a s.b h)
