-- Of the bars the first of each height are the spans.
use Rattle.std.proofs.Common.{subst, ap, ◌∙◌, map}
use Rattle.plan_spec.specs.Slabs.{AreSpans}
use Rattle.plan_slab.specs.declared.rungs.Rung.{Rung}
use Rattle.plan_slab.specs.Rungs.{AreFirstOf}
use Rattle.plan_slab.specs.Seen.{line_seen}
use Rattle.plan_slab.proofs.Order.Across.{IsSlab}
use Rattle.plan_slab.proofs.Pieces.{has_pieces}
use Rattle.plan_slab.proofs.XValues.{line_point}
use Rattle.plan_slab.proofs.SlabSpans.{spans_of_slab, seen_strands}
use Rattle.plan_slab.proofs.spans.spans_between.Goals as goal

pub returns-clause-spans : goal.returns-clause-spans
returns-clause-spans c = λ sums room pieces floor bound wide across.
    let l = c.args.left in
    let r = c.args.right in
    let slab : IsSlab (line_seen l) (line_seen r) = record { left_point = line_point l c.requires.left.ratio; right_point = line_point r c.requires.right.ratio; wide = wide } in
    subst (AreSpans sums room pieces (line_seen l) (line_seen r)) (seen_strands c.in_ok-rungs.rungs.items c.in_ok-strands.strands.items (c.in_ok-strands.ensures ∙ ap (map (λ (g : Rung). g.strand)) c.deref.ensures.value))
    (spans_of_slab (has_pieces floor bound) l r slab c.args.bars.now across.each across.every c.in_ok-rungs.rungs.items (subst (λ z. AreFirstOf z c.args.bars.now c.in_ok-rungs.rungs.items) c.mediant_of-x.ensures.value c.in_ok-rungs.ensures))
