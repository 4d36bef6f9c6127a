-- The segments of a chain are seen by their ends.
use Rattle.std.proofs.Common.{◌++◌, ap, ◌∙◌}
use Rattle.std.specs.List.{flat_map}
use Rattle.std.proofs.lemmas.Result.{on_ok_weaker}
use Rattle.plan_cross.specs.Segment.{segment_seen}
use Rattle.plan_svg.specs.Shapes.{stroke_text, strokes_text}
use Rattle.plan_svg.proofs.Puts.{of_seen}
use Rattle.plan_svg.proofs.shape.put_certificate_strokes.Goals as goal

pub returns-in-Blocked : goal.returns-in-Blocked
unfolding strokes_text
returns-in-Blocked c =
    rw c.in-Blocked.is (on_ok_weaker c.put_strokes.result
    (λ e. e ∙ ap (λ l. c.args.out.now.items ++ l) (ap (flat_map (λ s. stroke_text (segment_seen s))) c.deref-in-Blocked.ensures.value ∙ of_seen stroke_text segment_seen c.chain.inside.segments.items ∙ ap (flat_map stroke_text) c.chain.view_is))
    c.put_strokes.ensures)
