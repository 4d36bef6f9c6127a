-- A part of a chain is seen as the part of what is seen.
use Rattle.std.proofs.Common.{map, take, drop, ap, sym, ◌∙◌}
use Rattle.std.proofs.lemmas.List.{take-map, drop-map}
use Rattle.plan_cross.specs.Segment.{segment_seen}
use Rattle.plan_wire.specs.Documents.{chain}
use Rattle.plan_picture.proofs.shown.segment_of.Goals as goal

pub returns-in_ok-segments-in-Blocked : goal.returns-in_ok-segments-in-Blocked
returns-in_ok-segments-in-Blocked c =
    let k = c.args.k in
    let all = c.chain.inside.segments.items in
    rw c.in-Blocked.is
    (ap chain (ap (map segment_seen) (c.in_ok-segments-in-Blocked.ensures ∙ ap (λ l. take 1 (drop k l)) c.deref-in-Blocked.ensures.value)
    ∙ sym (take-map segment_seen 1 (drop k all)) ∙ ap (take 1) (sym (drop-map segment_seen k all)) ∙ ap (λ l. take 1 (drop k l)) c.chain.view_is))
