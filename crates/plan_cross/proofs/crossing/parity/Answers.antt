-- Each segment moves from those that are left to those before.
use Rattle.std.proofs.Common.{◌≡◌, ℕ, ◌+◌, ◌<◌, Bool, not, List, map, length, get_or, drop, sym, ap, ◌∙◌}
use Rattle.std.specs.Bool.{beq}
use Rattle.std.proofs.Math.ListN.{drop_of_length-le}
use Rattle.plan_spec.specs.Vector.{Vector}
use Rattle.plan_spec.specs.Parity.{over, parity, xor}
use Rattle.plan_grid.specs.Spot.{spot_seen}
use Rattle.plan_cross.specs.declared.segment.Segment.{Segment}
use Rattle.plan_cross.specs.Segment.{segment_seen}
use Rattle.plan_cross.proofs.Found.{next}
use Rattle.plan_cross.proofs.ParityLaw.Xor.{xor_is, xor_assoc, xor_false}
use Rattle.plan_cross.proofs.crossing.parity.Goals as goal

one_more : (odd over_s : Bool) (s : Segment) (segments : List Segment) (i : ℕ) (z : Vector) → i < length segments → s ≡ get_or segments i s → over_s ≡ over (segment_seen s) z
    → xor (not (beq odd over_s)) (parity (map segment_seen (drop (i + 1) segments)) z) ≡ xor odd (parity (map segment_seen (drop i segments)) z)
one_more odd over_s s segments i z h e f =
    let rest = parity (map segment_seen (drop (i + 1) segments)) z in
    ap (λ b. xor b rest) (sym (xor_is odd over_s)) ∙ xor_assoc odd over_s rest ∙ ap (λ b. xor odd (xor b rest)) f
    ∙ ap (λ ss. xor odd (parity (map segment_seen ss) z)) (sym (next s segments i h e))

pub loop-segment-preserved : goal.loop-segment-preserved
loop-segment-preserved c =
    one_more c.loop-segment.odd c.over-odd.result c.segment-item.result c.args.segments.now c.loop-segment.segment-index (spot_seen c.args.z) c.loop-segment-test.true c.segment-item.is c.over-odd.ensures ∙ c.loop-segment.invariant

pub returns : goal.returns
returns c =
    let odd = c.loop-segment.odd in
    sym (xor_false odd) ∙ ap (λ ss. xor odd (parity (map segment_seen ss) (spot_seen c.args.z))) (sym (drop_of_length-le c.args.segments.now c.loop-segment-test.false)) ∙ c.loop-segment.invariant
