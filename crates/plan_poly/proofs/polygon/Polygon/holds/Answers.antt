-- The walk meets each edge once, and leaves at one that has z.
use Rattle.std.proofs.Common.{◌≡◌, Bool, true, false, not, inl, inr, ⊎_elim, ◌+◌, refl, sym, subst, ◌∙◌, arith}
use Rattle.std.specs.Bool.{beq}
use Rattle.std.proofs.lemmas.List.Elements.{All-nil}
use Rattle.plan_spec.specs.Segment.{On}
use Rattle.plan_spec.specs.Parity.{xor}
use Rattle.plan_spec.specs.Polygon.{edges}
use Rattle.plan_spec.specs.SimplePolygon.{InPolygon}
use Rattle.plan_grid.specs.Spot.{spots_seen}
use Rattle.plan_grid.proofs.Edges.{length-edges}
use Rattle.plan_plane.proofs.Lists.{no_one}
use Rattle.plan_cross.proofs.ParityLaw.Xor.{xor_is}
use Rattle.plan_poly.specs.Edge.{segment_seen}
use Rattle.plan_poly.proofs.EvenOdd.Walk.{Walked, walked_more, walked_all, has_one}
use Rattle.plan_poly.proofs.polygon.Polygon.holds.Goals as goal

pub loop-i-init : goal.loop-i-init
loop-i-init c = record { off = All-nil (λ s. ¬ (On s c.args.z.now)); count = refl }

pub of-edge-requires : goal.of-edge-requires
of-edge-requires c = c.loop-i-test.true

pub loop-i-preserved : goal.loop-i-preserved
loop-i-preserved c =
    let spots = c.spots-spots.result.now in
    let es = edges (spots_seen spots) in
    let within = c.loop-i-test.true in
    let off : ¬ (On (segment_seen c.of-edge.result) c.args.z.now) = λ o. let e = c.if-has_point.ensures.1 o in cc in
    subst (λ b. Walked es (c.loop-i.i + 1) b c.args.z.now) (xor_is c.loop-i.odd c.stands_over-odd.result) (walked_more (segment_seen c.of-edge.result) c.stands_over-odd.result c.loop-i.invariant (omega (arith, length-edges spots)) c.of-edge.ensures off c.stands_over-odd.ensures)

pub returns-then-has_point : goal.returns-then-has_point
returns-then-has_point c =
    let one = has_one _ _ _ _ c.of-edge.ensures (c.if-has_point.ensures.0 refl) in
    (λ yes. subst (λ l. InPolygon (spots_seen l) c.args.z.now) c.spots-spots.ensures.value (inl one), λ held. refl)

pub returns : goal.returns
returns c =
    let spots = c.spots-spots.result.now in
    let z = c.args.z.now in
    let past = c.loop-i-test.false in
    let all = walked_all c.loop-i.invariant (omega (arith, length-edges spots)) in
    let same = c.spots-spots.ensures.value in (
      λ yes. subst (λ l. InPolygon (spots_seen l) z) same (inr (sym all.1 ∙ yes)),
      λ held. ⊎_elim (λ m. absurd (no_one (λ s. On s z) (edges (spots_seen spots)) all.0 m)) (λ odd. all.1 ∙ odd) (subst (λ l. InPolygon (spots_seen l) z) (sym same) held),
    )
