-- Each turn that was computed is that of one edge, so either z is right of one of them, or on or left of all.
use Rattle.std.proofs.Common.{◌≡◌, ◌⊎◌, inl, inr, ℤ, pos, ◌≤ℤ◌, ◌<ℤ◌, ◌∙◌, refl, sym, subst, arith, below_more}
use Rattle.plan_exact.proofs.Laws.{linear}
use Rattle.plan_exact.proofs.Signs.{le_or_lt}
use Rattle.plan_spec.specs.Polygon.{Inside, OnOrLeft}
use Rattle.plan_grid.specs.Spot.{spots_seen}
use Rattle.plan_grid.proofs.Edges.{edge_at}
use Rattle.plan_convex.proofs.Edges.{inside_by_number, left_of_edge}
use Rattle.plan_convex.proofs.convex.Convex.holds.Goals as goal

pub returns-then-is_right : goal.returns-then-is_right
returns-then-is_right c =
    let spots = c.as_slice-spots.result.now in
    let same : spots ≡ c.args.self.now = c.as_slice-spots.ensures ∙ c.self.view_is in
    let right = c.if-is_right.ensures.0 refl in (
      λ no. cc,
      λ inside.
          let left = left_of_edge spots c.args.z.now c.loop-i.i c.loop-i-test.true (subst (λ l. Inside (spots_seen l) c.args.z.now) (sym same) inside) in
          absurd (omega (arith, linear)),
    )

pub loop-i-preserved : goal.loop-i-preserved
loop-i-preserved c =
    let spots = c.as_slice-spots.result.now in
    below_more (λ k. OnOrLeft c.args.z.now (edge_at spots k)) c.loop-i.i c.loop-i.invariant
    (not_negative _ (λ h. let e = c.if-is_right.ensures.1 h in cc))
  where
    not_negative : (a : ℤ) → ¬ (a <ℤ pos 0) → pos 0 ≤ℤ a
    not_negative a h = by (le_or_lt (pos 0) a)
      where
        by : (pos 0 ≤ℤ a) ⊎ (a <ℤ pos 0) → pos 0 ≤ℤ a
        by (inl k) = k
        by (inr n) = absurd (h n)

pub returns : goal.returns
returns c =
    let spots = c.as_slice-spots.result.now in
    let z = c.args.z.now in
    let same : spots ≡ c.args.self.now = c.as_slice-spots.ensures ∙ c.self.view_is in
    let past = c.loop-i-test.false in
    let all = inside_by_number spots z (λ k h. c.loop-i.invariant k (omega arith)) in
    (λ yes. subst (λ l. Inside (spots_seen l) z) same all, λ inside. refl)
