-- It is enough to test the near sums.
use Rattle.std.proofs.Common.{◌≡◌, Bool, true, false, ◌⊎◌, ⊎_elim, ℕ, ◌<◌, ap, refl, sym, ◌∙◌, ◌+◌, subst, eq-or-lt_of_le, get_or, arith}
use Rattle.plan_exact.proofs.Laws.{linear}
use Rattle.plan_spec.specs.Vector.{IsPoint}
use Rattle.std.proofs.lemmas.List.{get_or_default}
use Rattle.plan_spec.specs.Polygon.{Inside}
use Rattle.plan_grid.specs.Spot.{spots_seen}
use Rattle.plan_slab.specs.Near.{IsHeldAt}
use Rattle.plan_slab.proofs.Boxes.{held_at}
use Rattle.plan_slab.proofs.Regions.NearSums.{clear_near}
use Rattle.plan_slab.proofs.near.is_clear.Goals as goal

-- a test is not both
not_both : {b : Bool} → b ≡ true → ¬ (b ≡ false)
not_both t f = cc

pub returns-then-not-is_within : goal.returns-then-not-is_within
returns-then-not-is_within c =
    let h = c.requires.boxes in
    let z = c.args.z in
    let hz : IsPoint z = omega (arith, linear, c.requires.bounded.weight) in
    let exact = clear_near c.args.sums.now c.args.boxes.now c.args.room z z c.args.near.now h.polygons h.same_length h.enclose hz hz refl c.requires.near in
    (λ no. cc, λ clear. let e = c.is_within.ensures.1 (exact.0 clear).0 in cc)

pub returns-then-is_held : goal.returns-then-is_held
returns-then-is_held c =
    let h = c.requires.boxes in
    let z = c.args.z in
    let hz : IsPoint z = omega (arith, linear, c.requires.bounded.weight) in
    let exact = clear_near c.args.sums.now c.args.boxes.now c.args.room z z c.args.near.now h.polygons h.same_length h.enclose hz hz refl c.requires.near in (
      λ no. cc,
      λ clear. absurd ((exact.0 clear).1 c.loop-i.i-index 0 c.loop-i-test.true
          (held_at c.args.sums.now c.args.boxes.now z (get_or c.args.near.now c.loop-i.i-index 0) c.index-sums-i.result _ (let n = c.requires.near.within c.loop-i.i-index 0 c.loop-i-test.true in omega (arith, n, h.same_length)) (c.requires.near.within c.loop-i.i-index 0 c.loop-i-test.true) (c.is_held.ensures.0 c.if-is_held.true) c.index-sums-i.is)),
    )

pub loop-i-preserved : goal.loop-i-preserved
loop-i-preserved c = λ k d less held. ⊎_elim (λ e. this (subst (IsHeldAt c.args.sums.now c.args.boxes.now c.args.z) (ap (λ i. get_or c.args.near.now i d) e ∙ get_or_default c.args.near.now c.loop-i.i-index d 0 c.loop-i-test.true) held)) (λ lt. c.loop-i.invariant k d lt held) (last k less)
  where
    last : (k : ℕ) → k < c.loop-i.i-index + 1 → (k ≡ c.loop-i.i-index) ⊎ (k < c.loop-i.i-index)
    last k less = eq-or-lt_of_le (omega (arith, less))

    this : ¬ (IsHeldAt c.args.sums.now c.args.boxes.now c.args.z (get_or c.args.near.now c.loop-i.i-index 0))
    this held = let h = held c.index-sums-i.result _ in not_both (c.is_held.ensures.1 (h.0, subst (λ vs. Inside (spots_seen vs) c.args.z) (sym c.index-sums-i.is) h.1)) c.if-is_held.false

pub returns : goal.returns
returns c =
    let h = c.requires.boxes in
    let z = c.args.z in
    let hz : IsPoint z = omega (arith, linear, c.requires.bounded.weight) in
    let exact = clear_near c.args.sums.now c.args.boxes.now c.args.room z z c.args.near.now h.polygons h.same_length h.enclose hz hz refl c.requires.near in
    (λ yes. exact.1 (c.is_within.ensures.0 (let e = c.if-not-is_within.false in cc), λ k d within. c.loop-i.invariant k d (omega arith)), λ clear. refl)
