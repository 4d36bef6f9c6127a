-- The list begins with its least spot, so the first cut is the one at its corner.
use Rattle.std.proofs.Common.{◌≡◌, ◌+◌, ◌-◌, take, drop, ◌++◌, ◌∷◌, [], length, sym, ap, ap₂, ◌∙◌, arith}
use Rattle.std.specs.Prelude.{slice_range}
use Rattle.std.proofs.lemmas.List.{take_all, length-drop}
use Rattle.plan_spec.specs.Triangulation.{from_corner}
use Rattle.plan_grid.specs.Spot.{spot_seen, spots_seen}
use Rattle.plan_plane.proofs.Polygon.Corner.{polygon}
use Rattle.plan_tri.specs.Triangle.{triangle_seen}
use Rattle.plan_tri.proofs.Region.FirstCut.{corner_of, ear_is, parts_are}
use Rattle.plan_tri.proofs.step.first_step.Goals as goal
use Rattle.plan_tri.proofs.step.first_step.Goals.{After-farthest}

-- the corner, as the code takes its spots
at_corner : (c : After-farthest) → spots_seen c.begun_at_least-spots.result.items ≡ polygon (spot_seen c.index.result.now) (spot_seen c.index-2.result.now) (spots_seen (slice_range c.deref.result.now 2 (c.len-last.result - 1))) (spot_seen c.index-3.result.now)
at_corner c =
    let s = c.begun_at_least-spots.result.items in
    let begun = c.begun_at_least-spots.ensures in
    let size : length s ≡ c.len-last.result = ap length (sym c.deref.ensures.value) ∙ c.deref.ensures.len ∙ sym c.len-last.ensures in
    corner_of s c.len-last.result c.index.result.now c.index-2.result.now c.index-3.result.now (slice_range c.deref.result.now 2 (c.len-last.result - 1)) (omega (arith, c.requires, begun.count)) size c.index.ensures c.index-2.ensures c.index-3.ensures (ap (λ l. slice_range l 2 (c.len-last.result - 1)) c.deref.ensures.value)

pub returns-in-None-clause-value : goal.returns-in-None-clause-value
returns-in-None-clause-value c rest =
    let s = c.begun_at_least-spots.result.items in
    let v = c.index.result.now in let w = c.index-2.result.now in let u = c.index-3.result.now in
    let list = at_corner (goal.at.returns-in-None-clause-value c).After-farthest in
    ap (from_corner rest) (sym c.begun_at_least-spots.ensures.value)
    ∙ ear_is s v w u (slice_range c.deref.result.now 2 (c.len-last.result - 1)) list c.in-None.ensures.best rest
    ∙ ap (λ l. triangle_seen (record { a = v; b = w; c = u }) ∷ rest (spots_seen l)) (sym c.remove.ensures.items)

pub returns-in_ok-push-in-Some-clause-value : goal.returns-in_ok-push-in-Some-clause-value
returns-in_ok-push-in-Some-clause-value c rest =
    let s = c.begun_at_least-spots.result.items in
    let v = c.index.result.now in
    let k = c.in-Some.k in
    let list = at_corner (goal.at.returns-in_ok-push-in-Some-clause-value c).After-farthest in
    ap (from_corner rest) (sym c.begun_at_least-spots.ensures.value)
    ∙ parts_are s v c.index-2.result.now c.index-3.result.now (slice_range c.deref.result.now 2 (c.len-last.result - 1)) k list c.in-Some.ensures.within c.in-Some.ensures.best rest
    ∙ ap₂ (λ xs ys. rest (spots_seen xs) ++ rest (spots_seen ys))
    (sym (c.in_ok-first-in-Some.ensures.items ∙ ap (take (k + 3)) c.deref-in-Some.ensures.value))
    (sym (c.in_ok-push-in-Some.ensures.items ∙ ap (λ l. l ++ v ∷ []) (c.in_ok-second-in-Some.ensures.items ∙ take_all _ (drop (k + 2) c.deref-in-Some-2.result.now) (omega (arith, length-drop (k + 2) c.deref-in-Some-2.result.now)) ∙ ap (drop (k + 2)) c.deref-in-Some-2.ensures.value)))
