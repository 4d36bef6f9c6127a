-- When both walks are at home again, the vertices close to a convex polygon, which holds just the sum of the two triangles.
use Rattle.std.proofs.Common.{◌≡◌, pos, ◌+◌, ◌≤◌, ◌≤ℤ◌, ◌↔◌, ◌∙◌, sym, ap₂, subst, List, [], ◌∷◌, length, arith}
use Rattle.std.proofs.lemmas.List.Elements.{All-head}
use Rattle.plan_spec.specs.Vector.{Vector, IsPoint}
use Rattle.plan_spec.specs.Polygon.{Inside, OnOrLeft}
use Rattle.plan_grid.specs.declared.spot.Spot.{Spot}
use Rattle.plan_convex.specs.declared.walk.Walk.{Walk}
use Rattle.plan_grid.specs.Spot.{spots_seen, plus}
use Rattle.plan_convex.specs.Convex.{IsPolygon}
use Rattle.plan_convex.specs.Walk.{corners, IsStart}
use Rattle.plan_convex.proofs.Chains.{AllSides, IsSide, edges_from_sides, convex_from_sides}
use Rattle.plan_convex.proofs.Corners.{Borders, IsCorner}
use Rattle.plan_convex.proofs.Fan.{held_by_triangle}
use Rattle.plan_convex.proofs.Merge.{vertex, Sum, IsMerge, borders_at, weakly}
use Rattle.plan_convex.proofs.Sums.{IsSum, sum_holds}
use Rattle.plan_grid.proofs.Turns.{turn_beside}
use Rattle.plan_convex.proofs.Walks.{sweep_line, round_start, ahead_at_start, home_again}

-- the polygon of these vertices, and what it holds
pub record IsSumPolygon (s t : Walk) (vs : List Spot) : Type 0 where
  pub polygon : IsPolygon vs
  pub holds : (p : Vector) → IsPoint p → Inside (spots_seen vs) p ↔ Sum s t p

closed : (s t a b : Walk) (u : Spot) (us : List Spot) → IsStart s → IsStart t → IsMerge s t a b (u ∷ us) → a.edges_left + b.edges_left ≡ 0 → IsSumPolygon s t (u ∷ us)
closed s t a b u us hs ht m none =
    let S = Sum s t in
    let home : vertex a b ≡ u = ap₂ plus (home_again s a m.first_round (omega arith)) (home_again t b m.second_round (omega arith)) ∙ sym m.begins.1 in
    let sides : AllSides (IsSide S) (u ∷ us) u = subst (AllSides (IsSide S) (u ∷ us)) home m.sides in
    let lowest : Borders S u sweep_line =
    subst (λ v. Borders S v sweep_line) (sym m.begins.1) (borders_at s t s t sweep_line (round_start s hs) (round_start t ht) (weakly sweep_line s (ahead_at_start s hs)) (weakly sweep_line t (ahead_at_start t ht))) in
    let convex = convex_from_sides S u us lowest m.extremes m.bounded m.distinct sides in
    let most = m.at_most in let least = m.at_least in
    let long : 3 ≤ length (u ∷ us) = omega arith in
    record {
      polygon = record { at_least_three = long; at_most_six = omega arith; convex = convex; bounded = m.bounded };
      holds = λ p is_point. (
        λ inside. sum_holds s.at s.next s.previous t.at t.next t.previous p is_point (held_by_triangle (IsSum (corners s) (corners t)) p (u ∷ us) long convex m.sums inside),
        λ i. edges_from_sides (IsSide S) (IsCorner S) (OnOrLeft p) (λ v w side cv cw. subst (λ k. pos 0 ≤ℤ k) (turn_beside v w p) (side.borders p is_point i)) (u ∷ us) u m.extremes (All-head (IsCorner S) u us m.extremes) sides,
      );
    }

pub merge_end : (s t a b : Walk) (vs : List Spot) → IsStart s → IsStart t → IsMerge s t a b vs → a.edges_left + b.edges_left ≡ 0 → IsSumPolygon s t vs
merge_end s t a b [] hs ht m none = let least = m.at_least in absurd (omega arith)
merge_end s t a b (u ∷ us) hs ht m none = closed s t a b u us hs ht m none
