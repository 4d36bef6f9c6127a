-- A step of the merge: the sum of the two corners is a corner of the sum of the triangles, and the way to the next one is a side. Rising sides lead to a higher vertex, and falling ones past those from which sides rise, so no vertex comes twice.
use Rattle.std.proofs.Common.{◌≡◌, ◌⊎◌, inl, inr, ℕ, zero, suc, pos, ◌+◌, ◌<◌, ◌≤◌, ◌+ℤ◌, ◌≤ℤ◌, ◌<ℤ◌, refl, ap, subst, List, [], ◌∷◌, ◌++◌, arith}
use Rattle.std.specs.Prelude.{All}
use Rattle.std.proofs.lemmas.Int.{ints}
use Rattle.std.proofs.lemmas.List.{length_push}
use Rattle.std.proofs.lemmas.List.Elements.{All-push, All-weaker}
use Rattle.std.proofs.lemmas.List.Quantifiers.{all_pairs_push}
use Rattle.plan_exact.specs.Expr.{◌⊕◌}
use Rattle.plan_exact.specs.Sign.{Sign, is_negative, is_zero, is_positive}
use Rattle.plan_exact.proofs.Laws.{linear}
use Rattle.plan_exact.proofs.Ring.{ring}
use Rattle.plan_exact.proofs.Signs.{sign_of}
use Rattle.plan_grid.specs.declared.spot.Spot.{Spot}
use Rattle.plan_grid.specs.Spot.{spot_seen, IsWithin, plus, way, cross}
use Rattle.plan_convex.specs.declared.walk.Walk.{Walk}
use Rattle.plan_convex.specs.Walk.{corners, edge, IsStep, first, second, both}
use Rattle.plan_convex.proofs.Chains.{sides_push, IsSide}
use Rattle.plan_convex.proofs.Corners.{Borders, IsCorner, apart_of, borders_spot, extreme_between}
use Rattle.plan_grid.proofs.FormalSpots as S
use Rattle.plan_grid.proofs.FormalSpots.{coordinates, P}
use Rattle.plan_convex.proofs.Crosses.{cross_swapped, fall_before_rise, no_way_back}
use Rattle.plan_convex.proofs.Sums.{IsSum, sum_has}
use Rattle.plan_convex.proofs.Walks.{sweep_line, WalksRound, rises_at_home, round_taken, keeps_rising, begins_falling, goes_on_falling, ahead_after, left_before}
use Rattle.plan_convex.proofs.Merge.{vertex, stride, Sum, height, Rising, IsLower, IsPassed, RisesOrFalls, rising, falling, BeginsAt, IsMerge, borders_at, weakly, sum_of}
use Rattle.plan_convex.proofs.Stride.{IsAlong, along}

-- what has no edge left does not turn less than what has one
not_after_end : (s t a b : Walk) (vs : List Spot) → IsMerge s t a b vs → a.edges_left ≡ 0 → 0 < b.edges_left → cross (edge a) (edge b) <ℤ pos 0
not_after_end s t a b vs m none more = by m.course
  where
    by : RisesOrFalls (Sum s t) m.direction a b vs → cross (edge a) (edge b) <ℤ pos 0
    by (rising ka kb level all) = absurd (omega arith)
    by (falling ea (inl kb) falls all) = absurd (omega arith)
    by (falling ea (inr eb) falls all) =
        let h = fall_before_rise sweep_line m.direction (edge a) (edge b) falls eb (rises_at_home s a m.first_round none) m.second_ahead.next m.first_ahead.next in
        omega (arith, linear, cross_swapped (edge a) (edge b))

not_before_end : (s t a b : Walk) (vs : List Spot) → IsMerge s t a b vs → b.edges_left ≡ 0 → 0 < a.edges_left → pos 0 <ℤ cross (edge a) (edge b)
not_before_end s t a b vs m none more = by m.course
  where
    by : RisesOrFalls (Sum s t) m.direction a b vs → pos 0 <ℤ cross (edge a) (edge b)
    by (rising ka kb level all) = absurd (omega arith)
    by (falling (inl ka) eb falls all) = absurd (omega arith)
    by (falling (inr ea) eb falls all) = fall_before_rise sweep_line m.direction (edge b) (edge a) falls ea (rises_at_home t b m.second_round none) m.first_ahead.next m.second_ahead.next

-- while an edge is left, the walk that is to go on has one
pub first_may_go : (s t a b : Walk) (vs : List Spot) → IsMerge s t a b vs → 0 < a.edges_left + b.edges_left → pos 0 ≤ℤ cross (edge a) (edge b) → 0 < a.edges_left
first_may_go s t a b vs m more bend = by a.edges_left refl
  where
    by : (n : ℕ) → a.edges_left ≡ n → 0 < a.edges_left
    by zero e = let h = not_after_end s t a b vs m e (omega arith) in absurd (omega (arith, linear))
    by (suc n) e = omega arith

pub second_may_go : (s t a b : Walk) (vs : List Spot) → IsMerge s t a b vs → 0 < a.edges_left + b.edges_left → cross (edge a) (edge b) ≤ℤ pos 0 → 0 < b.edges_left
second_may_go s t a b vs m more bend = by b.edges_left refl
  where
    by : (n : ℕ) → b.edges_left ≡ n → 0 < b.edges_left
    by zero e = let h = not_before_end s t a b vs m e (omega arith) in absurd (omega (arith, linear))
    by (suc n) e = omega arith

height_way : (p q : Spot) → height q ≡ height p +ℤ cross sweep_line (way p q)
height_way p q = ring (coordinates (p ∷ q ∷ sweep_line ∷ [])) (S.cross (P 2) (P 1)) (S.cross (P 2) (P 0) ⊕ S.cross (P 2) (S.way (P 0) (P 1))) tt

same_height : (p q : Spot) → p ≡ q → height p ≡ height q
same_height p q e = ap height e

begins_push : (v w : Spot) (vs : List Spot) → (vs ≡ [] → v ≡ w) → BeginsAt w vs → BeginsAt w (vs ++ v ∷ [])
begins_push v w [] h k = h refl
begins_push v w (u ∷ us) h k = k

not_empty : (v : Spot) (vs : List Spot) → vs ++ v ∷ [] ≡ [] → ⊥
not_empty v [] e = cc
not_empty v (u ∷ us) e = cc

counts : (a b a' b' : Walk) → IsStep a b a' b' → (a'.edges_left + b'.edges_left < a.edges_left + b.edges_left) × (a.edges_left ≤ a'.edges_left + 1)
counts a b a' b' (first bend o same) = let e = o.edges in let f = ap (λ (w : Walk). w.edges_left) same in (omega arith, omega arith)
counts a b a' b' (second bend same o) = let e = o.edges in let f = ap (λ (w : Walk). w.edges_left) same in (omega arith, omega arith)
counts a b a' b' (both bend o o') = let e = o.edges in let f = o'.edges in (omega arith, omega arith)

within_sum : (p q : Spot) → IsWithin 1023 p → IsWithin 1023 q → IsWithin 2046 (plus p q)
within_sum p q hp hq = record { x = omega (arith, ints); y = omega (arith, ints) }

lower : {A : Type 0} (u v w : Spot) → height w <ℤ height v → (height v <ℤ height u) ⊎ A → (height w <ℤ height u) ⊎ A
lower u v w down (inl h) = inl (omega (arith, linear))
lower u v w down (inr r) = inr r

module _ (s t a b a' b' : Walk) (vs : List Spot) (m : IsMerge s t a b vs) (step : IsStep a b a' b') where
  -- the side that is walked
  side_is : IsAlong m.direction (stride a b a' b') a b a' b'
  side_is = along s t a b a' b' m.direction m.first_round m.second_round m.first_ahead m.second_ahead step

  first_round' : WalksRound s a'
  first_round' = round_taken s a a' (stride a b a' b') m.first_round side_is.first_taken

  second_round' : WalksRound t b'
  second_round' = round_taken t b b' (stride a b a' b') m.second_round side_is.second_taken

  borders : Borders (Sum s t) (vertex a b) (stride a b a' b')
  borders = borders_at s t a b (stride a b a' b') m.first_round m.second_round (left_before a a' (stride a b a' b') side_is.first_taken) (left_before b b' (stride a b a' b') side_is.second_taken)

  borders_before : Borders (Sum s t) (vertex a b) m.direction
  borders_before = borders_at s t a b m.direction m.first_round m.second_round (weakly m.direction a m.first_ahead) (weakly m.direction b m.second_ahead)

  has_vertex : Sum s t (spot_seen (vertex a b))
  has_vertex = sum_has (corners s) (corners t) (vertex a b) (sum_of s t a b m.first_round m.second_round)

  has_next : Sum s t (spot_seen (vertex a' b'))
  has_next = sum_has (corners s) (corners t) (vertex a' b') (sum_of s t a' b' first_round' second_round')

  -- the vertex is a new one
  is_new : All (λ u. ¬ (u ≡ vertex a b)) vs
  is_new = by m.course
    where
      by : RisesOrFalls (Sum s t) m.direction a b vs → All (λ u. ¬ (u ≡ vertex a b)) vs
      by (rising ka kb level all) = All-weaker (IsLower (Sum s t) (vertex a b)) (λ u. ¬ (u ≡ vertex a b)) (λ u h same. let e = same_height u (vertex a b) same in let l = h.0 in omega (arith, linear)) vs all
      by (falling ea eb falls all) = All-weaker (IsPassed (Sum s t) (vertex a b)) (λ u. ¬ (u ≡ vertex a b)) other vs all
        where
          other : (u : Spot) → IsPassed (Sum s t) (vertex a b) u → ¬ (u ≡ vertex a b)
          other u (inl h) same = let e = same_height u (vertex a b) same in omega (arith, linear)
          other u (inr r) same = ends_once (subst (Rising (Sum s t)) same r)
            where
              ends_once : Rising (Sum s t) (vertex a b) → ⊥
              ends_once r =
                  let v = vertex a b in let e = stride a b a' b' in let f = way (vertex a b) r.upper in
                  let fe = borders_spot (Sum s t) v f (vertex a' b') r.borders has_next in
                  let ef = borders_spot (Sum s t) v e r.upper borders r.belongs in
                  no_way_back sweep_line m.direction f e r.rises (side_is.falls ea eb) (omega (arith, linear, cross_swapped f e)) side_is.left (borders_spot (Sum s t) v m.direction r.upper borders_before r.belongs)

  -- the next vertex is higher or lower by the rise of the side
  course' : RisesOrFalls (Sum s t) (stride a b a' b') a' b' (vs ++ vertex a b ∷ [])
  course' = by m.course
    where
      by : RisesOrFalls (Sum s t) m.direction a b vs → RisesOrFalls (Sum s t) (stride a b a' b') a' b' (vs ++ vertex a b ∷ [])
      by (rising ka kb level all) = by_sign (sign_of (cross sweep_line (stride a b a' b')))
        where
          by_sign : Sign (cross sweep_line (stride a b a' b')) → RisesOrFalls (Sum s t) (stride a b a' b') a' b' (vs ++ vertex a b ∷ [])
          by_sign (is_zero z) = absurd (side_is.tilted z)
          by_sign (is_positive p) =
              let v = vertex a b in let v' = vertex a' b' in let e = way v v' in
              let Q = IsLower (Sum s t) v' in
              let up : height v <ℤ height v' = omega (arith, linear, height_way v v') in
              rising (keeps_rising s a a' m.direction e m.first_round m.first_ahead side_is.left side_is.first_taken ka p)
              (keeps_rising t b b' m.direction e m.second_round m.second_ahead side_is.left side_is.second_taken kb p)
              (omega (arith, linear))
              (All-push Q vs v (All-weaker (IsLower (Sum s t) v) Q (λ u h. let l = h.0 in (omega (arith, linear), h.1)) vs all)
              (up, record { upper = v'; belongs = has_next; borders = borders; rises = p }))
          by_sign (is_negative n) =
              let v = vertex a b in let v' = vertex a' b' in let e = way v v' in
              let Q = IsPassed (Sum s t) v' in
              falling (begins_falling s a a' m.direction e m.first_round m.first_ahead side_is.left side_is.first_taken level n)
              (begins_falling t b b' m.direction e m.second_round m.second_ahead side_is.left side_is.second_taken level n)
              n
              (All-push Q vs v (All-weaker (IsLower (Sum s t) v) Q (λ u h. inr h.1) vs all) (inl (omega (arith, linear, height_way v v'))))
      by (falling ea eb falls all) =
          let v = vertex a b in let v' = vertex a' b' in let e = way v v' in
          let n = side_is.falls ea eb in
          let Q = IsPassed (Sum s t) v' in
          let down : height v' <ℤ height v = omega (arith, linear, height_way v v') in
          falling (goes_on_falling s a a' m.direction e m.first_round m.first_ahead side_is.left side_is.first_taken ea n)
          (goes_on_falling t b b' m.direction e m.second_round m.second_ahead side_is.left side_is.second_taken eb n)
          n
          (All-push Q vs v (All-weaker (IsPassed (Sum s t) v) Q (λ u h. lower u v v' down h) vs all) (inl down))

  -- the vertices with one more
  pub merge_step : IsMerge s t a' b' (vs ++ vertex a b ∷ [])
  merge_step =
      let v = vertex a b in let v' = vertex a' b' in let e = way v v' in
      let n = counts a b a' b' step in
      let more = length_push vs v in
      let most = m.at_most in let least = m.at_least in
      let n0 = n.0 in let n1 = n.1 in
      record {
        direction = e;
        first_round = first_round';
        second_round = second_round';
        first_ahead = ahead_after s a a' e m.first_round side_is.first_taken;
        second_ahead = ahead_after t b b' e m.second_round side_is.second_taken;
        course = course';
        sides = sides_push (IsSide (Sum s t)) vs v v' m.sides (record { borders = borders; apart = apart_of m.direction v v' side_is.left });
        extremes = All-push (IsCorner (Sum s t)) vs v m.extremes (record { belongs = has_vertex; extreme = extreme_between (Sum s t) v m.direction e borders_before borders side_is.left });
        sums = All-push (IsSum (corners s) (corners t)) vs v m.sums (sum_of s t a b m.first_round m.second_round);
        distinct = all_pairs_push (λ u w. ¬ (u ≡ w)) vs v m.distinct is_new;
        bounded = All-push (IsWithin 2046) vs v m.bounded (within_sum a.at b.at m.first_round.at_bounded m.second_round.at_bounded);
        begins = (λ none. absurd (not_empty v vs none), begins_push v (vertex s t) vs m.begins.0 m.begins.1);
        at_most = omega arith;
        at_least = omega arith;
      }
