-- Walks round a triangle, seen from a direction g, right of which no corner is as seen from the least one: the edges before the last rise, as far as g tells, and those after the highest corner fall.
use Rattle.std.proofs.Common.{◌≡◌, ◌⊎◌, inl, inr, ℕ, zero, suc, ℤ, pos, negsuc, ◌+◌, ◌<◌, ◌≤◌, ◌-ℤ◌, ◌*ℤ◌, ◌≤ℤ◌, ◌<ℤ◌, ◌∙◌, refl, sym, ap, subst, [], ◌∷◌, arith, add-one}
use Rattle.std.proofs.lemmas.Int.{ints}
use Rattle.std.specs.Int.RustNames.{unsigned_abs}
use Rattle.plan_exact.specs.Sign.{Sign, is_negative, is_zero, is_positive}
use Rattle.plan_exact.proofs.Laws.{linear}
use Rattle.plan_exact.proofs.Ring.{ring}
use Rattle.plan_exact.proofs.Signs.{sign_of, mul_zero}
use Rattle.plan_spec.specs.Vector.{Vector, Before}
use Rattle.plan_spec.specs.Polygon.{Inside}
use Rattle.plan_plane.proofs.Polygon.Triangle.{inside_turned}
use Rattle.plan_grid.specs.declared.spot.Spot.{Spot}
use Rattle.plan_grid.specs.Spot.{spot_seen, IsWithin, spots_seen, way, cross}
use Rattle.plan_convex.specs.declared.walk.Walk.{Walk}
use Rattle.plan_convex.specs.Walk.{corners, edge, IsStart, IsOnward}
use Rattle.plan_grid.proofs.Triangles.{corners_within}
use Rattle.plan_grid.proofs.Turns.{turn_cross}
use Rattle.plan_grid.proofs.FormalSpots as S
use Rattle.plan_grid.proofs.FormalSpots.{coordinates, P}
use Rattle.plan_convex.proofs.Crosses.{cross_swapped, cross_way_back, cross_way_on, right_of_aligned, left_of_aligned, rise_before_fall}

-- the direction of a line that sweeps the spots in their order: of two spots of small coordinates the later one is to the left of it, as seen from the other
abbrev pub sweep_line : Spot
sweep_line = record { x = pos 1; y = negsuc 8191 }

-- the direction from where the walk stands to the corner behind it
abbrev pub way_back : Walk → Spot
way_back w = way w.at w.previous

-- p is the home corner, and both others are left of g as seen from it
pub record IsLeast (g home p q r : Spot) : Type 0 where
  pub is_home : p ≡ home
  pub next : pos 0 <ℤ cross g (way p q)
  pub previous : pos 0 <ℤ cross g (way p r)

-- which of p, q, r is the home corner, with so many edges left of the three
abbrev pub IsPlaced : Spot → Spot → ℕ → Spot → Spot → Spot → Type 0
IsPlaced g home zero p q r = IsLeast g home p q r
IsPlaced g home (suc zero) p q r = IsLeast g home q r p
IsPlaced g home (suc (suc zero)) p q r = IsLeast g home r p q
IsPlaced g home (suc (suc (suc zero))) p q r = IsLeast g home p q r
IsPlaced g home (suc (suc (suc (suc n)))) p q r = ⊥

-- w walks round the triangle that t walks round from its home corner
pub record WalksRound (t w : Walk) : Type 0 where
  pub turns : pos 0 <ℤ cross (edge w) (way_back w)
  pub at_bounded : IsWithin 1023 w.at
  pub next_bounded : IsWithin 1023 w.next
  pub previous_bounded : IsWithin 1023 w.previous
  pub same : (z : Vector) → Inside (spots_seen (corners t)) z → Inside (spots_seen (corners w)) z
  pub back : (z : Vector) → Inside (spots_seen (corners w)) z → Inside (spots_seen (corners t)) z
  pub placed : IsPlaced sweep_line t.at w.edges_left w.at w.next w.previous

-- ---- the next corner
-- the walk one corner on, with n edges left
abbrev walked_on : Walk → ℕ → Walk
walked_on w n = record { at = w.next; next = w.previous; previous = w.at; edges_left = n }

gone_on : (w v : Walk) → IsOnward w v → v ≡ walked_on w v.edges_left
gone_on w v h = λ i. record { at = h.at i; next = h.next i; previous = h.previous i; edges_left = v.edges_left }

placed_onward : (g home : Spot) (n : ℕ) (p q r : Spot) → IsPlaced g home (suc n) p q r → IsPlaced g home n q r p
placed_onward g home zero p q r h = h
placed_onward g home (suc zero) p q r h = h
placed_onward g home (suc (suc zero)) p q r h = h
placed_onward g home (suc (suc (suc n))) p q r h = absurd h

turned_corner : (p q r : Spot) → cross (way p q) (way p r) ≡ cross (way q r) (way q p)
turned_corner p q r = ring (coordinates (p ∷ q ∷ r ∷ [])) (S.cross (S.way (P 0) (P 1)) (S.way (P 0) (P 2))) (S.cross (S.way (P 1) (P 2)) (S.way (P 1) (P 0))) tt

round_gone : (t w : Walk) (n : ℕ) → w.edges_left ≡ suc n → WalksRound t w → WalksRound t (walked_on w n)
round_gone t w n e h = record {
  turns = subst (λ k. pos 0 <ℤ k) (turned_corner w.at w.next w.previous) h.turns;
  at_bounded = h.next_bounded;
  next_bounded = h.previous_bounded;
  previous_bounded = h.at_bounded;
  same = λ z i. inside_turned (spot_seen w.at) (spot_seen w.next) (spot_seen w.previous) z (h.same z i);
  back = λ z i. h.back z (inside_turned (spot_seen w.previous) (spot_seen w.at) (spot_seen w.next) z (inside_turned (spot_seen w.next) (spot_seen w.previous) (spot_seen w.at) z i));
  placed = placed_onward sweep_line t.at n w.at w.next w.previous (subst (λ k. IsPlaced sweep_line t.at k w.at w.next w.previous) e h.placed);
}

pub round_onward : (t w v : Walk) → IsOnward w v → WalksRound t w → WalksRound t v
round_onward t w v o h = subst (WalksRound t) (sym (gone_on w v o)) (round_gone t w v.edges_left (o.edges ∙ add-one v.edges_left) h)

-- ---- at the start
way_bounded : (p q : Spot) → IsWithin 1023 p → IsWithin 1023 q → (unsigned_abs (q.x -ℤ p.x) ≤ 4092) × (unsigned_abs (q.y -ℤ p.y) ≤ 4092)
way_bounded p q hp hq = (omega (arith, ints), omega (arith, ints))

-- from a spot up to a later one the way rises
later_rises : (p q : Spot) → IsWithin 1023 p → IsWithin 1023 q → Before (spot_seen p) (spot_seen q) → pos 0 <ℤ cross sweep_line (way p q)
later_rises p q hp hq later = by later
  where
    by : Before (spot_seen p) (spot_seen q) → pos 0 <ℤ cross sweep_line (way p q)
    by (inl h) = omega (arith, ints)
    by (inr h) = let e = h.0 in let k = h.1 in omega (arith, ints)

pub round_start : (t : Walk) → IsStart t → WalksRound t t
round_start t h =
    let k = corners_within t.at t.next t.previous h.triangle.triangle.bounded in
    let next_later = h.least 0 (spot_seen t.next) (omega arith) in
    let previous_later = h.least 1 (spot_seen t.next) (omega arith) in
    record {
      turns = subst (λ k. pos 0 <ℤ k) (turn_cross t.at t.next t.previous) h.triangle.left;
      at_bounded = k.0;
      next_bounded = k.1;
      previous_bounded = k.2;
      same = λ z i. i;
      back = λ z i. i;
      placed = subst (λ k. IsPlaced sweep_line t.at k t.at t.next t.previous) (sym h.edges)
          (record { is_home = refl; next = later_rises t.at t.next k.0 k.1 next_later; previous = later_rises t.at t.previous k.0 k.2 previous_later });
    }

-- ---- what rises and what falls
-- no edge is level
level : (x y : ℤ) → unsigned_abs x ≤ 4092 → unsigned_abs y ≤ 4092 → pos 1 *ℤ y -ℤ negsuc 8191 *ℤ x ≡ pos 0 → (x ≡ pos 0) × (y ≡ pos 0)
level x y hx hy e = (omega (arith, ints), omega (arith, ints))

not_level : (t w : Walk) (d : Spot) → WalksRound t w → pos 0 <ℤ cross d (edge w) → cross sweep_line (edge w) ≡ pos 0 → ⊥
not_level t w d h ahead e =
    let b = way_bounded w.at w.next h.at_bounded h.next_bounded in
    let z = level (edge w).x (edge w).y b.0 b.1 e in
    omega (arith, linear, ap (λ k. d.x *ℤ k) z.1 ∙ mul_zero d.x, ap (λ k. d.y *ℤ k) z.0 ∙ mul_zero d.y)

placed_at : (t w : Walk) (n : ℕ) → w.edges_left ≡ n → WalksRound t w → IsPlaced sweep_line t.at n w.at w.next w.previous
placed_at t w n e h = subst (λ k. IsPlaced sweep_line t.at k w.at w.next w.previous) e h.placed

-- with no edge left the walk is at home again, and the edge ahead rises
pub home_again : (t w : Walk) → WalksRound t w → w.edges_left ≡ 0 → w.at ≡ t.at
home_again t w h e = (placed_at t w 0 e h).is_home

pub rises_at_home : (t w : Walk) → WalksRound t w → w.edges_left ≡ 0 → pos 0 <ℤ cross sweep_line (edge w)
rises_at_home t w h e = (placed_at t w 0 e h).next

rises_first : (t w : Walk) → WalksRound t w → w.edges_left ≡ 3 → pos 0 <ℤ cross sweep_line (edge w)
rises_first t w h e = (placed_at t w 3 e h).next

falls_last : (t w : Walk) → WalksRound t w → w.edges_left ≡ 1 → cross sweep_line (edge w) <ℤ pos 0
falls_last t w h e =
    let l = (placed_at t w 1 e h).previous in
    omega (arith, linear, cross_way_back sweep_line w.next w.at)

-- no edge is left, or the edge ahead falls
abbrev pub EndsFalling : Walk → Type 0
EndsFalling w = (w.edges_left ≡ 0) ⊎ (cross sweep_line (edge w) <ℤ pos 0)

-- after an edge that falls none rises
falls_on : (t w v : Walk) → WalksRound t w → IsOnward w v → cross sweep_line (edge w) <ℤ pos 0 → EndsFalling v
falls_on t w v h o falls = by v.edges_left refl
  where
    by : (n : ℕ) → v.edges_left ≡ n → EndsFalling v
    by zero e = inl e
    by (suc zero) e = inr (falls_last t v (round_onward t w v o h) e)
    by (suc (suc zero)) e = let r = rises_first t w h (o.edges ∙ ap (λ k. k + 1) e) in absurd (omega (arith, linear))
    by (suc (suc (suc n))) e = absurd (placed_at t w (suc (suc (suc (suc n)))) (o.edges ∙ ap (λ k. k + 1) e ∙ add-one (suc (suc (suc n)))) h)

-- ---- one step of a walk, along the direction d or not at all
-- the edge ahead is left of d, and the corner behind on or left of it
pub record IsAhead (d : Spot) (w : Walk) : Type 0 where
  pub next : pos 0 <ℤ cross d (edge w)
  pub previous : pos 0 ≤ℤ cross d (way_back w)

-- the walk stays, with its edge left of d, or goes on along an edge that has the direction d
pub data IsTaken (d : Spot) (w v : Walk) : Type 0 where
  stays : v ≡ w → IsAhead d w → IsTaken d w v
  passes : IsOnward w v → cross d (edge w) ≡ pos 0 → pos 0 <ℤ cross d (way_back w) → IsTaken d w v

module _ (t w v : Walk) (d e : Spot) (round : WalksRound t w) (ahead : IsAhead d w) (left : pos 0 <ℤ cross d e) where
  -- with an edge that has the direction e: it falls if e does, and the other way round
  falls_with : cross e (edge w) ≡ pos 0 → cross sweep_line e <ℤ pos 0 → cross sweep_line (edge w) <ℤ pos 0
  falls_with along falls =
      let h : pos 0 <ℤ cross e sweep_line = omega (arith, linear, cross_swapped e sweep_line) in
      omega (arith, linear, left_of_aligned d e (edge w) sweep_line left ahead.next along h, cross_swapped sweep_line (edge w))

  falls_along : cross e (edge w) ≡ pos 0 → cross sweep_line (edge w) <ℤ pos 0 → cross sweep_line e <ℤ pos 0
  falls_along along falls =
      let h : pos 0 <ℤ cross (edge w) sweep_line = omega (arith, linear, cross_swapped (edge w) sweep_line) in
      let same : cross (edge w) e ≡ pos 0 = omega (arith, linear, cross_swapped (edge w) e) in
      omega (arith, linear, left_of_aligned d (edge w) e sweep_line ahead.next left same h, cross_swapped sweep_line e)

  -- a step along an edge is not level
  pub not_level_along : cross e (edge w) ≡ pos 0 → cross sweep_line e ≡ pos 0 → ⊥
  not_level_along along z = by (sign_of (cross sweep_line (edge w)))
    where
      same : cross (edge w) e ≡ pos 0
      same = omega (arith, linear, cross_swapped (edge w) e)

      by : Sign (cross sweep_line (edge w)) → ⊥
      by (is_zero z') = not_level t w d round ahead.next z'
      by (is_negative n) = let f = falls_along along n in omega (arith, linear)
      by (is_positive p) =
          let h : cross (edge w) sweep_line <ℤ pos 0 = omega (arith, linear, cross_swapped (edge w) sweep_line) in
          omega (arith, linear, right_of_aligned d (edge w) e sweep_line ahead.next left same h, cross_swapped sweep_line e)

  -- an edge that rises is not the last one
  pub keeps_rising : IsTaken e w v → 0 < w.edges_left → pos 0 <ℤ cross sweep_line e → 0 < v.edges_left
  keeps_rising (stays same k) more rises = subst (λ u. 0 < u.edges_left) (sym same) more
  keeps_rising (passes o along k) more rises = by v.edges_left refl
    where
      by : (n : ℕ) → v.edges_left ≡ n → 0 < v.edges_left
      by zero z = let falls = falls_along along (falls_last t w round (o.edges ∙ ap (λ k. k + 1) z)) in absurd (omega (arith, linear))
      by (suc n) z = omega arith

  pub begins_falling : IsTaken e w v → pos 0 ≤ℤ cross sweep_line d → cross sweep_line e <ℤ pos 0 → EndsFalling v
  begins_falling (passes o along k) rising falls = falls_on t w v round o (falls_with along falls)
  begins_falling (stays same k) rising falls = subst EndsFalling (sym same) (by (sign_of (cross sweep_line (edge w))))
    where
      by : Sign (cross sweep_line (edge w)) → EndsFalling w
      by (is_negative n) = inr n
      by (is_zero z) = absurd (not_level t w d round ahead.next z)
      by (is_positive p) = let right = rise_before_fall sweep_line d e (edge w) rising p falls ahead.next left in let is_left = k.next in absurd (omega (arith, linear, cross_swapped e (edge w)))

  pub goes_on_falling : IsTaken e w v → EndsFalling w → cross sweep_line e <ℤ pos 0 → EndsFalling v
  goes_on_falling (passes o along k) ends falls = falls_on t w v round o (falls_with along falls)
  goes_on_falling (stays same k) ends falls = subst EndsFalling (sym same) ends

-- the direction that was taken is one that the walk's corners are left of, before and after
pub ahead_after : (t w v : Walk) (e : Spot) → WalksRound t w → IsTaken e w v → IsAhead e v
ahead_after t w v e h (stays same k) = subst (IsAhead e) (sym same) k
ahead_after t w v e h (passes o along k) = subst (IsAhead e) (sym (gone_on w v o)) (record {
  next = omega (arith, linear, cross_way_on e w.at w.next w.previous);
  previous = omega (arith, linear, cross_way_back e w.at w.next);
})

pub left_before : (w v : Walk) (e : Spot) → IsTaken e w v → (pos 0 ≤ℤ cross e (edge w)) × (pos 0 ≤ℤ cross e (way_back w))
left_before w v e (stays same k) = let n = k.next in (omega (arith, linear), k.previous)
left_before w v e (passes o along k) = (omega (arith, linear), omega (arith, linear))

pub round_taken : (t w v : Walk) (e : Spot) → WalksRound t w → IsTaken e w v → WalksRound t v
round_taken t w v e h (stays same k) = subst (WalksRound t) (sym same) h
round_taken t w v e h (passes o along k) = round_onward t w v o h

-- at the start the whole triangle is left of `sweep_line`
pub ahead_at_start : (t : Walk) → IsStart t → IsAhead sweep_line t
ahead_at_start t h =
    let l = placed_at t t 3 h.edges (round_start t h) in
    let p = l.previous in
    record { next = l.next; previous = omega (arith, linear) }
