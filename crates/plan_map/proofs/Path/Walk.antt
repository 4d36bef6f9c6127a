-- The path along a walk is clear: each of its legs is in one region, or in a wall and a cell beside it.
use Rattle.std.proofs.Common.{◌≡◌, ◌⊎◌, inl, inr, ℕ, ◌<◌, true, List, [], ◌∷◌, ◌++◌, length, map, All, refl, sym, ◌∙◌, subst}
use Rattle.std.proofs.lemmas.Bool.{and_parts, or_cases, ltb-true}
use Rattle.std.proofs.lemmas.List.Elements.{All-nil, All-cons}
use Rattle.plan_spec.specs.Vector.{Vector, IsPoint, Same}
use Rattle.plan_spec.specs.Segment.{segment}
use Rattle.plan_spec.specs.Frame.{Frame}
use Rattle.plan_spec.specs.Boundary.{IsClearOf}
use Rattle.plan_spec.specs.Placement.{Scene, IsClear}
use Rattle.plan_spec.specs.Route.{segments_from, EndsAt, IsClearPolyline}
use Rattle.plan_spec.specs.Slabs.{Slabs}
use Rattle.plan_spec.specs.Regions.{Lot, Holds, spot_of, region_at}
use Rattle.plan_spec.specs.Neighbours.{beside, AreNeighbours}
use Rattle.plan_spec.specs.Walks.{Leads, IsWalk}
use Rattle.plan_spec.specs.Paths.{path_along}
use Rattle.plan_plane.proofs.Segment.Between.{between_same, swapped}
use Rattle.plan_slab.specs.Decomposition.{IsDecomposition, IsFloorOf}
use Rattle.plan_slab.proofs.Decomposition.{not_touched}
use Rattle.plan_map.proofs.Path.Regions.{convex_lot, between_lots}
use Rattle.plan_map.proofs.Path.Repeats.{Safe, clear_polyline}

module _ {sums : List (List Vector)} {room : Frame} {σ : Slabs} {found : List Lot} (d : IsDecomposition sums room σ found) where
  abbrev P : Vector → Type 0
  P z = IsClearOf sums room z

  -- in one region
  straight : (n : ℕ) (p q : Vector) → n < length found → Holds σ (region_at found n) p → Holds σ (region_at found n) q → Safe P (segment p q)
  straight n p q hn ip iq z hz b = d.clear n z hn hz (convex_lot σ (region_at found n) hz ip iq b)

  -- from a region to a neighbour
  beside_safe : (m n : ℕ) (p q : Vector) → m < length found → n < length found → beside σ (region_at found m) (region_at found n) ≡ true → IsPoint p → IsPoint q → Holds σ (region_at found m) p → Holds σ (region_at found n) q → Safe P (segment p q)
  beside_safe m n p q hm hn e hp hq ip iq z hz b = by (between_lots d.placed (region_at found m) (region_at found n) (λ k j. d.once.walls m k j hm) (λ k i. d.once.cells n k i hn) e hp hq hz ip iq b)
    where
      by : Holds σ (region_at found m) z ⊎ Holds σ (region_at found n) z → IsClearOf sums room z
      by (inl h) = d.clear m z hm hz h
      by (inr h) = d.clear n z hn hz h

  see : (m n : ℕ) (p q : Vector) → AreNeighbours σ found m n → IsPoint p → IsPoint q → Holds σ (region_at found m) p → Holds σ (region_at found n) q → Safe P (segment p q)
  see m n p q step hp hq ip iq =
      let u = and_parts _ _ step in
      let v = and_parts _ _ u.1 in
      let hm = ltb-true m (length found) u.0 in
      let hn = ltb-true n (length found) v.0 in
      elim (or_cases (beside σ (region_at found m) (region_at found n)) (beside σ (region_at found n) (region_at found m)) v.1) [
        | inl e ↦ beside_safe m n p q hm hn e hp hq ip iq
        | inr e ↦ λ z hz b. beside_safe n m q p hn hm e hq hp iq ip z hz (swapped b)
      ]

  pub step_within : (m n : ℕ) → AreNeighbours σ found m n → n < length found
  step_within m n step = ltb-true n (length found) (and_parts _ _ (and_parts _ _ step).1).0

  abbrev spot : ℕ → Vector
  spot n = spot_of σ (region_at found n)

  -- ---- along a walk to the region of g
  module _ (g : Vector) (to : ℕ) (hg : IsPoint g) (ig : Holds σ (region_at found to) g) where
    legs_safe : (n : ℕ) (ns : List ℕ) (p : Vector) → n < length found → IsPoint p → Holds σ (region_at found n) p → Leads (AreNeighbours σ found) to n ns → All (Safe P) (segments_from p (map spot ns ++ g ∷ []))
    legs_safe n [] p hn hp ip e = All-cons (Safe P) (segment p g) [] (straight n p g hn ip (subst (λ n. Holds σ (region_at found n) g) (sym e) ig)) (All-nil (Safe P))
    legs_safe n (m ∷ ms) p hn hp ip (step, rest) =
        let hm = step_within n m step in
        let (ps, is) = d.spots m hm in
        All-cons (Safe P) (segment p (spot m)) (segments_from (spot m) (map spot ms ++ g ∷ [])) (see n m p (spot m) step hp ps ip is) (legs_safe m ms (spot m) hm ps is rest)

    points : (n : ℕ) (ns : List ℕ) → Leads (AreNeighbours σ found) to n ns → All IsPoint (map spot ns ++ g ∷ [])
    points n [] e = All-cons IsPoint g [] hg (All-nil IsPoint)
    points n (m ∷ ms) (step, rest) = All-cons IsPoint (spot m) (map spot ms ++ g ∷ []) (d.spots m (step_within n m step)).0 (points m ms rest)

  ends_at : (g p : Vector) (ns : List ℕ) → EndsAt g (p ∷ (map spot ns ++ g ∷ []))
  ends_at g p [] = (refl, refl)
  ends_at g p (n ∷ ns) = ends_at g (spot n) ns

-- ---- the law
pub path_clear : (scene : Scene) {sums : List (List Vector)} {room : Frame} {σ : Slabs} {found : List Lot} → IsFloorOf scene sums room → IsDecomposition sums room σ found
    → (from to : ℕ) (s g : Vector) (walk : List ℕ) → from < length found → IsPoint s → IsPoint g → Holds σ (region_at found from) s → Holds σ (region_at found to) g → IsWalk (AreNeighbours σ found) from to walk → IsClearPolyline scene s g (path_along σ found s g walk)
path_clear scene {sums} {room} {σ} {found} floor d from to s g walk hf hs hg is ig w = by walk w
  where
    clear : (z : Vector) → IsPoint z → IsClearOf sums room z → IsClear scene z
    clear z hz c touches = not_touched sums room z c ((floor.touches z hz).0 touches)

    at_start : (z : Vector) → IsPoint z → Same s z → IsClear scene z
    at_start z hz e = clear z hz (d.clear from z hf hz (convex_lot σ (region_at found from) hz is is (between_same s s z hs hz e)))

    all_clear : (qs : List Vector) → All (Safe (IsClearOf sums room)) (segments_from s qs) → All (Safe (IsClear scene)) (segments_from s qs)
    all_clear qs safe k l within z hz b = clear z hz (safe k l within z hz b)

    by : (walk : List ℕ) → IsWalk (AreNeighbours σ found) from to walk → IsClearPolyline scene s g (path_along σ found s g walk)
    by [] w = absurd w
    by (n ∷ []) (e, f) =
        clear_polyline scene s g (g ∷ []) hs (All-cons IsPoint g [] hg (All-nil IsPoint)) at_start (refl, refl)
        (all_clear (g ∷ []) (All-cons (Safe (IsClearOf sums room)) (segment s g) [] (straight d from s g hf is (subst (λ n. Holds σ (region_at found n) g) (sym f ∙ e) ig)) (All-nil (Safe (IsClearOf sums room)))))
    by (n ∷ (m ∷ ms)) (e, leads) =
        let hn : n < length found = subst (λ n. n < length found) (sym e) hf in
        let (hp, ip) = d.spots n hn in
        let v = spot_of σ (region_at found n) in
        let later = map (λ n. spot_of σ (region_at found n)) (m ∷ ms) ++ g ∷ [] in
        clear_polyline scene s g (v ∷ later) hs (All-cons IsPoint v later hp (points d g to hg ig n (m ∷ ms) leads)) at_start (ends_at d g v (m ∷ ms))
        (all_clear (v ∷ later) (All-cons (Safe (IsClearOf sums room)) (segment s v) (segments_from v later) (straight d n s v hn (subst (λ n. Holds σ (region_at found n) s) (sym e) is) ip) (legs_safe d g to hg ig n (m ∷ ms) v hn hp ip leads)))
