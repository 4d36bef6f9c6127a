-- The direction of a step of two walks: each goes along with it, or its edge is left of it.
use Rattle.std.proofs.Common.{◌≡◌, inl, inr, pos, ◌<ℤ◌, ◌∙◌, sym, ap, ap₂, subst, [], ◌∷◌, arith}
use Rattle.plan_exact.proofs.Laws.{linear}
use Rattle.plan_exact.proofs.Ring.{ring}
use Rattle.plan_grid.specs.declared.spot.Spot.{Spot}
use Rattle.plan_convex.specs.declared.walk.Walk.{Walk}
use Rattle.plan_grid.specs.Spot.{plus, way, cross}
use Rattle.plan_convex.specs.Walk.{edge, IsOnward, IsStep, first, second, both}
use Rattle.plan_grid.proofs.Spots.{spot_path}
use Rattle.plan_grid.proofs.FormalSpots as S
use Rattle.plan_grid.proofs.FormalSpots.{coordinates, P}
use Rattle.plan_convex.proofs.Crosses.{cross_self, cross_swapped, cross_plus, cross_plus_right, left_of_first, left_of_aligned}
use Rattle.plan_convex.proofs.Walks.{sweep_line, way_back, WalksRound, EndsFalling, IsAhead, IsTaken, stays, passes, not_level_along}
use Rattle.plan_convex.proofs.Merge.{vertex, stride}

-- a step along e, to the left of d: each of the walks goes along with it or not at all
pub record IsAlong (d e : Spot) (a b a' b' : Walk) : Type 0 where
  pub left : pos 0 <ℤ cross d e
  pub first_taken : IsTaken e a a'
  pub second_taken : IsTaken e b b'
  pub tilted : ¬ (cross sweep_line e ≡ pos 0)
  pub falls : EndsFalling a → EndsFalling b → cross sweep_line e <ℤ pos 0

way_of_sums : (p q s t : Spot) → way (plus p s) (plus q t) ≡ plus (way p q) (way s t)
way_of_sums p q s t =
    let xs = coordinates (p ∷ q ∷ s ∷ t ∷ []) in
    let l = S.way (S.plus (P 0) (P 2)) (S.plus (P 1) (P 3)) in
    let r = S.plus (S.way (P 0) (P 1)) (S.way (P 2) (P 3)) in
    spot_path (ring xs l.x r.x tt) (ring xs l.y r.y tt)

stay_first : (p s t : Spot) → way (plus p s) (plus p t) ≡ way s t
stay_first p s t =
    let xs = coordinates (p ∷ s ∷ t ∷ []) in
    let l = S.way (S.plus (P 0) (P 1)) (S.plus (P 0) (P 2)) in
    let r = S.way (P 1) (P 2) in
    spot_path (ring xs l.x r.x tt) (ring xs l.y r.y tt)

stay_second : (p q s : Spot) → way (plus p s) (plus q s) ≡ way p q
stay_second p q s =
    let xs = coordinates (p ∷ q ∷ s ∷ []) in
    let l = S.way (S.plus (P 0) (P 2)) (S.plus (P 1) (P 2)) in
    let r = S.way (P 0) (P 1) in
    spot_path (ring xs l.x r.x tt) (ring xs l.y r.y tt)

-- an edge that is walked where all edges fall
falling_edge : (w v : Walk) → IsOnward w v → EndsFalling w → cross sweep_line (edge w) <ℤ pos 0
falling_edge w v o (inl none) = let e = o.edges in absurd (omega arith)
falling_edge w v o (inr falls) = falls

module _ (s t a b a' b' : Walk) (d : Spot) (ra : WalksRound s a) (rb : WalksRound t b) (ha : IsAhead d a) (hb : IsAhead d b) where
  along_first : pos 0 <ℤ cross (edge a) (edge b) → IsOnward a a' → b' ≡ b → IsAlong d (edge a) a b a' b'
  along_first bend o same =
      let h = left_of_first d (edge a) (edge b) (way_back b) ha.next hb.next hb.previous bend rb.turns in
      record {
        left = ha.next;
        first_taken = passes o (cross_self (edge a)) ra.turns;
        second_taken = stays same (record { next = bend; previous = omega (arith, linear) });
        tilted = not_level_along s a a' d (edge a) ra ha ha.next (cross_self (edge a));
        falls = λ i j. falling_edge a a' o i;
      }

  along_second : cross (edge a) (edge b) <ℤ pos 0 → a' ≡ a → IsOnward b b' → IsAlong d (edge b) a b a' b'
  along_second bend same o =
      let turned : pos 0 <ℤ cross (edge b) (edge a) = omega (arith, linear, cross_swapped (edge b) (edge a)) in
      let h = left_of_first d (edge b) (edge a) (way_back a) hb.next ha.next ha.previous turned ra.turns in
      record {
        left = hb.next;
        first_taken = stays same (record { next = turned; previous = omega (arith, linear) });
        second_taken = passes o (cross_self (edge b)) rb.turns;
        tilted = not_level_along t b b' d (edge b) rb hb hb.next (cross_self (edge b));
        falls = λ i j. falling_edge b b' o j;
      }

  along_both : cross (edge a) (edge b) ≡ pos 0 → IsOnward a a' → IsOnward b b' → IsAlong d (plus (edge a) (edge b)) a b a' b'
  along_both bend o o' =
      let e = edge a in let f = edge b in
      let turned : cross f e ≡ pos 0 = omega (arith, linear, cross_swapped f e) in
      let n = ha.next in let n' = hb.next in let r = ra.turns in let r' = rb.turns in
      let x = left_of_aligned d e f (way_back a) n n' bend r in
      let y = left_of_aligned d f e (way_back b) n' n turned r' in
      let left : pos 0 <ℤ cross d (plus e f) = omega (arith, linear, cross_plus_right e f d) in
      let along_a : cross (plus e f) e ≡ pos 0 = omega (arith, linear, cross_plus e f e, cross_self e) in
      record {
        left = left;
        first_taken = passes o along_a (omega (arith, linear, cross_plus e f (way_back a)));
        second_taken = passes o' (omega (arith, linear, cross_plus e f f, cross_self f)) (omega (arith, linear, cross_plus e f (way_back b)));
        tilted = not_level_along s a a' d (plus e f) ra ha left along_a;
        falls = λ i j. let x = falling_edge a a' o i in let y = falling_edge b b' o' j in omega (arith, linear, cross_plus_right e f sweep_line);
      }

  pub along : IsStep a b a' b' → IsAlong d (stride a b a' b') a b a' b'
  along (first bend o same) =
      let e : stride a b a' b' ≡ edge a = ap (way (vertex a b)) (ap₂ plus o.at (ap (λ w. w.at) same)) ∙ stay_second a.at a.next b.at in
      subst (λ e. IsAlong d e a b a' b') (sym e) (along_first bend o same)
  along (second bend same o) =
      let e : stride a b a' b' ≡ edge b = ap (way (vertex a b)) (ap₂ plus (ap (λ w. w.at) same) o.at) ∙ stay_first a.at b.at b.next in
      subst (λ e. IsAlong d e a b a' b') (sym e) (along_second bend same o)
  along (both bend o o') =
      let e : stride a b a' b' ≡ plus (edge a) (edge b) = ap (way (vertex a b)) (ap₂ plus o.at o'.at) ∙ way_of_sums a.at a.next b.at b.next in
      subst (λ e. IsAlong d e a b a' b') (sym e) (along_both bend o o')
