-- Two walks that are merged by direction: what is known of the vertices so far, which are the sums of the corners. Their sides rise first and then fall.
use Rattle.std.proofs.Common.{◌≡◌, ◌⊎◌, ℤ, pos, ◌+◌, ◌<◌, ◌≤◌, ◌≤ℤ◌, ◌<ℤ◌, refl, sym, subst, List, [], ◌∷◌, length, arith}
use Rattle.std.specs.Prelude.{All, AllPairs}
use Rattle.std.proofs.lemmas.List.Elements.{All-nil}
use Rattle.plan_exact.proofs.Laws.{linear}
use Rattle.plan_exact.proofs.Ring.{ring}
use Rattle.plan_spec.specs.Vector.{Vector, minus}
use Rattle.plan_spec.specs.Polygon.{Inside}
use Rattle.plan_grid.specs.declared.spot.Spot.{Spot}
use Rattle.plan_grid.specs.Spot.{spot_seen, IsWithin, spots_seen, plus, way, cross}
use Rattle.plan_convex.specs.declared.walk.Walk.{Walk}
use Rattle.plan_convex.specs.Walk.{corners, edge, InSum, IsStart}
use Rattle.plan_convex.proofs.Chains.{AllSides, IsSide}
use Rattle.plan_convex.proofs.Corners.{Borders, IsCorner}
use Rattle.plan_grid.proofs.Spots.{spot_path}
use Rattle.plan_grid.proofs.FormalSpots as S
use Rattle.plan_grid.proofs.FormalSpots.{coordinates, P}
use Rattle.plan_convex.proofs.Crosses.{cross_self}
use Rattle.plan_convex.proofs.Sums.{IsSum, borders_sum}
use Rattle.plan_convex.proofs.Triangle.{inside_corner}
use Rattle.plan_convex.proofs.Walks.{sweep_line, way_back, WalksRound, round_start, EndsFalling, IsAhead, ahead_at_start}

-- the sum of the two corners
abbrev pub vertex : Walk → Walk → Spot
vertex a b = plus a.at b.at

-- the way to the next one
abbrev pub stride : Walk → Walk → Walk → Walk → Spot
stride a b a' b' = way (vertex a b) (vertex a' b')

-- the sum of the two triangles
abbrev pub Sum : Walk → Walk → Vector → Type 0
Sum s t = InSum (spots_seen (corners s)) (spots_seen (corners t))

-- how high a spot is, as far as `sweep_line` tells
abbrev pub height : Spot → ℤ
height p = cross sweep_line p

-- a side of S rises from u
pub record Rising (S : Vector → Type 0) (u : Spot) : Type 0 where
  pub upper : Spot
  pub belongs : S (spot_seen upper)
  pub borders : Borders S u (way u upper)
  pub rises : pos 0 <ℤ cross sweep_line (way u upper)

-- u is lower than v, and a side rises from it
abbrev pub IsLower : (Vector → Type 0) → Spot → Spot → Type 0
IsLower S v u = (height u <ℤ height v) × Rising S u

-- u is higher than v, or a side rises from it
abbrev pub IsPassed : (Vector → Type 0) → Spot → Spot → Type 0
IsPassed S v u = (height v <ℤ height u) ⊎ Rising S u

-- the vertices so far are lower than the next one, while the sides rise; after that, they are passed
pub data RisesOrFalls (S : Vector → Type 0) (d : Spot) (a b : Walk) (vs : List Spot) : Type 0 where
  rising : 0 < a.edges_left → 0 < b.edges_left → pos 0 ≤ℤ cross sweep_line d → All (IsLower S (vertex a b)) vs → RisesOrFalls S d a b vs
  falling : EndsFalling a → EndsFalling b → cross sweep_line d <ℤ pos 0 → All (IsPassed S (vertex a b)) vs → RisesOrFalls S d a b vs

-- the first vertex is the sum of the corners from which the walks started
abbrev pub BeginsAt : Spot → List Spot → Type 0
BeginsAt v [] = Unit {0}
BeginsAt v (u ∷ us) = u ≡ v

-- two walks that started as s and t, and the vertices so far
pub record IsMerge (s t a b : Walk) (vs : List Spot) : Type 0 where
  pub direction : Spot
  pub first_round : WalksRound s a
  pub second_round : WalksRound t b
  pub first_ahead : IsAhead direction a
  pub second_ahead : IsAhead direction b
  pub course : RisesOrFalls (Sum s t) direction a b vs
  pub sides : AllSides (IsSide (Sum s t)) vs (vertex a b)
  pub extremes : All (IsCorner (Sum s t)) vs
  pub sums : All (IsSum (corners s) (corners t)) vs
  pub distinct : AllPairs (λ u v. ¬ (u ≡ v)) vs
  pub bounded : All (IsWithin 2046) vs
  pub begins : (vs ≡ [] → vertex a b ≡ vertex s t) × BeginsAt (vertex s t) vs
  pub at_most : length vs + (a.edges_left + b.edges_left) ≤ 6
  pub at_least : 3 ≤ length vs + a.edges_left

-- ---- what a pair of walks has
pub sum_of : (s t a b : Walk) → WalksRound s a → WalksRound t b → IsSum (corners s) (corners t) (vertex a b)
sum_of s t a b ra rb =
    let rest : way a.at (vertex a b) ≡ b.at = spot_path (ring (coordinates (a.at ∷ b.at ∷ [])) (S.way (P 0) (S.plus (P 0) (P 1))).x (P 1).x tt) (ring (coordinates (a.at ∷ b.at ∷ [])) (S.way (P 0) (S.plus (P 0) (P 1))).y (P 1).y tt) in
    record {
      part = a.at;
      first = ra.back (spot_seen a.at) (inside_corner a.at a.next a.previous ra.turns);
      second = subst (λ y. Inside (spots_seen (corners t)) (spot_seen y)) (sym rest) (rb.back (spot_seen b.at) (inside_corner b.at b.next b.previous rb.turns));
    }

-- a direction that both triangles are left of, as seen from the corners
pub borders_at : (s t a b : Walk) (d : Spot) → WalksRound s a → WalksRound t b → (pos 0 ≤ℤ cross d (edge a)) × (pos 0 ≤ℤ cross d (way_back a)) → (pos 0 ≤ℤ cross d (edge b)) × (pos 0 ≤ℤ cross d (way_back b)) → Borders (Sum s t) (vertex a b) d
borders_at s t a b d ra rb ha hb x is_point i =
    borders_sum a.at a.next a.previous b.at b.next b.previous d ra.turns rb.turns ha.0 ha.1 hb.0 hb.1 x is_point (i.0, i.1, ra.same i.0 i.2, rb.same (minus x i.0) i.3)

pub weakly : (d : Spot) (w : Walk) → IsAhead d w → (pos 0 ≤ℤ cross d (edge w)) × (pos 0 ≤ℤ cross d (way_back w))
weakly d w h = let n = h.next in (omega (arith, linear), h.previous)

-- ---- at the start
pub merge_start : (s t : Walk) → IsStart s → IsStart t → IsMerge s t s t []
merge_start s t hs ht =
    let ks = hs.edges in let kt = ht.edges in
    record {
      direction = sweep_line;
      first_round = round_start s hs;
      second_round = round_start t ht;
      first_ahead = ahead_at_start s hs;
      second_ahead = ahead_at_start t ht;
      course = rising (omega arith) (omega arith) (omega (arith, linear, cross_self sweep_line)) (All-nil (IsLower (Sum s t) (vertex s t)));
      sides = tt;
      extremes = All-nil (IsCorner (Sum s t));
      sums = All-nil (IsSum (corners s) (corners t));
      distinct = λ i j d lt within. absurd (omega arith);
      bounded = All-nil (IsWithin 2046);
      begins = (λ e. refl, tt);
      at_most = omega arith;
      at_least = omega arith;
    }
