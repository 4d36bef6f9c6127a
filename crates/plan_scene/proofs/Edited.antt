-- A scene with one obstacle more, or with one less, is a scene: its obstacles are by rising id, and within the limits.
use Rattle.std.proofs.Common.{◌≡◌, ℕ, ◌+◌, ◌<◌, ◌≤◌, true, List, ◌∷◌, ◌++◌, length, map, get_or, All, length-append, arith}
use Rattle.std.specs.List.{filter, sum}
use Rattle.std.proofs.lemmas.List.Elements.{All-cons, All-append, All-filter, All-weaker, filter_passes}
use Rattle.std.proofs.lemmas.List.Kept.{AllPairs-cons, AllPairs-filter}
use Rattle.std.proofs.lemmas.List.Sums.{sum-map, sum_by-append}
use Rattle.plan_grid.specs.declared.spot.Spot.{Spot}
use Rattle.plan_poly.specs.Polygon.{IsPolygon}
use Rattle.plan_scene.specs.Scene.{Obstacle, Scene, obstacle, with_obstacle, without, with_obstacles, is_lesser, is_greater, pairs, IsScene}
use Rattle.plan_scene.specs.Edits.{IsId, sums_with}
use Rattle.plan_scene.proofs.Filtered.{less_from, sum_more, parted_length, parted_sum}
use Rattle.plan_scene.proofs.Pairs.{pairs_joined}

pub lesser_than : (id : ℕ) (os : List Obstacle) → All (λ o. o.id < id) (filter (is_lesser id) os)
lesser_than id os = All-weaker (λ o. is_lesser id o ≡ true) (λ o. o.id < id) (λ o e. less_from o.id id e) (filter (is_lesser id) os) (filter_passes (is_lesser id) os)

pub greater_than : (id : ℕ) (os : List Obstacle) → All (λ o. id < o.id) (filter (is_greater id) os)
greater_than id os = All-weaker (λ o. is_greater id o ≡ true) (λ o. id < o.id) (λ o e. less_from id o.id e) (filter (is_greater id) os) (filter_passes (is_greater id) os)

sum_joined : (f : Obstacle → ℕ) (xs ys : List Obstacle) → sum (map f (xs ++ ys)) ≡ sum (map f xs) + sum (map f ys)
sum_joined f xs ys = omega (arith, sum-map f (xs ++ ys), sum_by-append f xs ys, sum-map f xs, sum-map f ys)

module _ (s : Scene) (id : ℕ) (h : IsScene s) where
  abbrev low : List Obstacle
  low = filter (is_lesser id) s.obstacles

  abbrev high : List Obstacle
  high = filter (is_greater id) s.obstacles

  across : (k : ℕ) (d : Obstacle) → k < length low → All (λ y. (get_or low k d).id < y.id) high
  across k d within j e below = let a = lesser_than id s.obstacles k d within in let b = greater_than id s.obstacles j e below in omega arith

  pub without_is_scene : IsScene (with_obstacles s (without id s.obstacles))
  without_is_scene = record {
    frame = h.frame;
    robot = h.robot;
    robot_few = h.robot_few;
    polygons = All-append (λ o. IsPolygon o.spots) low high (All-filter (is_lesser id) (λ o. IsPolygon o.spots) s.obstacles h.polygons) (All-filter (is_greater id) (λ o. IsPolygon o.spots) s.obstacles h.polygons);
    ids = All-append (λ o. IsId o.id) low high (All-filter (is_lesser id) (λ o. IsId o.id) s.obstacles h.ids) (All-filter (is_greater id) (λ o. IsId o.id) s.obstacles h.ids);
    rising = pairs_joined (λ o p. o.id < p.id) low high (AllPairs-filter (λ o p. o.id < p.id) (is_lesser id) s.obstacles h.rising) (AllPairs-filter (λ o p. o.id < p.id) (is_greater id) s.obstacles h.rising) across;
    few = omega (arith, length-append low high, parted_length id s.obstacles, h.few);
    few_sums = omega (arith, sum_joined (λ o. pairs s.robot o.spots) low high, parted_sum (λ o. pairs s.robot o.spots) id s.obstacles, h.few_sums);
  }

  pub with_is_scene : (spots : List Spot) → IsId id → IsPolygon spots → length s.obstacles < 64 → sums_with s spots ≤ 512 → IsScene (with_obstacles s (with_obstacle (obstacle id spots) s.obstacles))
  with_is_scene spots is_id polygon few few_sums =
      let o = obstacle id spots in record {
        frame = h.frame;
        robot = h.robot;
        robot_few = h.robot_few;
        polygons = All-append (λ o. IsPolygon o.spots) low (o ∷ high) (All-filter (is_lesser id) (λ o. IsPolygon o.spots) s.obstacles h.polygons) (All-cons (λ o. IsPolygon o.spots) o high polygon (All-filter (is_greater id) (λ o. IsPolygon o.spots) s.obstacles h.polygons));
        ids = All-append (λ o. IsId o.id) low (o ∷ high) (All-filter (is_lesser id) (λ o. IsId o.id) s.obstacles h.ids) (All-cons (λ o. IsId o.id) o high is_id (All-filter (is_greater id) (λ o. IsId o.id) s.obstacles h.ids));
        rising = pairs_joined (λ o p. o.id < p.id) low (o ∷ high) (AllPairs-filter (λ o p. o.id < p.id) (is_lesser id) s.obstacles h.rising)
            (AllPairs-cons (λ o p. o.id < p.id) o high (greater_than id s.obstacles) (AllPairs-filter (λ o p. o.id < p.id) (is_greater id) s.obstacles h.rising))
            (λ k d within. All-cons (λ y. (get_or low k d).id < y.id) o high (lesser_than id s.obstacles k d within) (across k d within));
        few = omega (arith, length-append low (o ∷ high), parted_length id s.obstacles, few);
        few_sums = omega (arith, sum_joined (λ o. pairs s.robot o.spots) low (o ∷ high), sum_more (λ o. pairs s.robot o.spots) o high, parted_sum (λ o. pairs s.robot o.spots) id s.obstacles, few_sums);
      }
