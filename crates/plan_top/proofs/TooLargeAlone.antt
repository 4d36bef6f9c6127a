-- The floor of a demonstration is refused for its size alone: its robot is a square, its obstacles are rectangles, their ids rise, and there are 40.
use Rattle.std.proofs.Common.{◌≡◌, ⊎_elim, ℕ, zero, suc, ◌+◌, ◌*◌, ◌<◌, ◌≤◌, true, false, List, [], ◌∷◌, ◌++◌, Any, length, map, length-append, refl, sym, ap, subst, ◌∙◌, arith}
use Rattle.std.specs.List.{filter, sum_by}
use Rattle.std.proofs.lemmas.Bool.Decides.{nat_tests}
use Rattle.std.proofs.lemmas.List.{length-map}
use Rattle.std.proofs.lemmas.List.Sums.{sum-map, sum_by-append, sum_by-cons}
use Rattle.plan_spec.specs.SimplePolygon.{IsFirstWrongPair}
use Rattle.plan_plane.proofs.Lists.{any_none, any_cases}
use Rattle.plan_grid.specs.declared.spot.Spot.{Spot}
use Rattle.plan_grid.specs.Spot.{spot_seen, spots_seen}
use Rattle.plan_demo.specs.Demo.{floor, rectangle, obstacles, robot}
use Rattle.plan_demo.specs.Draws.{after}
use Rattle.plan_demo.proofs.Rectangles.{drawn_is_simple, four_drawn, robot_is_simple}
use Rattle.plan_scene.specs.Scene.{Scene, Obstacle, obstacle, obstacle_seen, scene_seen, with_obstacle, with_obstacles, is_lesser, is_greater, pairs}
use Rattle.plan_scene.specs.Edits.{IsAdded, IsNotAdded}
use Rattle.plan_scene.specs.declared.fault.EditFault.{EditFault}
use Rattle.plan_scene.specs.declared.fault.EditFault.TheVariants.{Duplicate, Unknown, NotSimple, TooManyObstacles, TooManySums, NoMemory}
use Rattle.plan_scene.proofs.Read.{same_count}
use Rattle.plan_reply.specs.First.{IsRefusedAt}
use Rattle.plan_reply.specs.Step.{IsCause}
use Rattle.plan_top.specs.First.{IsRefusedBy}
use Rattle.plan_top.specs.declared.status.Refusal.{Refusal}
use Rattle.plan_top.specs.declared.status.Refusal.TheVariants.{TooLong, Json, Form, Range, RobotNotSimple, Obstacle as ObstacleAt, TooManyRegions}

-- ---- obstacles of lesser ids
abbrev Below : ℕ → List Obstacle → Type 0
Below n [] = Unit {0}
Below n (o ∷ os) = (o.id ≤ n) × Below n os

below_more : (n : ℕ) (os : List Obstacle) (o : Obstacle) → Below n os → o.id ≡ suc n → Below (suc n) (os ++ o ∷ [])
below_more n [] o h e = (omega arith, tt)
below_more n (p ∷ os) o h e = (let low = h.0 in omega arith, below_more n os o h.1 e)

none_there : (n id : ℕ) (os : List Obstacle) → Below n os → n < id → ¬ (Any (λ o. o.id ≡ id) os)
none_there n id [] h less there = any_none (λ (o : Obstacle). o.id ≡ id) there
none_there n id (o ∷ os) h less there = ⊎_elim (λ e. let low = h.0 in omega arith) (λ a. none_there n id os h.1 less a) (any_cases (λ (o : Obstacle). o.id ≡ id) o os there)

all_lesser : (n : ℕ) (os : List Obstacle) → Below n os → filter (is_lesser (suc n)) os ≡ os
all_lesser n [] h = refl
all_lesser n (o ∷ os) h =
    let low = h.0 in
    let less : is_lesser (suc n) o ≡ true = grind (arith, nat_tests) in
    rw less (ap (λ l. o ∷ l) (all_lesser n os h.1))

none_greater : (n : ℕ) (os : List Obstacle) → Below n os → filter (is_greater (suc n)) os ≡ []
none_greater n [] h = refl
none_greater n (o ∷ os) h =
    let low = h.0 in
    let more : is_greater (suc n) o ≡ false = grind (arith, nat_tests) in
    rw more (none_greater n os h.1)

put_last : (n : ℕ) (o : Obstacle) (os : List Obstacle) → Below n os → o.id ≡ suc n → with_obstacle o os ≡ os ++ o ∷ []
put_last n o os h e = rw (e, all_lesser n os h, none_greater n os h) refl

-- ---- n obstacles are put in
record Put (n : ℕ) (s : Scene) : Type 0 where
  robot : length s.robot ≡ 4
  below : Below n s.obstacles
  few : length s.obstacles ≡ n
  sums : sum_by (λ o. pairs s.robot o.spots) s.obstacles ≡ 4 * n

four_pairs : (robot spots : List Spot) → length robot ≡ 4 → length spots ≡ 4 → pairs robot spots ≡ 4
four_pairs robot spots e f = rw (e, f) refl

put_more : (n : ℕ) (s t : Scene) (o : Obstacle) → length o.spots ≡ 4 → o.id ≡ suc n → Put n s → IsAdded s o.id o.spots t → Put (suc n) t
put_more n s t o four id put (_, _, _, kept, read, e) = subst (Put (suc n)) (sym (e ∙ ap (with_obstacles s) (put_last n last s.obstacles put.below id))) (record {
  robot = put.robot;
  below = below_more n s.obstacles last put.below id;
  few = let few = put.few in let longer = length-append s.obstacles (last ∷ []) in omega arith;
  sums =
      let before = put.sums in
      let here = four_pairs s.robot kept put.robot (same_count o.spots kept read ∙ four) in
      let one = sum_by-cons (λ (o : Obstacle). pairs s.robot o.spots) last [] in
      sum_by-append (λ (o : Obstacle). pairs s.robot o.spots) s.obstacles (last ∷ []) ∙ omega arith;
})
  where
    last : Obstacle
    last = obstacle o.id kept

-- ---- the next is not refused
module _ (n σ : ℕ) (o : Obstacle) (s : Scene) (seen : obstacle_seen o ≡ record { id = suc n; shape = rectangle σ }) (put : Put n s) (less : n < 64) where
  its_id : o.id ≡ suc n
  its_id = λ i. (seen i).id

  its_shape : spots_seen o.spots ≡ rectangle σ
  its_shape = λ i. (seen i).shape

  its_length : length o.spots ≡ 4
  its_length = sym (length-map o.spots spot_seen) ∙ ap length its_shape ∙ four_drawn σ

  not_refused : (f : EditFault) → IsNotAdded s o.id o.spots f → ¬ (IsCause f)
  not_refused (Duplicate m) h c = let id = its_id in none_there n o.id s.obstacles put.below (omega arith) h.1
  not_refused (NotSimple i j) h c = let w = subst (λ vs. IsFirstWrongPair vs i j) its_shape h.1 in drawn_is_simple σ i j w.ordered w.within w.wrong
  not_refused TooManyObstacles h c = let few = put.few in let all = h.2 in omega arith
  not_refused (TooManySums m) h c =
      let before = put.sums in
      let here = four_pairs s.robot o.spots put.robot its_length in
      let all = h.3 in
      let many = h.4 in
      let sum = sum-map (λ (o : Obstacle). pairs s.robot o.spots) s.obstacles in
      omega arith
  not_refused NoMemory h c = c
  not_refused (Unknown m) h c = h

-- ---- none of them is
none_refused : (m n σ : ℕ) (os : List Obstacle) (s : Scene) → map obstacle_seen os ≡ obstacles m (suc n) σ → Put n s → m + n ≤ 64 → (k : ℕ) (f : EditFault) → ¬ (IsRefusedAt k f os s)
none_refused m n σ [] s e put few k f h = h
none_refused zero n σ (o ∷ os) s e put few k f h = absurd cc
none_refused (suc m) n σ (o ∷ os) s e put few zero f h = not_refused n σ o s (cc e) put (omega arith) f h.0 h.1
none_refused (suc m) n σ (o ∷ os) s e put few (suc k) f (next, added, h) =
    let seen : obstacle_seen o ≡ record { id = suc n; shape = rectangle σ } = cc e in
    none_refused m (suc n) (after 4 σ) os next (cc e) (put_more n s next o (its_length n σ o s seen put (omega arith)) (its_id n σ o s seen put (omega arith)) put added) (omega arith) k f h

-- ---- of a number
module _ (number : ℕ) (given : Scene) (is_given : scene_seen given ≡ floor number) where
  given_robot : spots_seen given.robot ≡ robot
  unfolding floor
  given_robot = λ i. (is_given i).robot

  given_obstacles : map obstacle_seen given.obstacles ≡ obstacles 40 1 number
  unfolding floor
  given_obstacles = λ i. (is_given i).obstacles

  pub too_large_alone : (r : Refusal) → IsRefusedBy given r → r ≡ TooManyRegions
  too_large_alone TooManyRegions h = refl
  too_large_alone (RobotNotSimple i j) h = let w = subst (λ vs. IsFirstWrongPair vs i j) given_robot h in absurd (robot_is_simple i j w.ordered w.within w.wrong)
  too_large_alone (ObstacleAt k f) (alone, is_alone, h) =
      let long : length is_alone.kept ≡ 4 = same_count given.robot is_alone.kept is_alone.is_read ∙ sym (length-map given.robot spot_seen) ∙ ap length given_robot in
      absurd (none_refused 40 0 number given.obstacles alone given_obstacles (subst (Put 0) (sym is_alone.is_scene) (record { robot = long; below = tt; few = refl; sums = refl })) (omega arith) k f h)
  too_large_alone TooLong h = absurd h
  too_large_alone Json h = absurd h
  too_large_alone (Form p) h = absurd h
  too_large_alone (Range p) h = absurd h
