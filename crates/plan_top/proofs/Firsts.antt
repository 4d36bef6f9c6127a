-- The first scene touches what the scene as it is given does: robot and obstacles are kept as they were read, with the same points, and each obstacle that is put in is one more.
use Rattle.std.proofs.Common.{◌≡◌, ◌↔◌, ◌⊎◌, inl, inr, ⊎_elim, ℕ, Bool, true, List, [], ◌∷◌, Any, ◌<◌, ◌≤◌, length, get_or, sym, subst, ◌∙◌, arith}
use Rattle.std.specs.List.{filter}
use Rattle.std.proofs.lemmas.Bool.{cases_lt}
use Rattle.std.proofs.lemmas.List.{get_or_default}
use Rattle.std.proofs.lemmas.Bool.Decides.{nat_tests}
use Rattle.plan_spec.specs.Vector.{Vector, minus}
use Rattle.plan_spec.specs.Placement as placement
use Rattle.plan_spec.specs.Placement.{Meets, Leaves, Touches, IsTouched}
use Rattle.plan_plane.proofs.Lists.{any_none, any_here, any_there, any_cases, any_weaker, any_map, any_to_map, any_left, any_right, any_joined, any_filter, any_unfilter, any_with}
use Rattle.plan_grid.specs.declared.spot.Spot.{Spot}
use Rattle.plan_grid.specs.Frame.{frame_seen}
use Rattle.plan_grid.specs.Spot.{spots_seen}
use Rattle.plan_poly.specs.Polygon.{IsRead}
use Rattle.plan_scene.specs.Scene.{Scene, Obstacle, obstacle, obstacle_seen, scene_seen, with_obstacle, is_lesser, is_greater}
use Rattle.plan_scene.specs.Edits.{IsAdded}
use Rattle.plan_reply.specs.First.{IsWhole, IsAddedAll}

-- ---- one more obstacle
put_in : (P : Obstacle → Type 0) (o : Obstacle) (os : List Obstacle) → ¬ (Any (λ q. q.id ≡ o.id) os) → (P o ⊎ Any P os) ↔ Any P (with_obstacle o os)
put_in P o os new = (into, out)
  where
    into : P o ⊎ Any P os → Any P (with_obstacle o os)
    into (inl h) = any_right P (filter (is_lesser o.id) os) (o ∷ filter (is_greater o.id) os) (any_here P o (filter (is_greater o.id) os) h)
    into (inr (k, q, within, e, h)) = elim (cases_lt q.id o.id) [
      | inl lt ↦ any_left P (filter (is_lesser o.id) os) (o ∷ filter (is_greater o.id) os) (any_filter P (is_lesser o.id) os (k, q, within, e, (grind (arith, nat_tests), h)))
      | inr ge ↦ elim (cases_lt o.id q.id) [
        | inl gt ↦ any_right P (filter (is_lesser o.id) os) (o ∷ filter (is_greater o.id) os) (any_there P o (filter (is_greater o.id) os) (any_filter P (is_greater o.id) os (k, q, within, e, (grind (arith, nat_tests), h))))
        | inr le ↦ absurd (new (k, q, within, e, omega arith))
      ]
    ]

    unfiltered : (test : Obstacle → Bool) → Any P (filter test os) → Any P os
    unfiltered test a = any_weaker (λ x. (test x ≡ true) × P x) P (λ x h. h.1) os (any_unfilter P test os a)

    out : Any P (with_obstacle o os) → P o ⊎ Any P os
    out h =
        ⊎_elim (λ a. inr (unfiltered (is_lesser o.id) a))
        (λ b. ⊎_elim inl (λ c. inr (unfiltered (is_greater o.id) c)) (any_cases P o (filter (is_greater o.id) os) b))
        (any_joined P (filter (is_lesser o.id) os) (o ∷ filter (is_greater o.id) os) h)

-- ---- obstacles that the robot meets, whose ids are some of Q
module _ (Q : ℕ → Type 0) (p : Vector) where
  abbrev Met : List Spot → Obstacle → Type 0
  Met robot o = Q o.id × Meets (spots_seen robot) (spots_seen o.spots) p

  other_robot : (given kept : List Spot) → IsRead given kept → (o : Obstacle) → Met given o ↔ Met kept o
  other_robot given kept r o = (λ (q, (z, hz, i, j)). (q, (z, hz, i, (r.same_points (minus z p)).0 j)), λ (q, (z, hz, i, j)). (q, (z, hz, i, (r.same_points (minus z p)).1 j)))

  other_shape : (robot : List Spot) (id : ℕ) (given kept : List Spot) → IsRead given kept → Met robot (obstacle id given) ↔ Met robot (obstacle id kept)
  other_shape robot id given kept r = (λ (q, (z, hz, i, j)). (q, (z, hz, (r.same_points z).0 i, j)), λ (q, (z, hz, i, j)). (q, (z, hz, (r.same_points z).1 i, j)))

  step : (s t : Scene) (o : Obstacle) → IsAdded s o.id o.spots t → Any (Met t.robot) t.obstacles ↔ (Any (Met s.robot) s.obstacles ⊎ Met s.robot o)
  step s t o (new, few, sums, kept, read, e) =
      let q = put_in (Met s.robot) (obstacle o.id kept) s.obstacles new in
      let shape = other_shape s.robot o.id o.spots kept read in
      subst (λ t. Any (Met t.robot) t.obstacles ↔ (Any (Met s.robot) s.obstacles ⊎ Met s.robot o)) (sym e) (λ m. ⊎_elim (λ h. inr (shape.1 h)) inl (q.1 m), ⊎_elim (λ a. q.0 (inr a)) (λ h. q.0 (inl (shape.0 h))))

  same_robot : (s t : Scene) (o : Obstacle) → IsAdded s o.id o.spots t → t.robot ≡ s.robot
  same_robot s t o (new, few, sums, kept, read, e) = λ i. (e i).robot

  after : (os : List Obstacle) (s t : Scene) → IsAddedAll os s t → Any (Met t.robot) t.obstacles ↔ (Any (Met s.robot) s.obstacles ⊎ Any (Met s.robot) os)
  after [] s t h = subst (λ t. Any (Met t.robot) t.obstacles ↔ (Any (Met s.robot) s.obstacles ⊎ Any (Met s.robot) [])) (sym h) (inl, ⊎_elim (λ x. x) (λ a. absurd (any_none (Met s.robot) a)))
  after (o ∷ os) s t (next, one, rest) =
      let k = step s next o one in
      let robot = same_robot s next o one in
      let r = subst (λ r. Any (Met t.robot) t.obstacles ↔ (Any (Met next.robot) next.obstacles ⊎ Any (Met r) os)) robot (after os next t rest) in (
        λ h. ⊎_elim (λ n. ⊎_elim inl (λ m. inr (any_here (Met s.robot) o os m)) (k.0 n)) (λ a. inr (any_there (Met s.robot) o os a)) (r.0 h),
        ⊎_elim (λ h. r.1 (inl (k.1 (inl h)))) (λ a. ⊎_elim (λ m. r.1 (inl (k.1 (inr m)))) (λ b. r.1 (inr b)) (any_cases (Met s.robot) o os a)),
      )

  met_alike : (given first : Scene) → IsWhole given first → Any (Met given.robot) given.obstacles ↔ Any (Met first.robot) first.obstacles
  met_alike given first (alone, is_alone, all) = (
    λ m. a.1 (inr (any_weaker (Met given.robot) (Met alone.robot) (λ o. (other o).0) given.obstacles m)),
    λ m. ⊎_elim (λ h. absurd (no_start h)) (λ n. any_weaker (Met alone.robot) (Met given.robot) (λ o. (other o).1) given.obstacles n) (a.0 m),
  )
    where
      a : Any (Met first.robot) first.obstacles ↔ (Any (Met alone.robot) alone.obstacles ⊎ Any (Met alone.robot) given.obstacles)
      a = after given.obstacles alone first all

      no_start : ¬ (Any (Met alone.robot) alone.obstacles)
      no_start = subst (λ s. ¬ (Any (Met s.robot) s.obstacles)) (sym is_alone.is_scene) (λ m. any_none (Met is_alone.kept) m)

      other : (o : Obstacle) → Met given.robot o ↔ Met alone.robot o
      other o = subst (λ r. Met given.robot o ↔ Met r o) (sym (λ i. (is_alone.is_scene i).robot)) (other_robot given.robot is_alone.kept is_alone.is_read o)

  -- the same, of what is seen
  abbrev pub AnyMet : Scene → Type 0
  AnyMet s = Any (λ o. Q o.id × Meets (spots_seen s.robot) o.shape p) (scene_seen s).obstacles

  pub seen_alike : (given first : Scene) → IsWhole given first → AnyMet given ↔ AnyMet first
  seen_alike given first whole =
      let m = met_alike given first whole in
      let P = λ (s : Scene) (o : placement.Obstacle). Q o.id × Meets (spots_seen s.robot) o.shape p in (
        λ h. any_to_map (P first) obstacle_seen first.obstacles (m.0 (any_map (P given) obstacle_seen given.obstacles h)),
        λ h. any_to_map (P given) obstacle_seen given.obstacles (m.1 (any_map (P first) obstacle_seen first.obstacles h)),
      )

-- ---- the frame
same_room : (os : List Obstacle) (s t : Scene) → IsAddedAll os s t → (t.robot ≡ s.robot) × (t.frame ≡ s.frame)
same_room [] s t h = (λ i. (h i).robot, λ i. (h i).frame)
same_room (o ∷ os) s t (next, (_, _, _, _, _, e), rest) = let r = same_room os next t rest in (r.0 ∙ (λ i. (e i).robot), r.1 ∙ (λ i. (e i).frame))

module _ (p : Vector) (given first : Scene) where
  leaves_alike : IsWhole given first → Leaves (spots_seen given.robot) (frame_seen given.frame) p ↔ Leaves (spots_seen first.robot) (frame_seen first.frame) p
  leaves_alike (alone, is_alone, all) =
      let r = same_room given.obstacles alone first all in
      let start = is_alone.is_scene in
      subst (λ robot. Leaves (spots_seen given.robot) (frame_seen given.frame) p ↔ Leaves (spots_seen robot) (frame_seen first.frame) p) (sym (r.0 ∙ (λ i. (start i).robot)))
      (subst (λ f. Leaves (spots_seen given.robot) (frame_seen given.frame) p ↔ Leaves (spots_seen is_alone.kept) (frame_seen f) p) (sym (r.1 ∙ (λ i. (start i).frame)))
      (λ (z, hz, i, b). (z, hz, (is_alone.is_read.same_points (minus z p)).0 i, b), λ (z, hz, i, b). (z, hz, (is_alone.is_read.same_points (minus z p)).1 i, b)))

  -- ---- what is touched
  abbrev AnyId : ℕ → Type 0
  AnyId id = Unit {0}

  abbrev Meeting : Scene → placement.Obstacle → Type 0
  Meeting s o = Meets (spots_seen s.robot) o.shape p

  any_id : (s : Scene) → Any (Meeting s) (scene_seen s).obstacles → AnyMet AnyId p s
  any_id s m = any_weaker (Meeting s) (λ o. AnyId o.id × Meeting s o) (λ o h. (tt, h)) (scene_seen s).obstacles m

  some_id : (s : Scene) → AnyMet AnyId p s → Any (Meeting s) (scene_seen s).obstacles
  some_id s m = any_weaker (λ o. AnyId o.id × Meeting s o) (Meeting s) (λ o h. h.1) (scene_seen s).obstacles m

  pub touches_alike : IsWhole given first → Touches (scene_seen given) p ↔ Touches (scene_seen first) p
  touches_alike whole =
      let l = leaves_alike whole in
      let m = seen_alike AnyId p given first whole in
      (⊎_elim (λ h. inl (l.0 h)) (λ a. inr (some_id first (m.0 (any_id given a)))), ⊎_elim (λ h. inl (l.1 h)) (λ a. inr (some_id given (m.1 (any_id first a)))))

  pub touched_alike : IsWhole given first → (n : ℕ) → IsTouched (scene_seen first) p n → IsTouched (scene_seen given) p n
  touched_alike whole n (inl (e, h)) = inl (e, (leaves_alike whole).1 h)
  touched_alike whole n (inr (stays, is)) = inr (λ h. stays ((leaves_alike whole).0 h), record { met = (seen_alike (λ m. m ≡ n) p given first whole).1 is.met; least = least })
    where
      lower : AnyMet (λ m. m < n) p first → ⊥
      lower m = let a = any_with (λ o. Meeting first o → n ≤ o.id) (λ o. (o.id < n) × Meeting first o) (λ o. ⊥) (λ o h k. let le = h k.1 in let lt = k.0 in omega arith) (scene_seen first).obstacles is.least m in a.4

      least : (k : ℕ) (d : placement.Obstacle) → k < length (scene_seen given).obstacles → Meeting given (get_or (scene_seen given).obstacles k d) → n ≤ (get_or (scene_seen given).obstacles k d).id
      least k d within h = elim (cases_lt (get_or (scene_seen given).obstacles k d).id n) [
        | inl lt ↦ absurd (lower ((seen_alike (λ m. m < n) p given first whole).0 (k, get_or (scene_seen given).obstacles k d, within, get_or_default (scene_seen given).obstacles k (get_or (scene_seen given).obstacles k d) d within, (lt, h))))
        | inr ge ↦ ge
      ]
