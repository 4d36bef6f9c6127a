-- What is given makes one first scene.
use Rattle.std.proofs.Common.{◌≡◌, List, [], ◌∷◌, map, refl, sym, ap, ap₂, subst, ◌∙◌}
use Rattle.plan_spec.specs.Placement as placement
use Rattle.plan_spec.specs.Frame as spec_frame
use Rattle.plan_grid.specs.declared.frame.Frame.{Frame}
use Rattle.plan_scene.specs.Scene.{Scene, Obstacle, obstacle, obstacle_seen, scene, scene_seen, with_obstacle, with_obstacles}
use Rattle.plan_scene.specs.Edits.{IsAdded}
use Rattle.plan_reply.specs.First.{IsFirst, IsWhole, IsAlone, IsAddedAll}
use Rattle.plan_top.proofs.OneKept.{one_kept, unseen, unseen_is}

-- ---- a scene, by what is seen of it
abbrev unseen_frame : spec_frame.Frame → Frame
unseen_frame f = record { low = record { x = f.low.x; y = f.low.y }; high = record { x = f.high.x; y = f.high.y } }

abbrev unseen_obstacles : List placement.Obstacle → List Obstacle
unseen_obstacles os = map (λ o. obstacle o.id (unseen o.shape)) os

unseen_obstacles_is : (os : List Obstacle) → unseen_obstacles (map obstacle_seen os) ≡ os
unseen_obstacles_is [] = refl
unseen_obstacles_is (o ∷ os) = ap₂ (λ spots rest. obstacle o.id spots ∷ rest) (unseen_is o.spots) (unseen_obstacles_is os)

abbrev unseen_scene : placement.Scene → Scene
unseen_scene s = scene (unseen s.robot) (unseen_frame s.frame) (unseen_obstacles s.obstacles)

unseen_scene_is : (s : Scene) → unseen_scene (scene_seen s) ≡ s
unseen_scene_is s = ap₂ (λ robot os. scene robot s.frame os) (unseen_is s.robot) (unseen_obstacles_is s.obstacles)

pub one_given : (s t : Scene) (seen : placement.Scene) → scene_seen s ≡ seen → scene_seen t ≡ seen → s ≡ t
one_given s t seen h k = sym (unseen_scene_is s) ∙ ap unseen_scene (h ∙ sym k) ∙ unseen_scene_is t

-- ---- edits
pub one_added : (s t u : Scene) (o : Obstacle) → IsAdded s o.id o.spots t → IsAdded s o.id o.spots u → t ≡ u
one_added s t u o (_, _, _, k, read, e) (_, _, _, l, also, f) =
    e ∙ ap (λ kept. with_obstacles s (with_obstacle (obstacle o.id kept) s.obstacles)) (one_kept o.spots k l read also) ∙ sym f

one_added_all : (os : List Obstacle) (s t u : Scene) → IsAddedAll os s t → IsAddedAll os s u → t ≡ u
one_added_all [] s t u h k = h ∙ sym k
one_added_all (o ∷ os) s t u (next, one, rest) (other, two, more) =
    one_added_all os next t u rest (subst (λ z. IsAddedAll os z u) (sym (one_added s next other o one two)) more)

pub one_alone : (given s t : Scene) → IsAlone given s → IsAlone given t → s ≡ t
one_alone given s t h k = h.is_scene ∙ ap (λ kept. scene kept given.frame []) (one_kept given.robot h.kept k.kept h.is_read k.is_read) ∙ sym k.is_scene

pub one_whole : (given s t : Scene) → IsWhole given s → IsWhole given t → s ≡ t
one_whole given s t (a, is_a, h) (b, is_b, k) = one_added_all given.obstacles a s t h (subst (λ z. IsAddedAll given.obstacles z t) (sym (one_alone given a b is_a is_b)) k)

pub one_first : (given s t : Scene) → IsFirst given s → IsFirst given t → s ≡ t
one_first given s t h k = one_whole given s t h.0 k.0
