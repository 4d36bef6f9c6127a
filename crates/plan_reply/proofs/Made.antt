-- The obstacles put in so far, and the next one: put in, or refused.
use Rattle.std.proofs.Common.{ℕ, zero, suc, ◌+◌, ◌<◌, List, [], ◌∷◌, take, length, get_or, refl, subst, arith, Result, Ok, Err, MatchResult, add-one}
use Rattle.plan_scene.specs.Scene.{Scene, Obstacle}
use Rattle.plan_scene.specs.Edits.{IsAdded, IsNotAdded, IsEdited, IsRefused}
use Rattle.plan_scene.specs.declared.edit.Edit.{Edit}
use Rattle.plan_scene.specs.declared.edit.Edit.TheVariants.{Add, Remove}
use Rattle.plan_scene.specs.declared.fault.EditFault.{EditFault}
use Rattle.plan_grid.specs.declared.frame.Frame.{Frame}
use Rattle.plan_grid.specs.declared.spot.Spot.{Spot}
use Rattle.plan_reply.specs.First.{IsAdd, IsAddedAll, IsRefusedAt, IsAlone, IsWhole, IsRefusedFirst, IsMade, IsNotMade, given_of, obstacle_of}
use Rattle.plan_reply.specs.Step.{IsCause}
use Rattle.plan_reply.specs.declared.fault.FirstFault.{FirstFault}
use Rattle.plan_reply.specs.declared.fault.FirstFault.TheVariants.{RobotNotSimple, Obstacle as ObstacleAt, TooManyRegions, NoMemory}

-- ---- an edit that adds
pub as_added : (s t : Scene) (e : Edit) → IsAdd e → IsEdited s e t → IsAdded s (obstacle_of e).id (obstacle_of e).spots t
as_added s t (Add id spots) h k = k
as_added s t (Remove id) h k = absurd h

pub as_not_added : (s : Scene) (e : Edit) (fault : EditFault) → IsAdd e → IsRefused s e fault → IsNotAdded s (obstacle_of e).id (obstacle_of e).spots fault
as_not_added s (Add id spots) fault h k = k
as_not_added s (Remove id) fault h k = absurd h

-- ---- those so far
one_after : (os : List Obstacle) (i : ℕ) (d : Obstacle) (s t u : Scene) → i < length os → IsAddedAll (take i os) s t → IsAdded t (get_or os i d).id (get_or os i d).spots u → IsAddedAll (take (suc i) os) s u
one_after [] i d s t u within h k = absurd (omega arith)
one_after (o ∷ os) zero d s t u within h k = (u, subst (λ s. IsAdded s o.id o.spots u) h k, refl)
one_after (o ∷ os) (suc i) d s t u within h k = (h.0, h.1, one_after os i d h.0 t u (omega arith) h.2 k)

pub refused_at : (os : List Obstacle) (i : ℕ) (d : Obstacle) (s t : Scene) (fault : EditFault) → i < length os → IsAddedAll (take i os) s t → IsNotAdded t (get_or os i d).id (get_or os i d).spots fault → IsCause fault → IsRefusedAt i fault os s
refused_at [] i d s t fault within h k cause = absurd (omega arith)
refused_at (o ∷ os) zero d s t fault within h k cause = (subst (λ s. IsNotAdded s o.id o.spots fault) h k, cause)
refused_at (o ∷ os) (suc i) d s t fault within h k cause = (h.0, h.1, refused_at os i d h.0 t fault (omega arith) h.2 k cause)

pub one_more : (os : List Obstacle) (i : ℕ) (d : Obstacle) (s t u : Scene) → i < length os → IsAddedAll (take i os) s t → IsAdded t (get_or os i d).id (get_or os i d).spots u → IsAddedAll (take (i + 1) os) s u
one_more os i d s t u within h k = rw add-one (one_after os i d s t u within h k)

-- what is made of the robot alone, is made of what is given
pub of_alone : (frame : Frame) (robot : List Spot) (adds : List Edit) (alone : Scene) → IsAlone (given_of frame robot adds) alone → (first : Result Scene FirstFault) → MatchResult first (IsMade adds alone) (IsNotMade adds alone)
    → MatchResult first (IsWhole (given_of frame robot adds)) (IsRefusedFirst (given_of frame robot adds))
of_alone frame robot adds alone is_alone (Ok s) h = (alone, is_alone, h)
of_alone frame robot adds alone is_alone (Err (ObstacleAt at fault)) h = (alone, is_alone, h)
of_alone frame robot adds alone is_alone (Err (RobotNotSimple i j)) h = absurd h
of_alone frame robot adds alone is_alone (Err TooManyRegions) h = absurd h
of_alone frame robot adds alone is_alone (Err NoMemory) h = tt
